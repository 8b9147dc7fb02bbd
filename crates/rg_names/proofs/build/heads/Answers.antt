use Rattle.std.proofs.lemmas.Result.{err_from_is_err_and}
use Rattle.rg_names.proofs.HeadSteps.{heads-fault, heads-step}
use Rattle.rg_names.proofs.build.heads.Goals as goal

pub returns-in_err-fresh-clause-judged : goal.returns-in_err-fresh-clause-judged
returns-in_err-fresh-clause-judged c =
    let p = err_from_is_err_and c.from_residual.result c.from_residual.ensures.1 in
    rw (p.1, p.2) (heads-fault _ _ _ c.class-class.result c.loop-i.invariant c.class-class.ensures.row _ c.in_err-fresh.ensures.judged)

pub loop-i-preserved : goal.loop-i-preserved
loop-i-preserved c =
    rw (c.in_ok-push.ensures.ok) (heads-step _ _ _ c.class-class.result c.loop-i.invariant c.class-class.ensures.row c.in_ok-fresh.ensures.judged)
