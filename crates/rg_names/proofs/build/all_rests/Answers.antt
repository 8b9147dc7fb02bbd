use Rattle.std.proofs.lemmas.Result.{err_from_is_err_and}
use Rattle.rg_names.proofs.ClassSteps.{classes-fault, classes-step}
use Rattle.rg_names.proofs.build.all_rests.Goals as goal

pub returns-in_err-found-clause-judged : goal.returns-in_err-found-clause-judged
returns-in_err-found-clause-judged c =
    let p = err_from_is_err_and c.from_residual.result c.from_residual.ensures.1 in
    rw (p.1, p.2) (classes-fault _ _ _ _ _ c.class.result c.loop-i.invariant c.class.ensures.row _ c.in_err-found.ensures.judged)

pub loop-i-preserved : goal.loop-i-preserved
loop-i-preserved c =
    rw (c.in-Ok-push.ensures.items, c.in_ok-found.ensures.entries, c.in-Ok.ensures.items, c.in_ok-found.ensures.element, c.in_ok-found.ensures.methods)
    (classes-step _ _ _ _ _ c.class.result c.loop-i.invariant c.class.ensures.row c.in_ok-found.ensures.judged)
