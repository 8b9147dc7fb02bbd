use Rattle.std.proofs.lemmas.Result.{err_from_is_err_and}
use Rattle.rg_names.proofs.ParamSteps.{params-repeated, params-mistyped, params-step}
use Rattle.rg_names.proofs.headers.params.Goals as goal

pub returns-in_err-fresh : goal.returns-in_err-fresh
returns-in_err-fresh c =
    let p = err_from_is_err_and c.from_residual.result c.from_residual.ensures.1 in
    rw (p.1, p.2) (params-repeated _ _ c.requires.heads _ _ _ _ c.param-param.result c.loop-k.invariant c.loop-k-test.true
    c.param-param.ensures.tree c.param-param.ensures.below _ c.in_err-fresh.ensures.judged)

pub returns-in_err-ty : goal.returns-in_err-ty
returns-in_err-ty c =
    let p = err_from_is_err_and c.from_residual-in_err-ty.result c.from_residual-in_err-ty.ensures.1 in
    rw (p.1, p.2) (params-mistyped _ _ c.requires.heads _ _ _ _ c.param-param.result c.loop-k.invariant c.loop-k-test.true
    c.param-param.ensures.tree c.param-param.ensures.below _ c.in_ok-fresh.ensures.judged c.in_err-ty.ensures.judged)

pub loop-k-preserved : goal.loop-k-preserved
loop-k-preserved c =
    rw (c.in_ok-push.ensures.ok) (params-step _ _ c.requires.heads _ _ _ _ c.param-param.result c.loop-k.invariant c.loop-k-test.true
    c.param-param.ensures.tree c.param-param.ensures.below c.in_ok-fresh.ensures.judged _ c.in_ok-ty.ensures.judged)
