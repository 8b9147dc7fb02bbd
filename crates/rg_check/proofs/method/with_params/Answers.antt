use Rattle.std.proofs.Common.{sym, ◌∙◌}
use Rattle.rg_check.proofs.ParamSteps.{param-good, params-step}
use Rattle.rg_check.proofs.method.with_params.Goals as goal

pub unreachable-requires : goal.unreachable-requires
unreachable-requires c =
    let t = c.args.program.now in
    let good = param-good t c.args.these.now c.loop-k.k-index c.param-param.result c.loop-k-test.true
    c.param-param.ensures.tree c.requires.types in
    c.in_default.not-Ok _ (c.ty.ensures.tree t c.requires.table c.param-param.ensures.below.ty ∙ good)

pub loop-k-preserved : goal.loop-k-preserved
loop-k-preserved c =
    let t = c.args.program.now in
    let below = c.param-param.ensures.below in
    params-step t c.args.env c.args.these.now c.loop-k.k-index c.loop-k.env c.param-param.result c.loop-k-test.true c.param-param.ensures.tree
    c.loop-k.invariant below _ (sym (c.ty.ensures.tree t c.requires.table below.ty) ∙ c.in-Ok.is)
    (c.in-Ok.ensures.known t c.requires.table below.ty) _
    c.in_ok-env.ensures.scope (c.in_ok-env.ensures.tree t)
