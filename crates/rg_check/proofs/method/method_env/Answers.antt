use Rattle.rg_check.proofs.ParamSteps.{front-is}
use Rattle.rg_check.proofs.method.method_env.Goals as goal

pub returns-clause-env : goal.returns-clause-env
returns-clause-env c =
    let t = c.args.program.now in
    front-is t c.args.class c.args.method c.new.result c.in_ok-env.env c.order.result.now c.with_params.result c.new.ensures
    (c.in_ok-env.ensures.tree t) c.order.ensures c.with_params.ensures.env
