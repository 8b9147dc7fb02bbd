use Rattle.std.proofs.Common.{◌∙◌, ap}
use Rattle.rg_flow.specs.States.{joined_with}
use Rattle.rg_flow.proofs.Flows.{joined-past}
use Rattle.rg_flow.proofs.Envs.{kept-flow, scope-joined}
use Rattle.std.proofs.Common.{length}
use Rattle.rg_flow.proofs.env.Env.join.Goals as goal

pub invariant_of-self : goal.invariant_of-self
invariant_of-self c =
    let i = c.self.inside in
    kept-flow i.depth i.vars.items i.places i.flow c.join-joined.result c.self.invariant
    (joined-past c.args.flow i.flow c.join-joined.result (length i.vars.items) c.join-joined.ensures c.self.invariant.past)

pub returns : goal.returns
returns c =
    let i = c.self.inside in
    scope-joined i.depth i.vars.items c.args.flow i.flow c.join-joined.result c.join-joined.ensures ∙ ap (joined_with c.args.flow) c.self.view_is
