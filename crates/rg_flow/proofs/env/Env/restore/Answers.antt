use Rattle.std.proofs.Common.{◌≡◌, ◌∙◌, ap, length}
use Rattle.rg_flow.specs.States.{restated}
use Rattle.rg_flow.proofs.Envs.{kept-flow, scope-restated, length-seen}
use Rattle.rg_flow.proofs.env.Env.restore.Goals as goal

pub invariant_of-self : goal.invariant_of-self
invariant_of-self c =
    let i = c.self.inside in
    let e : length i.vars.items ≡ length c.args.self.now.slots = length-seen i.depth i.vars.items i.flow c.args.self.now c.self.view_is in
    kept-flow i.depth i.vars.items i.places i.flow c.args.flow c.self.invariant (λ k l. c.requires k (rw e at l))

pub returns : goal.returns
returns c =
    let i = c.self.inside in
    scope-restated i.depth i.vars.items i.flow c.args.flow ∙ ap (restated c.args.flow) c.self.view_is
