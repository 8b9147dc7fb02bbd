use Rattle.rg_flow.proofs.Envs.{states-seen, covers-seen}
use Rattle.rg_flow.proofs.env.Env.covers.Goals as goal

pub returns : goal.returns
returns c =
    let i = c.self.inside in
    covers-seen c.covers.result i.flow c.args.head.now c.args.self.now.slots
    (states-seen i.depth i.vars.items i.places i.flow c.args.self.now c.self.invariant c.self.view_is) c.covers.ensures
