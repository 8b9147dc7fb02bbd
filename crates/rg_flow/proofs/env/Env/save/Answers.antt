use Rattle.std.proofs.Common.{ap, length}
use Rattle.rg_flow.proofs.Envs.{saved-seen}
use Rattle.rg_flow.proofs.env.Env.save.Goals as goal

pub returns : goal.returns
returns c =
    let i = c.self.inside in
    saved-seen (record { depth = i.depth; len = length c.as_slice.result.now; flow = i.flow }) i.vars.items i.places c.args.self.now
    c.self.invariant c.self.view_is
    (ap length c.as_slice.ensures.value)
