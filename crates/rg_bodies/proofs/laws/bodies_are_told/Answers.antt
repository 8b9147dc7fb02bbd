use Rattle.rg_bodies.proofs.Stand.{are-told}
use Rattle.rg_bodies.proofs.laws.bodies_are_told.Goals as goal

pub returns : goal.returns
returns c = are-told
