use Rattle.rg_bodies.proofs.Stand.{stand-once}
use Rattle.rg_bodies.proofs.laws.bodies_stand_once.Goals as goal

pub returns : goal.returns
returns c = stand-once
