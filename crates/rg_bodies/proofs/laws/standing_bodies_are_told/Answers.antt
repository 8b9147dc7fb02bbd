use Rattle.rg_bodies.proofs.Stand.{standing-are-told}
use Rattle.rg_bodies.proofs.laws.standing_bodies_are_told.Goals as goal

pub returns : goal.returns
returns c = standing-are-told
