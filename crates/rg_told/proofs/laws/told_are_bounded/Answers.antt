use Rattle.rg_told.proofs.Bounded.{told-bounded}
use Rattle.rg_told.proofs.laws.told_are_bounded.Goals as goal

pub returns : goal.returns
returns c = told-bounded c.bodies_are_told.ensures
