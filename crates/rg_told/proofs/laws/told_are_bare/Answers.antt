use Rattle.rg_told.proofs.Bare.{told-bare}
use Rattle.rg_told.proofs.laws.told_are_bare.Goals as goal

pub returns : goal.returns
returns c = told-bare
