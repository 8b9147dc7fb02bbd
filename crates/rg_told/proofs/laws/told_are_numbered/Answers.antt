use Rattle.rg_told.proofs.Numbered.{told-numbered}
use Rattle.rg_told.proofs.laws.told_are_numbered.Goals as goal

pub returns : goal.returns
returns c = told-numbered
