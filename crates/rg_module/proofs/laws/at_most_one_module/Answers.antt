use Rattle.rg_module.proofs.Spelt.{spells_one}
use Rattle.rg_module.proofs.laws.at_most_one_module.Goals as goal

pub returns : goal.returns
returns c = spells_one
