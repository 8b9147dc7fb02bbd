use Rattle.rg_same.proofs.Maps.{same-module}
use Rattle.rg_same.proofs.laws.same_module.Goals as goal

pub returns : goal.returns
returns c = same-module
