use Rattle.rg_first.proofs.Steps.{first-stays}
use Rattle.rg_first.proofs.laws.first_stays.Goals as goal

pub returns : goal.returns
returns c = first-stays
