use Rattle.rg_lasting.proofs.Along.{first-lasts-along}
use Rattle.rg_lasting.proofs.laws.first_lasts_along.Goals as goal

pub returns : goal.returns
returns c = first-lasts-along c.first_stays.ensures
