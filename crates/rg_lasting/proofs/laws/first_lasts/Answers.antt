use Rattle.rg_lasting.proofs.Lasts.{first-lasts}
use Rattle.rg_lasting.proofs.laws.first_lasts.Goals as goal

pub returns : goal.returns
returns c = first-lasts c.first_stays.ensures
