use Rattle.rg_alike.proofs.Standing.{stand-alike}
use Rattle.rg_alike.proofs.laws.stand_alike.Goals as goal

pub returns : goal.returns
returns c = stand-alike
