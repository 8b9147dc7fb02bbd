use Rattle.rg_alike.proofs.Standing.{tell-alike}
use Rattle.rg_alike.proofs.laws.tell_alike.Goals as goal

pub returns : goal.returns
returns c = tell-alike
