use Rattle.rg_lines.proofs.Asks.{same-asks}
use Rattle.rg_lines.proofs.laws.same_asks.Goals as goal

pub returns : goal.returns
returns c = same-asks
