use Rattle.rg_tree.proofs.Stopping.{Stops-unique}
use Rattle.rg_tree.proofs.laws.stuck_once.Goals as goal

pub returns : goal.returns
returns c = λ ts a b f e r q. Stops-unique r q
