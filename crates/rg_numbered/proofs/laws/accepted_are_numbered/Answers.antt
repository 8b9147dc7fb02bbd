use Rattle.rg_numbered.proofs.Bodies.{accepted-numbered}
use Rattle.rg_numbered.proofs.laws.accepted_are_numbered.Goals as goal

pub returns : goal.returns
returns c = accepted-numbered
