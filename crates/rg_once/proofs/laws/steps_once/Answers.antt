use Rattle.rg_once.proofs.Law.{steps-once}
use Rattle.rg_once.proofs.laws.steps_once.Goals as goal

pub returns : goal.returns
returns c = steps-once
