use Rattle.rg_held.proofs.Callers.Step.{steps-same}
use Rattle.rg_held.proofs.laws.steps_same.Goals as goal

pub returns : goal.returns
returns c = steps-same
