use Rattle.rg_stack.proofs.Callers.Step.{steps-given}
use Rattle.rg_stack.proofs.laws.steps_given.Goals as goal

pub returns : goal.returns
returns c = steps-given
