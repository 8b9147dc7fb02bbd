use Rattle.rg_stack.proofs.Callers.Due.{steps-due}
use Rattle.rg_stack.proofs.laws.steps_due.Goals as goal

pub returns : goal.returns
returns c = steps-due
