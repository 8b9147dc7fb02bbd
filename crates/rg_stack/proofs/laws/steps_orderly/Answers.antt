use Rattle.rg_stack.proofs.Callers.Refusal.{steps-orderly}
use Rattle.rg_stack.proofs.laws.steps_orderly.Goals as goal

pub returns : goal.returns
returns c = steps-orderly
