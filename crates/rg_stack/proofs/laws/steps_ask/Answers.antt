use Rattle.rg_stack.proofs.Callers.Read.{steps-ask}
use Rattle.rg_stack.proofs.laws.steps_ask.Goals as goal

pub returns : goal.returns
returns c = steps-ask
