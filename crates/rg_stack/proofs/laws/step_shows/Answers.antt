use Rattle.rg_stack.proofs.Callers.Step.{step-shows}
use Rattle.rg_stack.proofs.laws.step_shows.Goals as goal

pub returns : goal.returns
returns c = step-shows
