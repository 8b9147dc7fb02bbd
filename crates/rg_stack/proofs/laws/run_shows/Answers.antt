use Rattle.rg_stack.proofs.Callers.Run.{run-shows}
use Rattle.rg_stack.proofs.laws.run_shows.Goals as goal

pub returns : goal.returns
returns c = run-shows
