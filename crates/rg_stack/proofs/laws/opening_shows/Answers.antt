use Rattle.rg_stack.proofs.Callers.Opening.{opening-shows}
use Rattle.rg_stack.proofs.laws.opening_shows.Goals as goal

pub returns : goal.returns
returns c = opening-shows
