use Rattle.rg_first.proofs.Runs.{first-of_runs}
use Rattle.rg_first.proofs.laws.first_of_runs.Goals as goal

pub returns : goal.returns
returns c = first-of_runs c.behaviour_opening_fits.ensures
