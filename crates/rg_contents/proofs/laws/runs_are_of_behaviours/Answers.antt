use Rattle.rg_contents.proofs.Worlds.{runs-of_behaviours}
use Rattle.rg_contents.proofs.laws.runs_are_of_behaviours.Goals as goal

pub returns : goal.returns
returns c = runs-of_behaviours c.plans_are_good.ensures c.behaviour_opening_fits.ensures c.content_goes_back.ensures
