use Rattle.rg_contents.proofs.Worlds.{beginning-allowed}
use Rattle.rg_contents.proofs.laws.beginning_is_allowed.Goals as goal

pub returns : goal.returns
returns c = beginning-allowed c.plans_are_good.ensures c.behaviour_opening_fits.ensures c.content_goes_back.ensures
