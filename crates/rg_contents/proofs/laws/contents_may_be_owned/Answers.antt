use Rattle.rg_contents.proofs.Worlds.{contents-owned}
use Rattle.rg_contents.proofs.laws.contents_may_be_owned.Goals as goal

pub returns : goal.returns
returns c = contents-owned c.plans_are_good.ensures c.behaviour_opening_fits.ensures c.content_goes_back.ensures
