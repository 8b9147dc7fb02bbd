use Rattle.rg_opening.proofs.GoesBack.{goes-back}
use Rattle.rg_opening.proofs.laws.content_goes_back.Goals as goal

pub returns : goal.returns
returns c = goes-back
