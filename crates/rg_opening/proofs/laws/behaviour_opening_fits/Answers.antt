use Rattle.rg_opening.proofs.Fits.{opening-fits}
use Rattle.rg_opening.proofs.laws.behaviour_opening_fits.Goals as goal

pub returns : goal.returns
returns c = opening-fits
