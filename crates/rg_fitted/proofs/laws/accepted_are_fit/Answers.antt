use Rattle.rg_fitted.proofs.Fit.{accepted-fit}
use Rattle.rg_fitted.proofs.laws.accepted_are_fit.Goals as goal

pub returns : goal.returns
returns c = accepted-fit
