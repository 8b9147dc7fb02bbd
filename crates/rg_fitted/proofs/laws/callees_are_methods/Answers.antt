use Rattle.rg_fitted.proofs.Callees.{callees-stand}
use Rattle.rg_fitted.proofs.laws.callees_are_methods.Goals as goal

pub returns : goal.returns
returns c = callees-stand
