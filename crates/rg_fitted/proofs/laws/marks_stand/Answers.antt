use Rattle.rg_fitted.proofs.Places.{marks-stand}
use Rattle.rg_fitted.proofs.laws.marks_stand.Goals as goal

pub returns : goal.returns
returns c = marks-stand c.maps_are_of_environments.ensures
