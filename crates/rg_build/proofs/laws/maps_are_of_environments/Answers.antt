use Rattle.rg_build.proofs.Points.{maps-are}
use Rattle.rg_build.proofs.laws.maps_are_of_environments.Goals as goal

pub returns : goal.returns
returns c = maps-are
