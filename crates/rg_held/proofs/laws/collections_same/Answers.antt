use Rattle.rg_held.proofs.Gather.Whole.{gathers-fit}
use Rattle.rg_held.proofs.laws.collections_same.Goals as goal

pub returns : goal.returns
returns c = gathers-fit
