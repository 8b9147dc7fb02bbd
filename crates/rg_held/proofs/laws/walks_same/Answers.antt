use Rattle.rg_held.proofs.Walks.Walk.{walks-same}
use Rattle.rg_held.proofs.laws.walks_same.Goals as goal

pub returns : goal.returns
returns c = walks-same
