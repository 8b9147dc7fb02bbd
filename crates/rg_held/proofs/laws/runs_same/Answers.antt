use Rattle.rg_held.proofs.Walks.Run.{runs-same}
use Rattle.rg_held.proofs.laws.runs_same.Goals as goal

pub returns : goal.returns
returns c = runs-same
