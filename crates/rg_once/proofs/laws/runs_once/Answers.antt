use Rattle.rg_once.proofs.Run.{runs-once}
use Rattle.rg_once.proofs.laws.runs_once.Goals as goal

pub returns : goal.returns
returns c = runs-once
