use Rattle.rg_first.proofs.Runs.{runs-go_on}
use Rattle.rg_first.proofs.laws.runs_go_on.Goals as goal

pub returns : goal.returns
returns c = runs-go_on
