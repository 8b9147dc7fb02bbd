use Rattle.rg_lines.proofs.Plain.{same-runs}
use Rattle.rg_lines.proofs.laws.same_runs.Goals as goal

pub returns : goal.returns
returns c = same-runs
