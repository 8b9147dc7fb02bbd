use Rattle.rg_lines.proofs.Acceptance.{same-fault}
use Rattle.rg_lines.proofs.laws.same_fault.Goals as goal

pub returns : goal.returns
returns c = same-fault
