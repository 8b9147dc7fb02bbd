use Rattle.rg_lines.proofs.AllLines.{same-up_to_lines}
use Rattle.rg_lines.proofs.laws.same_up_to_lines.Goals as goal

pub returns : goal.returns
returns c = same-up_to_lines
