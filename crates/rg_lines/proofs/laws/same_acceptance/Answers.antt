use Rattle.rg_lines.proofs.Acceptance.{same-acceptance}
use Rattle.rg_lines.proofs.laws.same_acceptance.Goals as goal

pub returns : goal.returns
returns c = same-acceptance
