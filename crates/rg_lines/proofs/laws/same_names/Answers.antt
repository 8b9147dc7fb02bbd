use Rattle.rg_lines.proofs.FewNames.{same-names}
use Rattle.rg_lines.proofs.laws.same_names.Goals as goal

pub returns : goal.returns
returns c = same-names
