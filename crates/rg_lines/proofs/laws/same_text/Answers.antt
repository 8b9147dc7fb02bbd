use Rattle.rg_lines.proofs.Texts.{same-text}
use Rattle.rg_lines.proofs.laws.same_text.Goals as goal

pub returns : goal.returns
returns c = same-text
