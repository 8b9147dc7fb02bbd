use Rattle.rg_marks.proofs.Told.{code-tells}
use Rattle.rg_marks.proofs.laws.code_tells_lines.Goals as goal

pub returns : goal.returns
returns c = code-tells
