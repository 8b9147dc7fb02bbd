use Rattle.rg_marks.proofs.Bodies.{same-code}
use Rattle.rg_marks.proofs.laws.same_code.Goals as goal

pub returns : goal.returns
returns c = same-code
