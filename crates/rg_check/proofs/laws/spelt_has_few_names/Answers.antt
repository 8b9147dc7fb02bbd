use Rattle.rg_check.proofs.Spelling.{grows}
use Rattle.rg_check.proofs.laws.spelt_has_few_names.Goals as goal

pub returns : goal.returns
returns c = λ source r ts s. grows s.1
