use Rattle.rg_same.proofs.Maps.{module-tells}
use Rattle.rg_same.proofs.laws.module_tells_lines.Goals as goal

pub returns : goal.returns
returns c = module-tells
