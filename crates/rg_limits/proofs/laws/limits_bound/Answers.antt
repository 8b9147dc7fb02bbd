use Rattle.rg_base.specs.declared.limits.TheConstants.{BRACKETS}
use Rattle.rg_limits.proofs.Levels.{opens-shallow}
use Rattle.rg_limits.proofs.laws.limits_bound.Goals as goal

pub returns : goal.returns
returns c = λ t h. (h.parts, opens-shallow t BRACKETS h.brackets)
