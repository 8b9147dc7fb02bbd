use Rattle.rg_limits.proofs.Lineless.{limits-lineless}
use Rattle.rg_limits.proofs.laws.limits_are_lineless.Goals as goal

pub returns : goal.returns
returns c = limits-lineless c.same_names.ensures
