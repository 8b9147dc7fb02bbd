use Rattle.rg_limits.proofs.Levels.{opens-shallow}
use Rattle.rg_limits.proofs.laws.opens_bound_blocks.Goals as goal

pub returns : goal.returns
returns c = opens-shallow
