use Rattle.rg_sched_atomic.proofs.Worlds.{world_stands}
use Rattle.rg_sched_atomic.proofs.laws.every_schedule_is_one_by_one.Goals as goal

pub returns : goal.returns
returns c = λ classes s schedule twice. (world_stands classes s schedule twice).world
