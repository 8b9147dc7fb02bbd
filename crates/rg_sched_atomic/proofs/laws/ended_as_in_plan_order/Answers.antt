use Rattle.rg_sched_atomic.specs.Events.{world_after}
use Rattle.rg_sched_atomic.proofs.Worlds.{world_stands}
use Rattle.rg_sched_atomic.proofs.Order.{in_plan_order}
use Rattle.rg_sched_atomic.proofs.laws.ended_as_in_plan_order.Goals as goal

pub returns : goal.returns
returns c = λ classes s schedule twice ended. in_plan_order classes s (world_after classes s schedule) (world_stands classes s schedule twice) ended
