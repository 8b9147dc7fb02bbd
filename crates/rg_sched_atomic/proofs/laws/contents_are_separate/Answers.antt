use Rattle.rg_sched_atomic.specs.Events.{world_after}
use Rattle.rg_sched_atomic.proofs.Worlds.{world_stands}
use Rattle.rg_sched_atomic.proofs.Rest.{separate, rests_after}
use Rattle.rg_sched_atomic.proofs.laws.contents_are_separate.Goals as goal

pub returns : goal.returns
returns c = λ classes s schedule twice.
    separate classes s (world_after classes s schedule) (world_stands classes s schedule twice) (rests_after classes s schedule twice)
