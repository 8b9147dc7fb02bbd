use Rattle.rg_sched_atomic.specs.Events.{world_after}
use Rattle.rg_sched_atomic.proofs.Worlds.{world_stands}
use Rattle.rg_sched_atomic.proofs.Alike.{all_alike}
use Rattle.rg_sched_atomic.proofs.laws.ended_alike.Goals as goal

pub returns : goal.returns
returns c = λ classes s one other twice p q.
    all_alike classes s (world_after classes s one) (world_after classes s other)
    (world_stands classes s one twice) (world_stands classes s other twice) p q
