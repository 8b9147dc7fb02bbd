use Rattle.rg_sched_atomic.specs.Events.{world_after}
use Rattle.rg_sched_atomic.proofs.Worlds.{world_stands}
use Rattle.rg_sched_atomic.proofs.Fronts.{fronts_are_enough}
use Rattle.rg_sched_atomic.proofs.laws.fronts_are_enough.Goals as goal

pub returns : goal.returns
returns c = λ classes s schedule i b twice there.
    fronts_are_enough classes s (world_after classes s schedule) i b (world_stands classes s schedule twice) there
