-- How a behaviour stands, and what it has printed (docs/architecture.md, "Schedules").
use Rattle.std.specs.Prelude.{List, [], Option, Some, None}
use Rattle.rg_base.specs.declared.value.Val.{Val}
use Rattle.rg_rules.specs.Runs.{Ending, Running, Done, Stopped, Ran}
use Rattle.rg_sched_atomic.specs.declared.phase.Phase.{Phase}
use Rattle.rg_sched_atomic.specs.declared.phase.Phase.TheVariants as phase

-- the phase of a behaviour whose run stands so
abbrev pub phase_by : Ending → Phase
phase_by Running = phase.Running
phase_by Done = phase.Done
phase_by (Stopped kind line) = phase.Trap kind line

-- the phase of a behaviour that has such a run, if it has begun
abbrev pub phase_of : Option Ran → Phase
phase_of None = phase.Waiting
phase_of (Some r) = phase_by r.ending

-- what it has printed
abbrev pub printed_by : Option Ran → List Val
printed_by None = []
printed_by (Some r) = r.state.output
