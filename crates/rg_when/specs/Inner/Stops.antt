-- How a call ends whose schedule wasn't run to its end (docs/promises.md, "The headline").
use Rattle.rg_base.specs.declared.fault.Code.TheVariants.{Schedule}
use Rattle.rg_sched.specs.declared.stop.SchedStop.{SchedStop}
use Rattle.rg_sched.specs.declared.stop.SchedStop.TheVariants as stop
use Rattle.rg_words.specs.declared.status.Status.{Status}
use Rattle.rg_words.specs.declared.status.Status.TheVariants as status

-- the status of a call whose schedule wasn't run to its end
abbrev pub status_of : SchedStop → Status
status_of (stop.Bad item) = status.Refused (record { code = Schedule; line = item })
status_of stop.Spent = status.Spent
status_of stop.InputFault = status.InputFault
status_of stop.Memory = status.Memory
