-- What the notes have taken of the collections of a run.
use Rattle.std.proofs.Common.{◌≡◌, ℕ, Bool, true, false, List, [], length, Option, refl, ap}
use Rattle.std.proofs.Common.{arith}
use Rattle.rg_base.specs.declared.event.Event.{Event}
use Rattle.rg_base.specs.declared.fault.Fault.{Fault}
use Rattle.rg_base.specs.declared.outcome.Ended.{Ended}
use Rattle.rg_base.specs.declared.outcome.Ended.TheVariants as ended
use Rattle.rg_io.specs.Files.{Told}
use Rattle.rg_run.specs.Machine.{Stepping}
use Rattle.rg_run.specs.Machine.{Kept, IsFresh}
use Rattle.rg_run.specs.Reports.{Reports}
use Rattle.rg_words.specs.declared.status.Status.{Status}
use Rattle.rg_words.specs.declared.status.Status.TheVariants as status
use Rattle.rg_words.specs.Commands.{Origin}
use Rattle.rg_words.proofs.Written.{untouched-text}
use Rattle.rg_sources.specs.Brings.{Refuses}
use Rattle.rg_commands.specs.Settled.{status_of_ended, Reported}

-- what a run on the machine has given to the notes
pub ran-reported : (report : Bool) (e : Ended) (events : List Event) (old new : Option (List ℕ)) → Reports report e events old new →
    Reported report (status_of_ended e) events old new
ran-reported false e events old new h = h
ran-reported true ended.Done events old new h = h
ran-reported true ended.Spent events old new h = h
ran-reported true (ended.Trap kind line) events old new h = h
ran-reported true ended.InputFault events old new h = h
ran-reported true ended.OutputFault events old new h = h
ran-reported true ended.Memory events old new h = h

-- where none began, nothing was given to them
pub quiet-refused : (report : Bool) (f : Fault) (events : List Event) (old : Option (List ℕ)) → Reported report (status.Refused f) events old old
quiet-refused false f events old = refl
quiet-refused true f events old = refl

pub quiet-memory : (report : Bool) (m : Kept) (old : Option (List ℕ)) → IsFresh m → Reported report status.Memory m.stepper.events old old
quiet-memory false m old fresh = refl
quiet-memory true m old fresh =
    let none : m.stepper.events ≡ [] = ap (λ (s : Stepping). s.events) fresh.stepper in
    (0, omega (arith, ap length none), untouched-text old old refl)

pub quiet-refuses : (report : Bool) (told : Option Told) (origin : Origin) (s : Status) (m : Kept) (old : Option (List ℕ)) → IsFresh m →
    Refuses told origin s → Reported report s m.stepper.events old old
quiet-refuses false told origin s m old fresh h = refl
quiet-refuses true told origin status.Done m old fresh h = absurd h
quiet-refuses true told origin (status.Refused f) m old fresh h = refl
quiet-refuses true told origin status.Usage m old fresh h = refl
quiet-refuses true told origin (status.Trap kind line) m old fresh h = absurd h
quiet-refuses true told origin status.Spent m old fresh h = absurd h
quiet-refuses true told origin (status.Away n) m old fresh h = absurd h
quiet-refuses true told origin status.SourceFault m old fresh h = refl
quiet-refuses true told origin status.InputFault m old fresh h = absurd h
quiet-refuses true told origin status.OutputFault m old fresh h = absurd h
quiet-refuses true told origin status.Memory m old fresh h = quiet-memory true m old fresh
quiet-refuses true told origin status.Long m old fresh h = refl
