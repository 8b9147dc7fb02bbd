-- What a step does behind its instructions (docs/architecture.md, "The stepper").
use Rattle.std.specs.Prelude.{◌≡◌, ◌<◌, ℕ, Bool, true, false, Option, Some, None, Result, Ok, Err, length, vec_capacity}
use Rattle.std.specs.declared.vec.Vec.{Vec}
use Rattle.rg_base.specs.declared.words.Manager.{Manager}
use Rattle.rg_base.specs.declared.words.Manager.TheVariants.{Arena, Count, Trace}
use Rattle.rg_base.specs.declared.event.Cause.{Cause}
use Rattle.rg_base.specs.declared.event.Cause.TheVariants.{Asked, Paced}
use Rattle.rg_base.specs.declared.event.Event.{Event}
use Rattle.rg_base.specs.declared.value.Val.{Val}
use Rattle.rg_base.specs.declared.outcome.Outcome.{Outcome}
use Rattle.rg_base.specs.declared.outcome.Outcome.TheVariants as outcome
use Rattle.rg_pace.specs.Asked.{one_more, with_ask}
use Rattle.rg_step.specs.declared.step.Did.{Did}
use Rattle.rg_step.specs.declared.step.Did.TheVariants as did
use Rattle.rg_step.specs.declared.stopped.Stopped.{Stopped}
use Rattle.rg_step.specs.declared.stopped.Stopped.TheVariants as stopped
use Rattle.rg_machine.specs.Parts.{Parts, machine_in}
use Rattle.rg_step.specs.Frees.{FreesOnly, StaysGone}
use Rattle.rg_step.specs.States.{Raises}
use Rattle.rg_step.specs.Steps.{IsResting, is_made}
use Rattle.rg_step.specs.Stepping.{Since}
use Rattle.rg_step.specs.Collections.{since_then}
use Rattle.rg_step.specs.Pacers.{Asks}

-- what is answered of what a step did and printed, or why it stopped, where its mark has this line
abbrev pub answer : Result Did Stopped → (line : ℕ) → (printed : Option Val) → Outcome
answer (Ok did.Goes) line (Some v) = outcome.Printed v
answer (Ok did.Goes) line None = outcome.Running
answer (Ok did.Ends) line (Some v) = outcome.Printed v
answer (Ok did.Ends) line None = outcome.Done
answer (Err (stopped.Trap kind)) line printed = outcome.Trap kind line
answer (Err stopped.InputFault) line printed = outcome.InputFault
answer (Err stopped.Memory) line printed = outcome.Memory

-- whether a step may collect since that is what it is for
abbrev pub is_asked : Option Cause → Bool
is_asked None = false
is_asked (Some Asked) = true
is_asked (Some Paced) = false

-- where there is a cause for which an event may come, there is room for one more
abbrev pub HasPlace : {Z : Type 0} → Option Cause → Vec Event Z → Type 0
HasPlace due events = (why : Cause) → due ≡ Some why → length events.items < vec_capacity events

-- What the instructions of a step did that may collect for a cause: a refusal leaves what is shown, and those of a `collect` leave the heap and the
-- frames.
pub record Instructed (due : Option Cause) (old new : Parts) (result : Outcome) : Type 0 where
  pub refused : is_made result ≡ false → machine_in new ≡ machine_in old
  pub high : Raises result old new
  pub frees : FreesOnly old new
  pub stays_gone : StaysGone old new
  pub still : is_asked due ≡ true → (new.heap ≡ old.heap) × (new.frames ≡ old.frames)
  pub rests : IsResting new

-- whether a region of this manager, with so many cells, is to be collected, and what became of the pacers
abbrev pub Wants : Cause → Manager → (held : ℕ) → (old new : Since) → (before after : Asks) → (wanted : Bool) → Type 0
Wants Asked Arena held old new before after wanted = (wanted ≡ false) × (new ≡ old) × (after ≡ before)
Wants Asked Count held old new before after wanted = (wanted ≡ true) × (new ≡ old) × (after ≡ before)
Wants Asked Trace held old new before after wanted = (wanted ≡ true) × (new ≡ old) × (after ≡ before)
Wants Paced Arena held old new before after wanted = (wanted ≡ false) × (new ≡ old) × (after ≡ before)
Wants Paced Count held old new before after wanted =
    (new ≡ record old { count = since_then wanted old.count })
    × (after ≡ record before { count = with_ask before.count (record { held = held; since = one_more old.count }) wanted })
Wants Paced Trace held old new before after wanted =
    (new ≡ record old { trace = since_then wanted old.trace })
    × (after ≡ record before { trace = with_ask before.trace (record { held = held; since = one_more old.trace }) wanted })
