-- What is answered of a step, by what it did and printed.
use Rattle.std.proofs.Common.{◌≡◌, ℕ, Bool as Truth, true, false, true≢false, List, Option, Some, None, Result, Ok, Err, IfErr, slice_get, refl, sym, ap}
use Rattle.rg_base.specs.declared.event.Cause.{Cause}
use Rattle.rg_base.specs.declared.outcome.Outcome.{Outcome}
use Rattle.rg_base.specs.declared.outcome.Outcome.TheVariants as outcome
use Rattle.rg_base.specs.declared.value.Val.{Val}
use Rattle.rg_code.specs.declared.op.Op.TheVariants as i
use Rattle.rg_code.specs.Code.{Code}
use Rattle.rg_stack.specs.Machine.{Machine}
use Rattle.rg_stack.specs.Refusals.{Orderly}
use Rattle.rg_machine.specs.Core.{Core}
use Rattle.rg_machine.specs.Parts.{Parts}
use Rattle.rg_step.specs.declared.step.Did.{Did}
use Rattle.rg_step.specs.declared.step.Did.TheVariants as did
use Rattle.rg_step.specs.declared.stopped.Stopped.{Stopped}
use Rattle.rg_step.specs.declared.stopped.Stopped.TheVariants as stopped
use Rattle.rg_step.specs.Inner.Refusals.{StopLeaves, asks_at}
use Rattle.rg_step.specs.Inner.Serving.{Instructed, answer}
use Rattle.rg_step.specs.Inner.Walks.{StepIs}
use Rattle.rg_step.specs.Steps.{IsResting, StepsOn, is_made}
use Rattle.rg_step.proofs.Frees.{none-frees, none-stays}
use Rattle.rg_step.proofs.Walking.Run.{settles-running, settles-printed, settles-last, settles-done, settles-trap, settles-fault, settles-memory}
use Rattle.rg_step.proofs.Walking.Stops.{stop-same}

pub answer-settles : (code : Code) (c new : Core) (d : Result Did Stopped) (line : ℕ) (printed : Option Val) (before after : List ℕ)
    → slice_get code.ops c.machine.at ≡ Some (i.Mark line) → new.printed ≡ printed
    → (Orderly code.ops c.machine → IfErr d (StopLeaves c.machine (asks_at code.ops c.machine) new.machine))
    → StepIs code c new d before after → StepsOn code c.machine new.machine (answer d line printed) before after
answer-settles code c new (Ok did.Goes) line (Some v) before after mark told leaves is = settles-printed code c new v before after told is
answer-settles code c new (Ok did.Goes) line None before after mark told leaves is = settles-running code c new before after told is
answer-settles code c new (Ok did.Ends) line (Some v) before after mark told leaves is = settles-last code c new v before after told is
answer-settles code c new (Ok did.Ends) line None before after mark told leaves is = settles-done code c new before after told is
answer-settles code c new (Err (stopped.Trap kind)) line printed before after mark told leaves is =
    settles-trap code c new kind line before after leaves mark is
answer-settles code c new (Err stopped.InputFault) line printed before after mark told leaves is =
    settles-fault code c new before after (λ o. (leaves o).1) is
answer-settles code c new (Err stopped.Memory) line printed before after mark told leaves is = settles-memory code c new before after leaves is

-- a step that was refused leaves the machine
pub answer-leaves : (asks : Truth) (old new : Machine) (d : Result Did Stopped) (line : ℕ) (printed : Option Val)
    → is_made (answer d line printed) ≡ false → IfErr d (StopLeaves old asks new) → new ≡ old
answer-leaves asks old new (Ok did.Goes) line (Some v) refused left = absurd (true≢false refused)
answer-leaves asks old new (Ok did.Goes) line None refused left = absurd (true≢false refused)
answer-leaves asks old new (Ok did.Ends) line (Some v) refused left = absurd (true≢false refused)
answer-leaves asks old new (Ok did.Ends) line None refused left = absurd (true≢false refused)
answer-leaves asks old new (Err why) line printed refused left = stop-same why old asks new left

-- a fault of the input is answered only of one
abbrev is_fault : Outcome → Truth
is_fault outcome.Running = false
is_fault (outcome.Printed v) = false
is_fault outcome.Done = false
is_fault (outcome.Trap kind line) = false
is_fault outcome.InputFault = true
is_fault outcome.Memory = false

pub answer-fault : (d : Result Did Stopped) (line : ℕ) (printed : Option Val) → answer d line printed ≡ outcome.InputFault
    → d ≡ Err stopped.InputFault
answer-fault (Ok did.Goes) line (Some v) e = absurd (true≢false (sym (ap is_fault e)))
answer-fault (Ok did.Goes) line None e = absurd (true≢false (sym (ap is_fault e)))
answer-fault (Ok did.Ends) line (Some v) e = absurd (true≢false (sym (ap is_fault e)))
answer-fault (Ok did.Ends) line None e = absurd (true≢false (sym (ap is_fault e)))
answer-fault (Err (stopped.Trap kind)) line printed e = absurd (true≢false (sym (ap is_fault e)))
answer-fault (Err stopped.InputFault) line printed e = refl
answer-fault (Err stopped.Memory) line printed e = absurd (true≢false (sym (ap is_fault e)))

-- where no memory was found at once, nothing was done
pub instructed-nothing : (due : Option Cause) (p : Parts) → IsResting p → Instructed due p p outcome.Memory
instructed-nothing due p rests = record {
  refused = λ none. refl;
  high = tt;
  frees = none-frees p;
  stays_gone = none-stays p;
  still = λ asked. (refl, refl);
  rests = rests;
}
