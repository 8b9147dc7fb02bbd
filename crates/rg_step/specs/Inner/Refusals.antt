-- What a refusal leaves of the machine and of the input, and where frames go back (docs/architecture.md, "The stepper").
use Rattle.std.specs.Prelude.{◌≡◌, ◌⊎◌, ℕ, ◌+◌, List, drop, Bool as Truth, true, false, Result, Ok, Err}
use Rattle.rg_base.specs.declared.outcome.Trap.{Trap}
use Rattle.rg_base.specs.declared.outcome.Trap.TheVariants as trap
use Rattle.rg_code.specs.declared.op.Op.{Op}
use Rattle.rg_stack.specs.Machine.{Machine}
use Rattle.rg_stack.specs.Refusals.{calm, orderly}
use Rattle.rg_stack.specs.Reads.{reads}
use Rattle.rg_machine.specs.Keeps.{GoesBack, SameBacks}
use Rattle.rg_input.specs.declared.refusal.NumberRefusal.{NumberRefusal}
use Rattle.rg_input.specs.declared.refusal.NumberRefusal.TheVariants as no
use Rattle.rg_step.specs.declared.asks.Landing.{Landing}
use Rattle.rg_step.specs.declared.asks.Landing.TheVariants as landing
use Rattle.rg_step.specs.declared.stopped.Stopped.{Stopped}
use Rattle.rg_step.specs.declared.stopped.Stopped.TheVariants as stopped
use Rattle.rg_step.specs.declared.walk.Pause.{Pause}
use Rattle.rg_step.specs.declared.walk.Pause.TheVariants as pause

-- At an address, the machine is that of the step's start, what stands here is orderly, and asks the input only where the step does.
pub record AtStart (code : List Op) (start : Machine) (asks : Truth) (at : ℕ) (m : Machine) : Type 0 where
  pub same : m ≡ start
  pub ordered : orderly code at false (drop at code) ≡ true
  pub asked : asks ≡ false → reads (drop at code) ≡ false

-- nothing is refused from an address on, or nothing has changed yet
abbrev pub Stands : (code : List Op) → (start : Machine) → (asks : Truth) → (at : ℕ) → (m : Machine) → Type 0
Stands code start asks at m = AtStart code start asks at m ⊎ (calm code false (drop at code) ≡ true)

-- what a walk leaves that asks the input at an address
pub record Asking (code : List Op) (start : Machine) (asks : Truth) (at : ℕ) (m : Machine) : Type 0 where
  pub asked : asks ≡ true
  pub same : m ≡ start
  pub stands : Stands code start asks (at + 1) m

-- why a step stops that wants the next number, where there is none
abbrev pub stopped_by : NumberRefusal → Stopped
stopped_by no.End = stopped.Trap trap.End
stopped_by no.Input = stopped.Trap trap.Input
stopped_by no.InputFault = stopped.InputFault

-- whether a step stops at a fault of the input
abbrev pub is_input : Stopped → Truth
is_input (stopped.Trap k) = false
is_input stopped.InputFault = true
is_input stopped.Memory = false

abbrev pub at_fault : {A : Type 0} → Result A Stopped → Truth
at_fault (Ok x) = false
at_fault (Err why) = is_input why

-- what a stop says of what the definition gives, which traps as it does
abbrev pub StopIs : {A : Type 0} → (traps : Trap → A) → (given : A) → Stopped → Type 0
StopIs traps given (stopped.Trap k) = given ≡ traps k
StopIs traps given stopped.InputFault = Unit {0}
StopIs traps given stopped.Memory = Unit {0}

-- what a stop leaves: the machine of the step's start; the input is at fault only where the step asks it
abbrev pub StopLeaves : (start : Machine) → (asks : Truth) → (new : Machine) → Stopped → Type 0
StopLeaves start asks new (stopped.Trap k) = new ≡ start
StopLeaves start asks new stopped.InputFault = (asks ≡ true) × (new ≡ start)
StopLeaves start asks new stopped.Memory = new ≡ start

-- what a walk leaves where it pauses
abbrev pub PauseLeaves : (code : List Op) → (start : Machine) → (asks : Truth) → (new : Machine) → Pause → Type 0
PauseLeaves code start asks new (pause.Stop t) = Unit {0}
PauseLeaves code start asks new (pause.Return t) = Unit {0}
PauseLeaves code start asks new (pause.Read at) = Asking code start asks at new × (calm code false (drop (at + 1) code) ≡ true)
PauseLeaves code start asks new (pause.More at) = Asking code start asks at new

-- where frames go back where a walk pauses
abbrev pub PauseBacks : (old new : Machine) → Pause → Type 0
PauseBacks old new (pause.Stop t) = Unit {0}
PauseBacks old new (pause.Return t) = GoesBack old.frames t
PauseBacks old new (pause.Read at) = SameBacks old new
PauseBacks old new (pause.More at) = SameBacks old new

-- where the frame goes back that ended where a walk lands
abbrev pub LandingBacks : (old : Machine) → Landing → Type 0
LandingBacks old (landing.Stop t) = Unit {0}
LandingBacks old (landing.Return t) = GoesBack old.frames t

-- a number is read at most where nothing is refused from there on: up to an address all of the input is left, or nothing is refused there
abbrev pub Unread : (code : List Op) → (from : ℕ) → (old : Machine) → (at : ℕ) → (before after : List ℕ) → Type 0
Unread code from old at before after =
    (start : Machine) (asks : Truth) → Stands code start asks from old → (calm code false (drop at code) ≡ true) ⊎ (after ≡ before)

-- all of the input is left
abbrev pub StillLeft : (code : List Op) → (from : ℕ) → (old : Machine) → (before after : List ℕ) → Type 0
StillLeft code from old before after = (start : Machine) (asks : Truth) → Stands code start asks from old → after ≡ before

-- whether the step at a machine's place asks the input
abbrev pub asks_at : List Op → Machine → Truth
asks_at code m = reads (drop (m.at + 1) code)
