-- How many objects a walk makes (docs/architecture.md, "The stepper"): in the code of a step all that can be refused stands in front of what
-- changes the machine, so up to an instruction that makes an object the heap is that of the start, and behind it none is made.
use Rattle.std.specs.Prelude.{◌≡◌, ◌⊎◌, ℕ, ◌+◌, List, Result, MatchResult, drop, true, false}
use Rattle.rg_code.specs.declared.op.Op.{Op}
use Rattle.rg_heap.specs.Parts.{Parts}
use Rattle.rg_stack.specs.Refusals.{calm, orderly}
use Rattle.rg_machine.specs.High.{NoneMade, OneMade}
use Rattle.rg_step.specs.declared.stopped.Stopped.{Stopped}
use Rattle.rg_step.specs.declared.stopped.Stopped.TheVariants as stopped
use Rattle.rg_step.specs.declared.walk.Pause.{Pause}
use Rattle.rg_step.specs.declared.walk.Pause.TheVariants as pause

-- one object was made at most
abbrev pub OneAtMost : (old new : Parts) → Type 0
OneAtMost old new = NoneMade old new ⊎ OneMade old new

-- at an address the heap is that of the step's start, and what stands here is orderly
pub record Untouched (code : List Op) (start : Parts) (at : ℕ) (heap : Parts) : Type 0 where
  pub same : heap ≡ start
  pub ordered : orderly code at false (drop at code) ≡ true

-- nothing is refused from an address on, so none is made there
pub record Calmed (code : List Op) (start : Parts) (at : ℕ) (heap : Parts) : Type 0 where
  pub calmed : calm code false (drop at code) ≡ true
  pub made : OneAtMost start heap

-- an object may be made, or none is from here on
abbrev pub MayMake : (code : List Op) → (start : Parts) → (at : ℕ) → (heap : Parts) → Type 0
MayMake code start at heap = Untouched code start at heap ⊎ Calmed code start at heap

-- what a stop leaves of the heap; a want of memory says nothing
abbrev pub StopMade : (start new : Parts) → Stopped → Type 0
StopMade start new (stopped.Trap k) = OneAtMost start new
StopMade start new stopped.InputFault = OneAtMost start new
StopMade start new stopped.Memory = Unit {0}

-- what a walk leaves of it where it pauses
abbrev pub PauseMade : (code : List Op) → (start new : Parts) → Pause → Type 0
PauseMade code start new (pause.Stop t) = OneAtMost start new
PauseMade code start new (pause.Return t) = OneAtMost start new
PauseMade code start new (pause.Read at) = MayMake code start (at + 1) new
PauseMade code start new (pause.More at) = MayMake code start (at + 1) new

-- what a step leaves of it, and what a walk leaves that has landed
abbrev pub MadeAtMost : {A : Type 0} → (old new : Parts) → Result A Stopped → Type 0
MadeAtMost old new result = MatchResult result (λ _. OneAtMost old new) (StopMade old new)
