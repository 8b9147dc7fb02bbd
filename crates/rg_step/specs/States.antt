-- A step as a whole, and the states of a run of steps (docs/architecture.md, "The stepper").
use Rattle.std.specs.Prelude.{◌≡◌, ◌⊎◌, ℕ, zero, suc, true, List, ◌++◌, Some}
use Rattle.rg_base.specs.declared.event.Cause.TheVariants as cause
use Rattle.rg_base.specs.declared.event.Event.{Event}
use Rattle.rg_base.specs.declared.outcome.Outcome.{Outcome}
use Rattle.rg_base.specs.declared.outcome.Outcome.TheVariants as outcome
use Rattle.rg_base.specs.declared.words.Manager.{Manager}
use Rattle.rg_cells.specs.Table.{high_of}
use Rattle.rg_code.specs.Code.{Code}
use Rattle.rg_code.specs.Dues.{due_at}
use Rattle.rg_machine.specs.High.{NoneMade, OneMade}
use Rattle.rg_machine.specs.Parts.{Parts, machine_in}
use Rattle.rg_step.specs.Asking.{AsksOn, SinceOn, YesesTold}
use Rattle.rg_step.specs.Collections.{ReachesOn, ServesBy, SlidesAsked}
use Rattle.rg_pace.specs.Asked.{Asked}
use Rattle.rg_step.specs.Pacers.{Asks, both}
use Rattle.rg_step.specs.Frees.{FreesOnly, StaysGone}
use Rattle.rg_step.specs.Sound.{IsSound}
use Rattle.rg_step.specs.Steps.{Counts, StepsOn, is_made, opening_machine}
use Rattle.rg_step.specs.Stepping.{Stepping}
use Rattle.rg_step.specs.Writes.{WritesOnly}

-- what a stepper holds between two steps, and what the two pacers tell
pub record Standing : Type 0 where
  pub stepper : Stepping
  pub pacers : Asks

abbrev pub standing : Stepping → (count trace : Asked) → Standing
standing s count trace = record { stepper = s; pacers = both count trace }

-- one slot more was ever held exactly where an object was made while all that ever were held an object; a want of memory says nothing
abbrev pub Raises : Outcome → (old new : Parts) → Type 0
Raises outcome.Memory old new = Unit {0}
Raises result old new = NoneMade old.heap new.heap ⊎ OneMade old.heap new.heap

-- What a step did by its instructions and behind them, of the bytes of the input before and after it.
pub record Served (code : Code) (old new : Standing) (result : Outcome) (before after : List ℕ) : Type 0 where
  -- its instructions left these parts, of which holds what always does; those of a `collect` left the heap and the frames
  pub mid : Parts
  pub sound : IsSound mid.heap mid.frames
  pub still : due_at code.ops old.stepper.parts.at ≡ Some cause.Asked → (mid.heap ≡ old.stepper.parts.heap) × (mid.frames ≡ old.stepper.parts.frames)
  -- they show what the plain step makes of each state that was shown
  pub shows : StepsOn code (machine_in old.stepper.parts) (machine_in mid) result before after
  -- the instructions free nothing but temporaries of a window that they end and regions that they give up, and nothing that is gone comes back
  pub frees : FreesOnly old.stepper.parts mid
  pub stays_gone : StaysGone old.stepper.parts mid
  -- behind them the step asks, collects and tells for its `collect` or its `pace`, and for nothing else
  pub does : ServesBy (due_at code.ops old.stepper.parts.at) old.stepper mid new.stepper old.pacers new.pacers result

-- what a step did, of the bytes of the input before and after it
pub record OneStep (code : Code) (old new : Standing) (result : Outcome) (before after : List ℕ) : Type 0 where
  -- whatever the pacers say, it shows what the plain step makes of each state that was shown
  pub shows : StepsOn code (machine_in old.stepper.parts) (machine_in new.stepper.parts) result before after
  -- of the parts behind it holds what always does
  pub sound : IsSound new.stepper.parts.heap new.stepper.parts.frames
  -- what its instructions did, and what it did behind them
  pub serves : Served code old new result before after
  -- what it keeps of a region of mark and sweep is what the roots of the window reach
  pub reaches : ReachesOn code (machine_in old.stepper.parts) old.stepper.events new.stepper.events before after
  -- where what is kept moves, it has moved behind a `collect`, and nothing else has changed; whether it moves was chosen before
  pub slid : SlidesAsked old.stepper new.stepper
  pub slides : new.stepper.slides ≡ old.stepper.slides
  -- it asks a pacer exactly where the plain state says so, and each yes is a collection, behind which the asks since the last yes begin anew
  pub asked : AsksOn code (machine_in old.stepper.parts) result old.pacers new.pacers
  pub yeses : (behind : List Event) × (new.stepper.events ≡ old.stepper.events ++ behind) × YesesTold behind old.pacers new.pacers
      × SinceOn code (machine_in old.stepper.parts) result behind old.stepper.since new.stepper.since
  -- it writes into objects of the active region and temporaries of the topmost window alone; where it ends that window with `giving`, at most the
  -- field at the place of the window's owner
  pub writes : WritesOnly code.ops (machine_in old.stepper.parts) (machine_in new.stepper.parts)
  pub high : Raises result old.stepper.parts new.stepper.parts
  pub counts : Counts old.stepper.steps new.stepper.steps result

-- The parts with which a program opens whose main has this manager. What always holds holds of them, and no slot of theirs was ever held.
pub record Opens (code : Code) (manager : Manager) (p : Parts) : Type 0 where
  pub shows : machine_in p ≡ opening_machine code manager
  pub sound : IsSound p.heap p.frames
  pub high : high_of p.heap.cells.heap ≡ 0

-- So many steps that were made, one after the other: a list of one state more, from the first to the last, each of which follows from the one
-- before by a step.
abbrev pub Chain : Code → ℕ → (first last : Standing) → (before after : List ℕ) → Type 0
Chain code zero first last before after = (last ≡ first) × (after ≡ before)
Chain code (suc k) first last before after =
    (m : Standing) × (left : List ℕ) × (result : Outcome) × Chain code k first m before left × (is_made result ≡ true)
    × OneStep code m last result left after
