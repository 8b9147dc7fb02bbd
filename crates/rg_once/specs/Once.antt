-- That a step is determined, and so a run: what two answers, each by the contract of a step, have in common (docs/architecture.md, "The stepper").
use Rattle.std.specs.Prelude.{◌≡◌, ◌⊎◌, ℕ, zero, suc, true, List, [], ◌∷◌, ◌++◌, Some}
use Rattle.rg_base.specs.declared.event.Cause.TheVariants.{Asked}
use Rattle.rg_base.specs.declared.event.Event.{Event}
use Rattle.rg_base.specs.declared.outcome.Outcome.{Outcome}
use Rattle.rg_tree.specs.Tree.{Tree}
use Rattle.rg_rules.specs.Acceptance.{Accepted}
use Rattle.rg_rules.specs.Runs.{plain}
use Rattle.rg_rules.specs.State.{State}
use Rattle.rg_code.specs.Code.{Code}
use Rattle.rg_code.specs.Dues.{due_at}
use Rattle.rg_code.specs.Lowering.{Lowers}
use Rattle.rg_machine.specs.Parts.{Parts, machine_in}
use Rattle.rg_step.specs.States.{OneStep, Opens, Standing}
use Rattle.rg_step.specs.Steps.{Runs, is_made}

-- the same is held: at each serial stands the same object in both, or it is gone in both
abbrev pub HoldTheSame : (these those : Parts) → Type 0
HoldTheSame these those = (machine_in these).store ≡ (machine_in those).store

-- a step told of this collection
abbrev pub Tells : (old new : Standing) → Event → Type 0
Tells old new e = new.stepper.events ≡ old.stepper.events ++ e ∷ []

-- a step told of no collection
abbrev pub TellsNone : (old new : Standing) → Type 0
TellsNone old new = new.stepper.events ≡ old.stepper.events

-- two standings hold the same, behind as many steps
pub record IsAlike (these those : Standing) : Type 0 where
  pub held : HoldTheSame these.stepper.parts those.stepper.parts
  pub steps : these.stepper.steps ≡ those.stepper.steps

-- Two answers to a step, from two standings that hold the same of one state of an accepted program, with the same bytes of an input, each of which made
-- the step. The two may be one.
pub record MadeTwice (t : Tree) (code : Code) (old beside_old these those : Standing) (before : List ℕ) : Type 0 where
  pub alike : IsAlike old beside_old
  pub state : State
  pub runs : Runs t code (machine_in old.stepper.parts) state
  pub also_runs : Runs t code (machine_in beside_old.stepper.parts) state
  pub input : state.input ≡ before
  pub result : Outcome
  pub after : List ℕ
  pub made : is_made result ≡ true
  pub step : OneStep code old these result before after
  pub other : Outcome
  pub rest : List ℕ
  pub also_made : is_made other ≡ true
  pub also : OneStep code beside_old those other before rest

-- What the two have in common, whatever the pacers said.
pub record IsOnce (t : Tree) (code : Code) (old beside_old these those : Standing) (before : List ℕ)
    (w : MadeTwice t code old beside_old these those before) : Type 0 where
  -- the answer, what is left of the input, and the number of steps
  pub answer : w.result ≡ w.other
  pub input : w.after ≡ w.rest
  pub steps : these.stepper.steps ≡ those.stepper.steps
  -- the instructions leave the same held
  pub held : HoldTheSame w.step.serves.mid w.also.serves.mid
  -- where neither tells of a collection, the same is held behind the step
  pub left : TellsNone old these → TellsNone beside_old those → HoldTheSame these.stepper.parts those.stepper.parts
  -- of one that was asked for both tell, or neither
  pub both : due_at code.ops old.stepper.parts.at ≡ Some Asked → (e : Event) → Tells old these e → (d : Event) × Tells beside_old those d
  -- where both tell of one, they tell the same: step, region, manager and cause, how many objects the region had, how many of them were kept,
  -- and how many regions went; and the same is held behind the step
  pub collected : (e d : Event) → Tells old these e → Tells beside_old those d → (e ≡ d) × HoldTheSame these.stepper.parts those.stepper.parts

-- a step is determined, but for what a pacer says
abbrev pub StepsOnce : Type 0
StepsOnce = (t : Tree) (code : Code) (old beside_old these those : Standing) (before : List ℕ) (w : MadeTwice t code old beside_old these those before)
    → IsOnce t code old beside_old these those before w

-- both steps tell of a collection, or neither does
abbrev pub BothTell : (old new beside_old beside_new : Standing) → Type 0
BothTell old new beside_old beside_new =
    (TellsNone old new × TellsNone beside_old beside_new) ⊎ ((e : Event) × (d : Event) × Tells old new e × Tells beside_old beside_new d)

-- Two runs of so many steps side by side (two chains, `Chain` of rg_step), of which each step tells of a collection where the other's does: so pacers
-- said yes in the same steps.
abbrev pub SideBySide : Code → ℕ → (first last : Standing) → (beside_first beside_last : Standing) → (before after rest : List ℕ) → Type 0
SideBySide code zero first last beside_first beside_last before after rest =
    (last ≡ first) × (beside_last ≡ beside_first) × (after ≡ before) × (rest ≡ before)
SideBySide code (suc k) first last beside_first beside_last before after rest =
    (m : Standing) × (n : Standing) × (left : List ℕ) × (more : List ℕ) × (x : Outcome) × (y : Outcome)
    × SideBySide code k first m beside_first n before left more
    × (is_made x ≡ true) × OneStep code m last x left after × (is_made y ≡ true) × OneStep code n beside_last y more rest
    × BothTell m last n beside_last

-- What two such runs have in common: the same is held, the same collections were told, and as much is left of the input.
pub record RanOnce (last beside_last : Standing) (after rest : List ℕ) : Type 0 where
  pub alike : IsAlike last beside_last
  pub events : last.stepper.events ≡ beside_last.stepper.events
  pub input : after ≡ rest

-- The steps of a run of an accepted program on an input are determined, but for what pacers say: from two openings of it, each behind no step and no
-- collection, so many steps of the program lead to the same.
abbrev pub RunsOnce : Type 0
RunsOnce =
    (t : Tree) (code : Code) (k : ℕ) (first last beside_first beside_last : Standing) (before after rest : List ℕ) → Accepted t → Lowers t code
    → Opens code t.manager first.stepper.parts → Opens code t.manager beside_first.stepper.parts
    → first.stepper.steps ≡ beside_first.stepper.steps → first.stepper.events ≡ beside_first.stepper.events
    → (plain t before k).steps ≡ k → SideBySide code k first last beside_first beside_last before after rest
    → RanOnce last beside_last after rest
