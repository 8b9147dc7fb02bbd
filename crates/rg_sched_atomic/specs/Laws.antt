-- What holds behind every schedule (docs/architecture.md, "Schedules").
use Rattle.std.specs.Prelude.{◌≡◌, ◌≢◌, ℕ, zero, suc, ◌<◌, Bool as Truth, true, false, List, [], ◌∷◌, ◌++◌, length, All, Option, Some, None, Ok, ◌⊎◌}
use Rattle.std.specs.Prelude.{slice_get, slice_index, slice_index_or, slice_set}
use Rattle.std.specs.List.{list_all}
use Rattle.rg_tree.specs.Tree.{Class, Tree}
use Rattle.rg_rules.specs.Runs.{Running, Ran}
use Rattle.rg_cown.specs.Cargo.{CargoList}
use Rattle.rg_plan.specs.Plans.{Turn as Behaviour, PlanOf, in_front_of}
use Rattle.rg_plan.specs.Rules.{plan_of}
use Rattle.rg_sched_atomic.specs.Numbers.{In, Distinct}
use Rattle.rg_sched_atomic.specs.Contents.{Empty, Away}
use Rattle.rg_sched_atomic.specs.Behaviours.{cowns_of, share, has_ended}
use Rattle.rg_sched_atomic.specs.Settings.{Setting, setting_of}
use Rattle.rg_sched_atomic.specs.Atomic.{atomic, World, WorldOf}
use Rattle.rg_sched_atomic.specs.Events.{may_begin, event, world_after}

-- no behaviour names a cown twice
abbrev pub NoneTwice : Setting → Type 0
NoneTwice s = All (λ (b : Behaviour). Distinct b.cowns) s.behaviours

-- no behaviour of a plan that is read names a cown twice, so what follows holds of each such plan, whatever its images hold
abbrev pub PlansAreSettings : Type 0
PlansAreSettings =
    (t : Tree) (bytes : List ℕ) (p : PlanOf) (images : List CargoList) → plan_of t bytes ≡ Ok p → NoneTwice (setting_of t.classes p images)

-- behind every schedule all is as if the behaviours had been done one after the other
abbrev pub OneByOne : Type 0
OneByOne = (classes : List Class) (s : Setting) (schedule : List ℕ) → NoneTwice s → WorldOf classes s (world_after classes s schedule)

-- 0, 1, .., as many as are below a number
abbrev pub numbers_below : ℕ → List ℕ
numbers_below zero = []
numbers_below (suc n) = numbers_below n ++ n ∷ []

-- each behaviour has ended
abbrev pub AllEnded : Setting → World → Type 0
AllEnded s w = (i : ℕ) → i < length s.behaviours → has_ended (slice_index_or w.told.runs i None) ≡ true

-- once each behaviour has ended, all is as if they had been done in the order of the plan
abbrev pub InPlanOrder : Type 0
InPlanOrder =
    (classes : List Class) (s : Setting) (schedule : List ℕ) → NoneTwice s → AllEnded s (world_after classes s schedule) →
    (world_after classes s schedule).told ≡ atomic classes s (numbers_below (length s.behaviours)) (world_after classes s schedule).turns

-- all schedules behind which each behaviour has ended tell the same
abbrev pub AllAlike : Type 0
AllAlike =
    (classes : List Class) (s : Setting) (one other : List ℕ) → NoneTwice s → AllEnded s (world_after classes s one) →
    AllEnded s (world_after classes s other) → (world_after classes s one).told ≡ (world_after classes s other).told

-- whether all of some behaviours have ended
abbrev pub all_ended : List (Option Ran) → (numbers : List ℕ) → Truth
all_ended runs ks = list_all (λ k. has_ended (slice_index_or runs k None)) ks

-- Those that stand right in front of a behaviour in the queues of its cowns are enough to look at: where they have ended, so has every
-- lower-numbered one that shares a cown with it.
abbrev pub FrontsAreEnough : Type 0
FrontsAreEnough =
    (classes : List Class) (s : Setting) (schedule : List ℕ) (i : ℕ) (b : Behaviour) → NoneTwice s → slice_get s.behaviours i ≡ Some b →
    all_ended (world_after classes s schedule).told.runs (in_front_of s.behaviours i b)
    ≡ may_begin s.behaviours (world_after classes s schedule).told.runs i

-- a behaviour is running
abbrev pub IsRunning : World → (number : ℕ) → Type 0
IsRunning w i = (r : Ran) × (slice_index_or w.told.runs i None ≡ Some r) × (r.ending ≡ Running)

-- Each content is at rest or in one running behaviour: two that run share no cown, and a content is away exactly where one that runs has it.
pub record Separate (s : Setting) (w : World) : Type 0 where
  pub one : (i k : ℕ) → IsRunning w i → IsRunning w k → i ≢ k → share s.behaviours i k ≡ false
  pub taken : (n : ℕ) → n < length s.contents → slice_index_or w.told.contents n Empty ≡ Away →
      (i : ℕ) × IsRunning w i × In (cowns_of s.behaviours i) n
  pub away : (n i : ℕ) → n < length s.contents → IsRunning w i → In (cowns_of s.behaviours i) n → slice_index_or w.told.contents n Empty ≡ Away

abbrev pub AllSeparate : Type 0
AllSeparate = (classes : List Class) (s : Setting) (schedule : List ℕ) → NoneTwice s → Separate s (world_after classes s schedule)

-- There is always one that can go on: where all lower-numbered behaviours have ended, one that hasn't ended begins or makes a step.
abbrev pub OneGoesOn : Type 0
OneGoesOn =
    (classes : List Class) (s : Setting) (w : World) (i : ℕ) → i < length s.behaviours → has_ended (slice_index_or w.told.runs i None) ≡ false →
    ((k : ℕ) → k < i → has_ended (slice_index_or w.told.runs k None) ≡ true) →
    ((event classes s.behaviours i w).began ≡ w.began ++ i ∷ []) ⊎
    ((event classes s.behaviours i w).turns ≡ slice_set w.turns i (suc (slice_index w.turns i)))
