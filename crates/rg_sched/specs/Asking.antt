-- How often the events of a schedule ask the pacers (docs/architecture.md, "Worlds").
use Rattle.std.specs.Prelude.{◌≡◌, ℕ, ◌+◌, List, [], ◌∷◌, ◌++◌, None, slice_index_or, Result, Ok, Err}
use Rattle.rg_base.specs.declared.words.Manager.{Manager}
use Rattle.rg_tree.specs.Tree.{Class, Tree}
use Rattle.rg_cown.specs.Cargo.{CargoList}
use Rattle.rg_plan.specs.Plans.{Turn as Behaviour, PlanOf}
use Rattle.rg_sched_atomic.specs.Settings.{Setting, setting_of}
use Rattle.rg_sched_atomic.specs.Atomic.{World}
use Rattle.rg_sched_atomic.specs.Events.{event, first_world}
pub use Rattle.rg_world.specs.Asking.{Asks, AskedMore, event_asks}
use Rattle.rg_sched.specs.declared.stop.SchedStop.{SchedStop}
use Rattle.rg_sched.specs.declared.stop.SchedStop.TheVariants as stop
use Rattle.rg_sched.specs.Schedules.{Schedule, taken_of}

-- how often events behind a world ask the pacer of a manager, one after another
abbrev pub asks_behind : List Class → List Behaviour → (numbers : List ℕ) → World → Manager → ℕ
asks_behind classes bs [] w m = 0
asks_behind classes bs (i ∷ is) w m =
    event_asks classes (slice_index_or w.told.runs i None) m + asks_behind classes bs is (event classes bs i w) m

-- how often those of a schedule do
abbrev pub schedule_asks : List Class → Setting → (numbers : List ℕ) → Manager → ℕ
schedule_asks classes s numbers m = asks_behind classes s.behaviours numbers (first_world s) m

-- the events of these numbers asked the pacers, and nothing else did
abbrev pub AskedBy : Tree → PlanOf → (images : List CargoList) → (numbers : List ℕ) → (before after : Asks) → Type 0
AskedBy t p images numbers before after = AskedMore (schedule_asks t.classes (setting_of t.classes p images) numbers) before after

-- so did those of a schedule that wasn't run to its end; behind a fault of the input its first ones, and of want of memory nothing is said
abbrev pub AskedUntil : Tree → PlanOf → (images : List CargoList) → Schedule → SchedStop → (before after : Asks) → Type 0
AskedUntil t p images says (stop.Bad item) before after = AskedBy t p images (taken_of says) before after
AskedUntil t p images says stop.Spent before after = AskedBy t p images (taken_of says) before after
AskedUntil t p images says stop.InputFault before after =
    (numbers later : List ℕ) × (taken_of says ≡ numbers ++ later) × AskedBy t p images numbers before after
AskedUntil t p images says stop.Memory before after = Unit {0}

-- and those of one that was
abbrev pub AsksIn : {A : Type 0} → Tree → PlanOf → (images : List CargoList) → Schedule → Result A SchedStop → (before after : Asks) → Type 0
AsksIn t p images says (Ok a) before after = AskedBy t p images (taken_of says) before after
AsksIn t p images says (Err why) before after = AskedUntil t p images says why before after
