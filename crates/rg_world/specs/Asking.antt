-- How often the event of a number asks the pacers (docs/architecture.md, "Worlds").
use Rattle.std.specs.Prelude.{◌≡◌, ℕ, zero, suc, Bool, List, length, Option, None, Some, slice_index_or}
use Rattle.rg_base.specs.declared.event.Census.{Census}
use Rattle.rg_base.specs.declared.words.Manager.{Manager}
use Rattle.rg_base.specs.declared.words.Manager.TheVariants.{Count, Trace}
use Rattle.rg_tree.specs.Tree.{Class, Tree}
use Rattle.rg_rules.specs.Outside.Asks.{asks_from}
use Rattle.rg_rules.specs.Runs.{Ending, Running, Done, Stopped, Ran}
use Rattle.rg_rules.specs.State.{State}
use Rattle.rg_cown.specs.Cargo.{CargoList}
use Rattle.rg_pace.specs.Asked.{Asked, with_ask}
use Rattle.rg_plan.specs.Plans.{PlanOf}
use Rattle.rg_sched_atomic.specs.Settings.{setting_of}
use Rattle.rg_sched_atomic.specs.Events.{world_after}
pub use Rattle.rg_step.specs.Pacers.{Asks}
pub use Rattle.rg_step.specs.Yeses.{raised}

-- how often the step from a state asks the pacer of a manager
abbrev pub step_asks : List Class → State → Manager → ℕ
step_asks classes s m = length (asks_from classes m 1 1 s)

-- how often the next step of a run does; one that has ended makes none
abbrev pub run_asks : List Class → Ran → Ending → Manager → ℕ
run_asks classes r Running m = step_asks classes r.state m
run_asks classes r Done m = 0
run_asks classes r (Stopped kind line) m = 0

-- the event of a behaviour that has such a run makes its next step; where it hasn't begun nobody is asked
abbrev pub event_asks : List Class → Option Ran → Manager → ℕ
event_asks classes None m = 0
event_asks classes (Some r) m = run_asks classes r r.ending m

-- a pacer was asked, one time after another: each time it was told a census, and gave an answer
abbrev pub AskedTimes : ℕ → (before after : Asked) → Type 0
AskedTimes zero before after = after ≡ before
AskedTimes (suc k) before after =
    (mid : Asked) × (census : Census) × (answer : Bool) × AskedTimes k before mid × (after ≡ with_ask mid census answer)

-- nothing but that was done to it
abbrev pub WasAsked : (before after : Asked) → Type 0
WasAsked before after = (k : ℕ) × AskedTimes k before after

-- each pacer was asked so many times more, and nothing else was done to it
pub record AskedMore (times : Manager → ℕ) (before after : Asks) : Type 0 where
  pub count : after.count.asks ≡ raised (times Count) before.count.asks
  pub trace : after.trace.asks ≡ raised (times Trace) before.trace.asks
  pub count_alone : WasAsked before.count after.count
  pub trace_alone : WasAsked before.trace after.trace

-- so they were by the event of a number, behind a schedule
abbrev pub EventAsks : Tree → PlanOf → (images : List CargoList) → (schedule : List ℕ) → (number : ℕ) → (before after : Asks) → Type 0
EventAsks t p images schedule i before after =
    AskedMore (event_asks t.classes (slice_index_or (world_after t.classes (setting_of t.classes p images) schedule).told.runs i None)) before after
