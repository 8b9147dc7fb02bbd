-- How often a run has asked the pacers, and how often since they last said yes (docs/language.md, "Steps").
use Rattle.std.specs.Prelude.{◌≡◌, ℕ, List, [], ◌∷◌, length, count_by, nat_lt, if◌then◌else◌}
use Rattle.rg_base.specs.declared.event.Event.{Event}
use Rattle.rg_base.specs.declared.words.Manager.{Manager}
use Rattle.rg_base.specs.declared.words.Manager.TheVariants.{Count, Trace}
use Rattle.rg_tree.specs.Tree.{Tree}
use Rattle.rg_rules.specs.Outside.Asks.{asks}
pub use Rattle.rg_step.specs.Yeses.{paced_by, raised}
pub use Rattle.rg_step.specs.Pacers.{Asks, SameTuned, both}
pub use Rattle.rg_step.specs.Asking.{YesesTold}
use Rattle.rg_run.specs.Machine.{Kept}

-- over the first steps of a program on an input, so many, each pacer was asked once for each of them that asks it
pub record AskedOver (t : Tree) (input : List ℕ) (steps : ℕ) (before after : Asks) : Type 0 where
  pub count : after.count.asks ≡ raised (length (asks t input steps Count)) before.count.asks
  pub trace : after.trace.asks ≡ raised (length (asks t input steps Trace)) before.trace.asks

-- the step of the last of these collections that the pacer of a manager said yes to, and this number where there is none
abbrev pub last_behind : Manager → (found : ℕ) → List Event → ℕ
last_behind m found [] = found
last_behind m found (e ∷ later) = last_behind m (if paced_by m e then e.step else found) later

-- the step of the last one of a run; steps count from 1, and it is 0 where there is none
abbrev pub last_yes : Manager → List Event → ℕ
last_yes m events = last_behind m 0 events

-- how many of the steps that ask a pacer are later than one
abbrev pub later_than : (step : ℕ) → (asked : List ℕ) → ℕ
later_than step asked = count_by (λ n. nat_lt step n) asked

-- behind its steps of a program on an input, a machine has counted for each pacer those that asked it since its last yes
pub record SinceYes (t : Tree) (input : List ℕ) (m : Kept) : Type 0 where
  pub count : m.stepper.since.count ≡ raised (later_than (last_yes Count m.stepper.events) (asks t input m.steps Count)) 0
  pub trace : m.stepper.since.trace ≡ raised (later_than (last_yes Trace m.stepper.events) (asks t input m.steps Trace)) 0
