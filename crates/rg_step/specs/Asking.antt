-- How often steps ask the pacers, and how often these say yes (docs/architecture.md, "The stepper").
use Rattle.std.specs.Prelude.{◌≡◌, ℕ, Bool as Truth, true, false, ◌&&◌, List, [], ◌∷◌, count_by}
use Rattle.std.specs.List.{list_any}
use Rattle.rg_base.specs.declared.words.Manager.{Manager}
use Rattle.rg_base.specs.declared.words.Manager.TheVariants.{Count, Trace}
use Rattle.rg_base.specs.declared.event.Event.{Event}
use Rattle.rg_base.specs.declared.outcome.Outcome.{Outcome}
use Rattle.rg_base.specs.declared.outcome.Outcome.TheVariants as outcome
use Rattle.rg_tree.specs.Tree.{Class, Tree}
use Rattle.rg_rules.specs.Outside.Asks.{item_makes, is_managed}
use Rattle.rg_rules.specs.Items.{Item}
use Rattle.rg_rules.specs.State.{State}
use Rattle.rg_code.specs.Code.{Code}
use Rattle.rg_stack.specs.Machine.{Machine}
use Rattle.rg_pace.specs.Asked.{one_more}
use Rattle.rg_step.specs.Pacers.{Asks}
use Rattle.rg_step.specs.Steps.{Runs}
use Rattle.rg_step.specs.Stepping.{Since}
use Rattle.rg_step.specs.Yeses.{raised, paced_by}

-- once, or not
abbrev pub raised_if : Truth → ℕ → ℕ
raised_if true n = one_more n
raised_if false n = n

-- whether the first thing to do makes an object by `new C` or `new C [e]`
abbrev pub first_makes : List Class → List Item → Truth
first_makes classes [] = false
first_makes classes (i ∷ rest) = item_makes classes i

-- whether the step from a state asks the pacer of a manager: it makes an object by `new C` or `new C [e]` while the active region has that manager
abbrev pub asks_at : List Class → Manager → State → Truth
asks_at classes m s = first_makes classes s.items && is_managed m s

-- how often the pacers were asked behind a step that was made from a state
pub record AsksFrom (classes : List Class) (s : State) (before after : Asks) : Type 0 where
  pub count : after.count.asks ≡ raised_if (asks_at classes Count s) before.count.asks
  pub trace : after.trace.asks ≡ raised_if (asks_at classes Trace s) before.trace.asks

-- so it is for each state of an accepted program that the machine showed; a step that was refused asks nobody
abbrev pub AsksOn : Code → (old : Machine) → Outcome → (before after : Asks) → Type 0
AsksOn code old (outcome.Trap kind line) before after = after ≡ before
AsksOn code old outcome.InputFault before after = after ≡ before
AsksOn code old outcome.Memory before after = after ≡ before
AsksOn code old result before after = (t : Tree) (s : State) → Runs t code old s → AsksFrom t.classes s before after

-- the pacers said yes as often as there are collections of theirs behind the first ones
pub record YesesTold (behind : List Event) (before after : Asks) : Type 0 where
  pub count : after.count.yeses ≡ raised (count_by (paced_by Count) behind) before.count.yeses
  pub trace : after.trace.yeses ≡ raised (count_by (paced_by Trace) behind) before.trace.yeses

-- how often a pacer was asked since its last yes, behind a step that asked it or not, where it said yes or not
abbrev pub since_behind : (asking said : Truth) → ℕ → ℕ
since_behind false said n = n
since_behind true true n = 0
since_behind true false n = one_more n

-- so it is behind a step that was made from a state, and told of these collections
pub record SinceFrom (classes : List Class) (s : State) (behind : List Event) (before after : Since) : Type 0 where
  pub count : after.count ≡ since_behind (asks_at classes Count s) (list_any (paced_by Count) behind) before.count
  pub trace : after.trace ≡ since_behind (asks_at classes Trace s) (list_any (paced_by Trace) behind) before.trace
  -- no pacer says yes that isn't asked
  pub said : (m : Manager) → list_any (paced_by m) behind ≡ true → asks_at classes m s ≡ true

-- for each state of an accepted program that the machine showed; a step that was refused leaves both numbers
abbrev pub SinceOn : Code → (old : Machine) → Outcome → (behind : List Event) → (before after : Since) → Type 0
SinceOn code old (outcome.Trap kind line) behind before after = after ≡ before
SinceOn code old outcome.InputFault behind before after = after ≡ before
SinceOn code old outcome.Memory behind before after = after ≡ before
SinceOn code old result behind before after = (t : Tree) (s : State) → Runs t code old s → SinceFrom t.classes s behind before after
