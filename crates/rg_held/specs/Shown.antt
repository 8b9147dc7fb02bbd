-- What the machine that frees shows of a state: all that it holds (docs/architecture.md, "The machine that frees").
use Rattle.std.specs.Prelude.{◌≡◌, ◌≢◌, ℕ, Bool as Truth, List, [], Option, Some, None, slice_get}
use Rattle.rg_base.specs.declared.object.Seen.{Seen}
use Rattle.rg_tree.specs.Tree.{Class}
use Rattle.rg_rules.specs.State.{State}
use Rattle.rg_code.specs.Code.{Code}
use Rattle.rg_stack.specs.Machine.{Machine}
use Rattle.rg_stack.specs.Shows.{Shows}
use Rattle.rg_held.specs.Gone.{gone}
use Rattle.rg_held.specs.Part.{Part}

-- beside it a machine over the growing store shows the state, and what is held is the same in both
pub record ShowsHeld (classes : List Class) (code : Code) (m : Machine) (p : State) : Type 0 where
  pub grown : Machine
  pub held : ℕ → Truth
  pub shows : Shows classes code grown p
  pub beside : Part held [] m grown []

-- the object with a serial, if one that is held has it; else what stands there, if anything does, is gone
abbrev pub Finds : List Seen → (serial : ℕ) → Option Seen → Type 0
Finds store serial (Some o) = (slice_get store serial ≡ Some o) × (o ≢ gone)
Finds store serial None = (o : Seen) → slice_get store serial ≡ Some o → o ≡ gone
