-- How the visible variables are kept (docs/language.md, "Judgements"). No public clause cites this module.
use Rattle.std.specs.Prelude.{◌≡◌, ℕ, zero, suc, ◌≤◌, Bool, false, if◌then◌else◌, List, [], ◌∷◌, ◌++◌, length, slice_get, option_map, Option, Some}
use Rattle.std.specs.Prelude.{None}
use Rattle.std.specs.Map.{lookup}
use Rattle.rg_rules.specs.Environment.{ready, gone}
use Rattle.rg_flow.specs.declared.flow.Flow.{Flow}
use Rattle.rg_flow.specs.Flows.{state_of}
use Rattle.rg_flow.specs.Scope.{Slot, Scope, same_name}
use Rattle.rg_flow.specs.States.{readiness_of}
use Rattle.rg_flow.specs.declared.env.found.Found.{Found}
use Rattle.rg_flow.specs.declared.env.var.Var.{Var}

-- the variables from a place on, with their states
abbrev pub slots_from : Flow → ℕ → List Var → List Slot
slots_from flow k [] = []
slots_from flow k (v ∷ vs) =
    record { name = v.name; ty = v.ty; depth = v.depth; readiness = state_of flow k; assignable = v.assignable } ∷ slots_from flow (suc k) vs

-- the variables at a depth
abbrev pub scope_of : (depth : ℕ) → List Var → Flow → Scope
scope_of depth vars flow = record { depth = depth; slots = slots_from flow 0 vars }

-- the place of the first variable of a name
abbrev pub place_in : Option ℕ → List Var → Option ℕ
place_in name [] = None
place_in name (v ∷ vs) = if same_name v.name name then Some 0 else option_map suc (place_in name vs)

-- the places that are noted have each visible variable; what they have of others counts for nothing
abbrev pub AreNoted : List (Option ℕ × ℕ) → List Var → Type 0
AreNoted places vars = (name : Option ℕ) (k : ℕ) → place_in name vars ≡ Some k → lookup (same_name name) places ≡ Some k

-- what holds of each list of visible variables
pub record IsKept (depth : ℕ) (vars : List Var) (places : List (Option ℕ × ℕ)) (flow : Flow) : Type 0 where
  pub within : length vars ≤ 256
  pub ordered : depth ≤ length vars
  pub past : (k : ℕ) → length vars ≤ k → state_of flow k ≡ gone
  pub noted : AreNoted places vars

-- whether the variable at a place has a name
abbrev pub names_at : Option ℕ → List Var → ℕ → Bool
names_at name [] w = false
names_at name (v ∷ vs) zero = same_name v.name name
names_at name (v ∷ vs) (suc w) = names_at name vs w

-- a variable that was added last is ready
abbrev pub ready_slot : Var → Slot
ready_slot v = record { name = v.name; ty = v.ty; depth = v.depth; readiness = ready; assignable = v.assignable }

-- one more variable
abbrev pub with_slot : Scope → Slot → Scope
with_slot scope s = record scope { slots = scope.slots ++ s ∷ [] }

-- what is found of the variable at a place
pub record IsFoundAt (vars : List Var) (flow : Flow) (k : ℕ) (f : Found) : Type 0 where
  pub var : Var
  pub at : slice_get vars k ≡ Some var
  pub ty : f.ty ≡ var.ty
  pub depth : f.depth ≡ var.depth
  pub state : readiness_of f.state ≡ state_of flow k
  pub assignable : f.assignable ≡ var.assignable
