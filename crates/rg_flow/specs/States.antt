-- The states of the visible variables, and what is found of a variable (docs/language.md, "Judgements").
use Rattle.std.specs.Prelude.{◌≡◌, ℕ, zero, suc, ◌≤◌, IsTrue, if◌then◌else◌, List, [], ◌∷◌, length, Option, Some, None, ok_or, Result, Ok, Err, IfOk}
use Rattle.rg_base.specs.declared.fault.Code.{Code}
use Rattle.rg_base.specs.declared.fault.Code.TheVariants.{Unknown}
use Rattle.rg_tree.specs.Rows.Tables.{Tables, AreDistinct}
use Rattle.rg_tree.specs.Rows.RowTrees.{program_of, variable_of}
use Rattle.rg_rules.specs.Answers.{Answer}
use Rattle.rg_rules.specs.Environment.{Readiness, ready, gone, lent, Entry, joined_readiness, is_ready, entry_of}
use Rattle.rg_flow.specs.declared.flow.Flow.{Flow}
use Rattle.rg_flow.specs.Flows.{state_of}
use Rattle.rg_names.specs.TreeAnswers.{IsKnown}
use Rattle.rg_flow.specs.Scope.{Slot, Scope, same_name, env_of, IsScopeIn}
use Rattle.rg_flow.specs.declared.env.states.State.{State}
use Rattle.rg_flow.specs.declared.env.states.State.TheVariants.{Ready, Gone, Lent}
use Rattle.rg_flow.specs.declared.env.found.Found.{Found}
use Rattle.rg_flow.specs.declared.env.saved.Saved.{Saved}

-- the variables can be looked up by their names: no two numbers stand for one name, and the numbers of each variable name names and classes
pub record IsReadable (t : Tables) (scope : Scope) : Type 0 where
  pub names : AreDistinct t.names
  pub slots : IsScopeIn t scope

-- the state that the rules have
abbrev pub readiness_of : State → Readiness
readiness_of Ready = ready
readiness_of Gone = gone
readiness_of Lent = lent

-- what is found of a variable
abbrev pub IsFoundOf : Slot → Found → Type 0
IsFoundOf s f = record { name = s.name; ty = f.ty; depth = f.depth; readiness = readiness_of f.state; assignable = f.assignable } ≡ s

-- the first variable of a name
abbrev pub slot_of : Option ℕ → List Slot → Option Slot
slot_of name [] = None
slot_of name (s ∷ ss) = if same_name s.name name then Some s else slot_of name ss

-- what the rules see of a variable that is found under a name
abbrev pub entry_found : Tables → (name : Option ℕ) → Result Found Code → Answer Entry
entry_found t name (Ok f) = Ok
    (record { name = variable_of t name; ty = f.ty; depth = f.depth; readiness = readiness_of f.state; assignable = f.assignable })
entry_found t name (Err code) = Err code

-- the answer for the first variable of a name
abbrev pub FoundAs : Option Slot → Result Found Code → Type 0
FoundAs None (Ok f) = ⊥
FoundAs None (Err code) = code ≡ Unknown
FoundAs (Some s) (Ok f) = IsFoundOf s f
FoundAs (Some s) (Err code) = ⊥

-- the answer says what the rules see of the variable, whose class is there
pub record FoundInTree (t : Tables) (name : Option ℕ) (scope : Scope) (answer : Result Found Code) : Type 0 where
  pub entry : ok_or (entry_of (env_of t scope) (variable_of t name)) Unknown ≡ entry_found t name answer
  pub known : IfOk answer (λ f. IsKnown (program_of t).classes f.ty)

-- the state of the variable at a place; where there is none, it is gone
abbrev pub state_at : List Slot → ℕ → Readiness
state_at [] k = gone
state_at (s ∷ ss) zero = s.readiness
state_at (s ∷ ss) (suc k) = state_at ss k

-- the states of the variables
abbrev pub AreStatesOf : Flow → List Slot → Type 0
AreStatesOf flow slots = (k : ℕ) → state_of flow k ≡ state_at slots k

-- a point of a body: the depth there, how many variables are visible, and their states
pub record IsSaved (saved : Saved) (scope : Scope) : Type 0 where
  pub depth : saved.depth ≡ scope.depth
  pub len : saved.len ≡ length scope.slots
  pub states : AreStatesOf saved.flow scope.slots
  pub ordered : saved.depth ≤ saved.len

-- the variables from a place on, in the states of a flow
abbrev pub restated_from : Flow → ℕ → List Slot → List Slot
restated_from flow k [] = []
restated_from flow k (s ∷ ss) = record s { readiness = state_of flow k } ∷ restated_from flow (suc k) ss

-- the variables in the states of a flow
abbrev pub restated : Flow → Scope → Scope
restated flow scope = record scope { slots = restated_from flow 0 scope.slots }

-- the variables from a place on, with their states joined to those of a flow
abbrev pub joined_from : Flow → ℕ → List Slot → List Slot
joined_from flow k [] = []
joined_from flow k (s ∷ ss) = record s { readiness = joined_readiness (state_of flow k) s.readiness } ∷ joined_from flow (suc k) ss

-- the variables with their states joined to those of a flow
abbrev pub joined_with : Flow → Scope → Scope
joined_with flow scope = record scope { slots = joined_from flow 0 scope.slots }

-- each variable that is ready in a flow is ready among these
abbrev pub CoversStates : (head : Flow) → List Slot → Type 0
CoversStates head slots = (k : ℕ) → IsTrue (is_ready (state_of head k)) → IsTrue (is_ready (state_at slots k))
