-- The states of variables, as bit sets hold them (docs/language.md, "Judgements").
use Rattle.std.specs.Prelude.{◌≡◌, ℕ, Bool, true, false, nat_eq, if◌then◌else◌, IsTrue, List}
use Rattle.rg_rules.specs.Environment.{Readiness, ready, gone, lent, is_ready}
use Rattle.rg_flow.specs.declared.flow.Flow.{Flow}
use Rattle.rg_flow.specs.Sets.{has}

-- the state of a variable, by whether it is in the lent set and in the ready one
abbrev pub state_by : (in_lent in_ready : Bool) → Readiness
state_by true true = lent
state_by true false = lent
state_by false true = ready
state_by false false = gone

-- the state of the variable v
abbrev pub state_of : Flow → ℕ → Readiness
state_of flow v = state_by (has flow.lent v) (has flow.ready v)

-- only v has a new state
abbrev pub Sets : (old new : Flow) → ℕ → Readiness → Type 0
Sets old new v state = (w : ℕ) → state_of new w ≡ (if nat_eq w v then state else state_of old w)

-- each variable that is ready at the head is ready here
abbrev pub Covers : (here head : Flow) → Type 0
Covers here head = (v : ℕ) → IsTrue (is_ready (state_of head v)) → IsTrue (is_ready (state_of here v))

-- a set is that of the ready variables
abbrev pub IsReadySet : Flow → List ℕ → Type 0
IsReadySet flow words = (v : ℕ) → has words v ≡ is_ready (state_of flow v)
