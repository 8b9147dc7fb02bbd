-- Runs of the machine that never frees: so many steps from its opening state (docs/language.md, "Steps").
use Rattle.std.specs.Prelude.{ℕ, zero, suc, ◌+◌, List, [], ◌∷◌, None}
use Rattle.rg_base.specs.declared.outcome.Trap.{Trap}
use Rattle.rg_tree.specs.Tree.{Class, Tree}
use Rattle.rg_rules.specs.Items.{Item, EndAt, items_of}
use Rattle.rg_rules.specs.State.{Drops, State}
use Rattle.rg_rules.specs.Steps.{Stepped, Went, Trapped, step_item}

-- how a run stands
pub data Ending : Type 0 where
  -- items are left
  Running : Ending
  -- no item is left
  Done : Ending
  -- a step trapped at a line
  Stopped : Trap → (line : ℕ) → Ending

-- the state, which after a trap is the one before that step; the number of steps made, without one that trapped; and how it stands
pub record Ran : Type 0 where
  pub state : State
  pub steps : ℕ
  pub ending : Ending

-- the opening state: main's block, with no object, one empty frame, and window 0 on region 0, which has main's manager
abbrev pub opening : Tree → (input : List ℕ) → State
opening t input = record {
  store = [];
  frames = record { locals = []; target = Drops } ∷ [];
  windows = record { number = 0; region = 0; owner = None; base_frame = 0; base_place = 0 } ∷ [];
  managers = t.manager ∷ [];
  windows_made = 1;
  items = items_of t.body (EndAt 0 ∷ []);
  input = input;
  output = [];
}

-- a run that no trap cut short is done where no item is left
abbrev pub ending_of : List Item → Ending
ending_of [] = Done
ending_of (i ∷ rest) = Running

-- goes on from what a step made of a state
abbrev pub after_step : (made : ℕ) → State → Stepped → (State → Ran) → Ran
after_step made s (Went t) go = go t
after_step made s (Trapped kind line) go = record { state = s; steps = made; ending = Stopped kind line }

-- makes the step of the first of these items and goes on; without one the run is done
abbrev pub run_on : List Class → (made : ℕ) → State → List Item → (State → Ran) → Ran
run_on classes made s [] go = record { state = s; steps = made; ending = Done }
run_on classes made s (i ∷ rest) go = after_step made s (step_item classes (record s { items = rest }) i) go

-- at most so many steps from a state, so many being made before it
unfoldable pub plain_from : List Class → (left made : ℕ) → State → Ran
plain_from classes zero made s = record { state = s; steps = made; ending = ending_of s.items }
plain_from classes (suc n) made s = run_on classes made s s.items (plain_from classes n (made + 1))

-- at most n steps of a program on an input
abbrev pub plain : Tree → (input : List ℕ) → (n : ℕ) → Ran
plain t input n = plain_from t.classes n 0 (opening t input)
