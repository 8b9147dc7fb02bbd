-- The laws of the object of a behaviour (docs/architecture.md, "How a behaviour begins").
use Rattle.std.specs.Prelude.{◌≡◌, ℕ, List}
use Rattle.rg_tree.specs.Tree.{Method, Tree}
use Rattle.rg_rules.specs.Acceptance.{Accepted}
use Rattle.rg_rules.specs.State.{State}
use Rattle.rg_rules.specs.Steps.{Went, next}
use Rattle.rg_rules.specs.Runs.{plain_from}
use Rattle.rg_sound.specs.Fit.{Fit}
use Rattle.rg_opening.specs.declared.given.Given.{Given}
use Rattle.rg_opening.specs.Opening.{opening_of}
use Rattle.rg_opening.specs.Beginning.{MayBegin}
use Rattle.rg_first.specs.First.{IsFirst, IsOfBehaviour}

-- a step that goes well leaves the first object of region 0 there
abbrev pub FirstStays : Type 0
FirstStays = (t : Tree) (class : ℕ) (s u : State) → Accepted t → Fit t s → IsFirst t.classes class s → next t.classes s ≡ Went u
    → IsFirst t.classes class u

-- a state of a behaviour leads to such states alone, however many steps are made
abbrev pub RunsGoOn : Type 0
RunsGoOn = (t : Tree) (class : ℕ) (s : State) (n made : ℕ) → Accepted t → IsOfBehaviour t class s
    → IsOfBehaviour t class (plain_from t.classes n made s).state

-- each state of each run of a behaviour is such a state
abbrev pub FirstOfRuns : Type 0
FirstOfRuns = (t : Tree) (class : ℕ) (m : Method) (given : List Given) (n made : ℕ) → Accepted t → MayBegin t class m given
    → IsOfBehaviour t class (plain_from t.classes n made (opening_of class m given)).state
