-- Where a run of a program stands on a machine, whichever tables keep the program (docs/promises.md). `Stands` of rg_run says it of tables.
use Rattle.std.specs.Prelude.{◌≡◌, ℕ, true, List}
use Rattle.rg_tree.specs.Tree.{Tree}
use Rattle.rg_rules.specs.State.{State}
use Rattle.rg_rules.specs.Runs.{plain}
use Rattle.rg_code.specs.Code.{Code}
use Rattle.rg_code.specs.Lowering.{Lowers}
use Rattle.rg_held.specs.Shown.{ShowsHeld}
use Rattle.rg_machine.specs.Parts.{machine_in}
use Rattle.rg_run.specs.Collected.{Tells}
use Rattle.rg_run.specs.Machine.{Kept}
use Rattle.rg_run.specs.Sound.{IsSound, HoldsOf}

-- the stack machine shows all that it holds of a state of a program, for the program's code
pub record ShowsState (t : Tree) (m : Kept) (s : State) : Type 0 where
  pub begun : m.begun ≡ true
  pub code : Code
  pub lowers : Lowers t code
  pub state : ShowsHeld t.classes code (machine_in m.stepper.parts) s

-- A run of a program on an input stands behind n steps: the machine shows the state there, and holds what it needs of its objects; it has counted the
-- steps; the collections that it tells are those of its steps; and the run is sound.
pub record RunStands (t : Tree) (input : List ℕ) (n : ℕ) (m : Kept) : Type 0 where
  pub shows : ShowsState t m (plain t input n).state
  pub held : HoldsOf t.classes m (plain t input n).state
  pub steps : m.steps ≡ (plain t input n).steps
  pub told : Tells t input m.steps m.stepper.events
  pub sound : IsSound t input n
