-- What a machine keeps, and when it shows a state of the machine that never frees (docs/language.md, "Steps").
use Rattle.std.specs.Prelude.{◌≡◌, ◌≢◌, ℕ, Bool, true, false, List, Option, Some, None, slice_get}
use Rattle.rg_base.specs.declared.object.Seen.{Seen}
use Rattle.rg_base.specs.declared.outcome.EndNumbers.{EndNumbers}
use Rattle.rg_tree.specs.Rows.Tables.{Tables}
use Rattle.rg_tree.specs.Rows.RowTrees.{classes_of, program_of}
use Rattle.rg_rules.specs.State.{State}
use Rattle.rg_code.specs.Code.{Code}
use Rattle.rg_code.specs.Lowering.{Lowers}
use Rattle.rg_held.specs.Gone.{gone}
use Rattle.rg_held.specs.Shown.{ShowsHeld}
use Rattle.rg_machine.specs.Parts.{machine_in}
pub use Rattle.rg_step.specs.Stepping.{Stepping}
use Rattle.rg_step.specs.Stepping as stepper

-- whether a run has begun, the stack machine, and the whole steps that it made
pub record Kept : Type 0 where
  pub begun : Bool
  pub stepper : Stepping
  pub steps : ℕ

-- no run has begun, whether or not it was chosen that what collections keep moves
pub record IsFresh (m : Kept) : Type 0 where
  pub begun : m.begun ≡ false
  pub stepper : stepper.IsFresh m.stepper
  pub steps : m.steps ≡ 0

-- the stack machine shows all that it holds of a state of a program, for the program's code, whatever is left of the input there
pub record Shows (t : Tables) (m : Kept) (s : State) : Type 0 where
  pub begun : m.begun ≡ true
  pub code : Code
  pub lowers : Lowers (program_of t) code
  pub state : ShowsHeld (classes_of t) code (machine_in m.stepper.parts) s

-- the machine shows a state, and so much is left of the input there
abbrev pub ShowsAt : Tables → Kept → (rest : List ℕ) → State → Type 0
ShowsAt t m rest s = Shows t m s × (s.input ≡ rest)

-- the object at a serial, where one was made; one that was freed is gone
abbrev pub object_at : Kept → (serial : ℕ) → Option Seen
object_at m serial = slice_get (machine_in m.stepper.parts).store serial

-- what is answered for a serial: the object that the machine holds there, and none where it holds none
abbrev pub IsShown : Kept → (serial : ℕ) → Option Seen → Type 0
IsShown m serial (Some o) = (object_at m serial ≡ Some o) × (o ≢ gone)
IsShown m serial None = (o : Seen) → object_at m serial ≡ Some o → o ≡ gone

-- the numbers of a run: its whole steps, those of the heap, and the collections
abbrev pub numbers_of : Kept → EndNumbers
numbers_of m = record (stepper.numbers_of m.stepper) { steps = m.steps }
