-- The machine with which a behaviour begins (docs/architecture.md, "How a behaviour begins").
use Rattle.std.specs.Prelude.{◌≡◌, ℕ, List, [], Some, None}
use Rattle.rg_base.specs.declared.words.Manager.TheVariants.{Arena}
use Rattle.rg_tree.specs.Tree.{Method, Tree}
use Rattle.rg_cells.specs.Table.{HasSerial}
use Rattle.rg_regions.specs.Table.{Record, record_at}
use Rattle.rg_regions.specs.Reach.{LiesIn}
use Rattle.rg_heap.specs.Parts.{Parts as HeapParts}
use Rattle.rg_code.specs.Code.{Code}
use Rattle.rg_sound.specs.Fit.{Fit}
use Rattle.rg_held.specs.Shown.{ShowsHeld}
use Rattle.rg_machine.specs.Parts.{Parts, machine_in}
use Rattle.rg_opening.specs.declared.given.Given.{Given}
use Rattle.rg_opening.specs.Opening.{opening_of}
use Rattle.rg_begin.specs.Starts.{Starts}

-- for each program that has the code, a machine shows all that it holds of the state in which the behaviour begins
abbrev pub ShowsOpening : Code → (class method : ℕ) → List Given → Parts → Type 0
ShowsOpening code class method given p = (t : Tree) (m : Method) → Starts t code class method m given
    → Fit t (opening_of class m given) × ShowsHeld t.classes code (machine_in p) (opening_of class m given)

-- The first object that was made is held: it lies in region 0, which is an arena.
pub record FirstHeld (p : HeapParts) : Type 0 where
  pub slot : ℕ
  pub first : HasSerial p.cells.heap slot 0
  pub lies : LiesIn p.cells.heap 0 slot
  pub key : ℕ
  pub region : Record
  pub there : record_at p.regions key ≡ Some region
  pub number : region.number ≡ 0
  pub arena : region.manager ≡ Arena

-- nothing is on the stack, and nothing is printed
pub record IsBare (p : Parts) : Type 0 where
  pub words : p.words ≡ []
  pub printed : p.printed ≡ None
