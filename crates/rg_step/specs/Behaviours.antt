-- The object of a behaviour, on the machine that runs it (docs/architecture.md, "How a behaviour begins").
use Rattle.std.specs.Prelude.{◌≡◌, ℕ, Some}
use Rattle.rg_base.specs.declared.words.Manager.{Manager}
use Rattle.rg_base.specs.declared.words.Manager.TheVariants.{Arena}
use Rattle.rg_cells.specs.Table.{HasSerial}
use Rattle.rg_regions.specs.Table.{Record, RegionTable, record_at}
use Rattle.rg_regions.specs.Reach.{LiesIn}
use Rattle.rg_machine.specs.Parts.{Parts}

-- the region of a number has this manager
abbrev pub HasManager : RegionTable → (number : ℕ) → Manager → Type 0
HasManager t n manager = (key : ℕ) × (r : Record) × (record_at t key ≡ Some r) × (r.number ≡ n) × (r.manager ≡ manager)

-- A behaviour's object, the first one that was made, is held: it lies in region 0, which is an arena.
pub record HoldsFirst (p : Parts) : Type 0 where
  pub slot : ℕ
  pub first : HasSerial p.heap.cells.heap slot 0
  pub lies : LiesIn p.heap.cells.heap 0 slot
  pub arena : HasManager p.heap.regions 0 Arena
