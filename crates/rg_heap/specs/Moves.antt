-- What freezing and merging a region leave (docs/architecture.md, "The heap").
use Rattle.std.specs.Prelude.{◌≡◌, ℕ, Result, Ok, Err}
use Rattle.rg_base.specs.declared.outcome.Trap.{Trap}
use Rattle.rg_base.specs.declared.outcome.Trap.TheVariants as traps
use Rattle.rg_base.specs.declared.value.Word.{Word}
use Rattle.rg_base.specs.declared.value.Word.TheVariants.{Nil, Int, Bool as Truth, Slot}
use Rattle.rg_cells.specs.Table.{Heap, high_of}
use Rattle.rg_regions.specs.Table.{RegionTable, HasNumber}
use Rattle.rg_regions.specs.Reach.{LiesIn}
use Rattle.rg_regions.specs.Grove.{Below}
use Rattle.rg_move.specs.Frozen.{CellsFreeze, CellsStay, RecordsGo, RecordsStay}
use Rattle.rg_move.specs.Merged.{CellsMove, OthersStay, RecordsMerge}
use Rattle.rg_heap.specs.Parts.{Parts}
use Rattle.rg_heap.specs.Writes.{Ownerless}

-- nil, or the bridge of a region, not region 0, into which no field of another region's cell leads
abbrev pub CanMove : Heap → RegionTable → Word → Type 0
CanMove h t Nil = Unit {0}
CanMove h t (Int i) = ⊥
CanMove h t (Truth b) = ⊥
CanMove h t (Slot s) = (n : ℕ) × Ownerless h t n s

-- what is answered: the slot to which a word leads, or, at nil, that it is nil
abbrev pub BridgeOrNil : Word → Result ℕ Trap → Type 0
BridgeOrNil Nil result = result ≡ Err traps.Nil
BridgeOrNil (Int i) result = ⊥
BridgeOrNil (Truth b) result = ⊥
BridgeOrNil (Slot s) result = result ≡ Ok s

-- a region isn't that of a cell, nor beneath it
abbrev pub NotBeneath : Parts → (slot key : ℕ) → Type 0
NotBeneath p slot key = (n m : ℕ) → LiesIn p.cells.heap n slot → HasNumber p.regions key m → Below p.cells.heap p.regions n m → ⊥

-- the region of a key and all beneath it are frozen: their cells, and no others, get that label, and their records go
pub record Freezes (old new : Parts) (key : ℕ) : Type 0 where
  pub frozen : CellsFreeze old.cells old.regions new.cells key
  pub cells : CellsStay old.cells old.regions new.cells key
  pub removed : RecordsGo old.cells.heap old.regions new.regions key
  pub records : RecordsStay old.cells.heap old.regions new.regions key
  pub serials : new.cells.heap.next ≡ old.cells.heap.next
  pub high : high_of new.cells.heap ≡ high_of old.cells.heap
  pub numbers : new.regions.next ≡ old.regions.next

-- the cells of the one region, and no others, get the label of the other, which has the members of both
pub record Merges (old new : Parts) (source into : ℕ) : Type 0 where
  pub moved : CellsMove old.cells old.regions new.cells source into
  pub cells : OthersStay old.cells old.regions new.cells source
  pub records : RecordsMerge old.regions new.regions source into
  pub serials : new.cells.heap.next ≡ old.cells.heap.next
  pub high : high_of new.cells.heap ≡ high_of old.cells.heap
  pub numbers : new.regions.next ≡ old.regions.next
