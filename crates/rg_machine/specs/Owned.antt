-- Who owns the closed regions of the machine's own heap, between two steps, where nothing is on the stack and references stand in slots and in
-- fields alone (docs/architecture.md, "The machine").
use Rattle.std.specs.Prelude.{◌≡◌, ℕ, Some, slice_get}
use Rattle.rg_base.specs.declared.value.Word.TheVariants.{Slot}
use Rattle.rg_base.specs.declared.object.Label.TheVariants.{Temp}
use Rattle.rg_cells.specs.Table.{field_at, label_at, IsHeld, Serials}
use Rattle.rg_regions.specs.Grove.{Grove}
use Rattle.rg_regions.specs.Reach.{LiesIn}
use Rattle.rg_regions.specs.Table.{HasNumber, InTable, IsBridge}
use Rattle.rg_frames.specs.declared.rows.Window.{Window}
use Rattle.rg_heap.specs.Answers.{IsClosed}
use Rattle.rg_heap.specs.Opened.{IsWindow, IsTempOf}
use Rattle.rg_view.specs.Numbers.{HasBridges}
use Rattle.rg_machine.specs.Parts.{Parts}

-- where a reference stands: in a slot of a frame, counted from main's first one, or in a field of a cell
pub data Holder : Type 0 where
  in_slot : (place : ℕ) → Holder
  in_field : (cell field : ℕ) → Holder

-- the reference that stands there leads from outside a region to a cell of it; where no window has the region open, it is an owner reference
abbrev pub Owns : Parts → Holder → (region to : ℕ) → Type 0
Owns p (in_slot j) q to = (slice_get p.frames.slots j ≡ Some (Slot to)) × LiesIn p.heap.cells.heap q to
Owns p (in_field s k) q to =
    (LiesIn p.heap.cells.heap q s → ⊥) × (field_at p.heap.cells.heap s k ≡ Some (Slot to)) × LiesIn p.heap.cells.heap q to

-- a region has an owner reference
pub record Owner (p : Parts) (q : ℕ) : Type 0 where
  pub holder : Holder
  pub to : ℕ
  pub owns : Owns p holder q to

-- The forest of regions, in the machine's own table, cells and frames. A region of the table is closed where no window has it open, and only
-- held cells have fields.
pub record IsOwned (p : Parts) : Type 0 where
  -- members of a region are the held cells that are labelled with it, each once; no chain of parents comes back to its start
  pub grove : Grove p.heap.cells p.heap.regions
  -- the table has region 0, and the region of each window
  pub first : InTable p.heap.regions 0
  pub opened : (i : ℕ) (w : Window) → IsWindow p.frames i w → (n : ℕ) × HasNumber p.heap.regions w.region n
  -- each region but region 0 has a bridge, and region 0 has none
  pub bridges : HasBridges p.heap.regions
  -- the serials of held cells are below the next one, and differ
  pub serials : Serials p.heap.cells.heap
  -- the temporaries of a window are the held cells that are labelled with its number, each once; each cell labelled so is one of a window
  pub temps : (i s : ℕ) (w : Window) → IsWindow p.frames i w → IsTempOf p.frames i s → label_at p.heap.cells.heap s ≡ Some (Temp w.number)
  pub all_temps : (i s : ℕ) (w : Window) → IsWindow p.frames i w → label_at p.heap.cells.heap s ≡ Some (Temp w.number) → IsTempOf p.frames i s
  pub once : (j k s : ℕ) → slice_get p.frames.temps j ≡ Some s → slice_get p.frames.temps k ≡ Some s → j ≡ k
  pub windowed : (s n : ℕ) → label_at p.heap.cells.heap s ≡ Some (Temp n) → (i : ℕ) × (w : Window) × IsWindow p.frames i w × (w.number ≡ n)
  -- each closed region has an owner reference, and no second one
  pub owner : (q : ℕ) → IsClosed p.heap.regions p.frames q → Owner p q
  pub one_owner : (q : ℕ) (x y : Holder) (to end : ℕ) → IsClosed p.heap.regions p.frames q
      → Owns p x q to → Owns p y q end → (x ≡ y) × (to ≡ end)
  -- it leads to the region's bridge
  pub bridge : (q : ℕ) (x : Holder) (to : ℕ) → IsClosed p.heap.regions p.frames q → Owns p x q to → IsBridge p.heap.regions q to
  -- no slot and no field leads to a cell that isn't held
  pub slots : (j s : ℕ) → slice_get p.frames.slots j ≡ Some (Slot s) → IsHeld p.heap.cells.heap s
  pub fields : (s k to : ℕ) → field_at p.heap.cells.heap s k ≡ Some (Slot to) → IsHeld p.heap.cells.heap to
