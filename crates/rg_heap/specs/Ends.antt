-- What goes where a region is released or a window is left, and what both ask for (docs/architecture.md, "The heap").
use Rattle.std.specs.Prelude.{◌≡◌, ℕ, true, drop, List, Some, None, slice_get}
use Rattle.std.specs.List.{list_any}
use Rattle.rg_base.specs.declared.value.Word.{Word}
use Rattle.rg_base.specs.declared.value.Word.TheVariants.{Nil, Int, Bool as Truth, Slot}
use Rattle.rg_base.specs.declared.object.Label.TheVariants.{Temp}
use Rattle.rg_cells.specs.Table.{Heap, body_at, label_at, field_at, high_of}
use Rattle.rg_regions.specs.Table.{RegionTable, record_at, HasNumber}
use Rattle.rg_regions.specs.Reach.{LiesIn}
use Rattle.rg_regions.specs.Grove.{Below}
use Rattle.rg_frames.specs.Stack.{Stack, has_region, mark}
use Rattle.rg_heap.specs.Parts.{Parts}
use Rattle.rg_heap.specs.Answers.{AllLead, IsClosed}

-- nil, or a cell of a region
abbrev pub CanEnter : Heap → Word → Type 0
CanEnter h Nil = Unit {0}
CanEnter h (Int i) = ⊥
CanEnter h (Truth b) = ⊥
CanEnter h (Slot s) = (q : ℕ) × LiesIn h q s

-- what holds of the slot to which a word leads, if it leads to one
abbrev pub OnSlot : Word → (ℕ → Type 0) → Type 0
OnSlot w P = (slot : ℕ) → w ≡ Slot slot → P slot

-- what holds of the region in which a cell lies: of its key and its number
abbrev pub OnRegion : Parts → (slot : ℕ) → ((key number : ℕ) → Type 0) → Type 0
OnRegion p slot P = (key n : ℕ) → LiesIn p.cells.heap n slot → HasNumber p.regions key n → P key n

-- Some regions go, with their cells and records, and some cells go by themselves; all else stays.
pub record Released (old new : Parts) (Region : ℕ → Type 0) (Cell : ℕ → Type 0) : Type 0 where
  pub freed : (q s : ℕ) → Region q → LiesIn old.cells.heap q s → body_at new.cells.heap s ≡ None
  pub ended : (s : ℕ) → Cell s → body_at new.cells.heap s ≡ None
  pub cells : (s : ℕ) → ((q : ℕ) → Region q → LiesIn old.cells.heap q s → ⊥) → (Cell s → ⊥) → body_at new.cells.heap s ≡ body_at old.cells.heap s
  pub removed : (key q : ℕ) → Region q → HasNumber old.regions key q → record_at new.regions key ≡ None
  pub records : (key : ℕ) → ((q : ℕ) → Region q → HasNumber old.regions key q → ⊥) → record_at new.regions key ≡ record_at old.regions key
  pub serials : new.cells.heap.next ≡ old.cells.heap.next
  pub high : high_of new.cells.heap ≡ high_of old.cells.heap
  pub numbers : new.regions.next ≡ old.regions.next

-- no cell
abbrev pub NoCell : ℕ → Type 0
NoCell s = ⊥

-- the top window's temporaries
abbrev pub top_temps : Stack → List ℕ
top_temps v = drop (mark v) v.temps

abbrev pub IsTopTemp : Stack → ℕ → Type 0
IsTopTemp v s = (i : ℕ) × (slice_get (top_temps v) i ≡ Some s)

-- a closed region into which a field of one of some cells leads
pub record OwnedByOne (h : Heap) (t : RegionTable) (v : Stack) (slots : List ℕ) (q : ℕ) : Type 0 where
  pub closed : IsClosed t v q
  pub place : ℕ
  pub slot : ℕ
  pub field : ℕ
  pub to : ℕ
  pub stands : slice_get slots place ≡ Some slot
  pub leads : field_at h slot field ≡ Some (Slot to)
  pub lies : LiesIn h q to

-- a closed region that a temporary of the top window owns, or one beneath it
abbrev pub GoesAlong : Parts → Stack → ℕ → Type 0
GoesAlong p v q = (top : ℕ) × OwnedByOne p.cells.heap p.regions v (top_temps v) top × Below p.cells.heap p.regions top q

-- into a closed region at most one field of the cells outside it leads
abbrev pub OneOutside : Parts → Stack → Type 0
OneOutside p v = (q s k to s₂ k₂ to₂ : ℕ) → IsClosed p.regions v q →
    (LiesIn p.cells.heap q s → ⊥) → field_at p.cells.heap s k ≡ Some (Slot to) → LiesIn p.cells.heap q to →
    (LiesIn p.cells.heap q s₂ → ⊥) → field_at p.cells.heap s₂ k₂ ≡ Some (Slot to₂) → LiesIn p.cells.heap q to₂ → (s ≡ s₂) × (k ≡ k₂)

-- the cell at a slot is a temporary
abbrev pub IsTemp : Heap → (slot : ℕ) → Type 0
IsTemp h slot = (n : ℕ) × (label_at h slot ≡ Some (Temp n))

-- What leaving a window asks for: region 0 is open; the top window's temporaries are held cells with such a label, each once, whose
-- references lead to held cells; and into a closed region at most one field of the cells outside it leads.
pub record CanLeave (p : Parts) (v : Stack) : Type 0 where
  pub first : (key : ℕ) → HasNumber p.regions key 0 → list_any (has_region key) v.windows ≡ true
  pub temps : (i s : ℕ) → slice_get (top_temps v) i ≡ Some s → IsTemp p.cells.heap s
  pub once : (i j s : ℕ) → slice_get (top_temps v) i ≡ Some s → slice_get (top_temps v) j ≡ Some s → i ≡ j
  pub lead : (i s : ℕ) → slice_get (top_temps v) i ≡ Some s → AllLead p.cells.heap s
  pub one_outside : OneOutside p v
