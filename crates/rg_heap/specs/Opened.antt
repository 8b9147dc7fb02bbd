-- What holds of a heap and its windows between any two calls of a step (docs/architecture.md, "The heap").
use Rattle.std.specs.Prelude.{◌≡◌, ℕ, ◌+◌, ◌<◌, Some, drop, length, slice_get, slice_index_or, take}
use Rattle.rg_base.specs.declared.object.Label.TheVariants.{Temp}
use Rattle.rg_base.specs.declared.value.Word.TheVariants.{Slot}
use Rattle.rg_cells.specs.Table.{label_at, IsHeld}
use Rattle.rg_regions.specs.Table.{HasNumber}
use Rattle.rg_regions.specs.Grove.{Parent}
use Rattle.rg_frames.specs.declared.rows.Window.{Window}
use Rattle.rg_frames.specs.Stack.{Stack}
use Rattle.rg_heap.specs.Parts.{Parts}
use Rattle.rg_heap.specs.Answers.{AllLead}

-- the window at a place, counted from window 0
abbrev pub IsWindow : Stack → (place : ℕ) → Window → Type 0
IsWindow v i w = slice_get v.windows i ≡ Some w

-- a temporary of the window at a place: the marks say where each window's temporaries begin, and the next one's begin is their end
abbrev pub IsTempOf : Stack → (place slot : ℕ) → Type 0
IsTempOf v i s =
    (j : ℕ) × (slice_get (drop (slice_index_or v.marks i 0) (take (slice_index_or v.marks (i + 1) (length v.temps)) v.temps)) j ≡ Some s)

pub record Opened (p : Parts) (v : Stack) : Type 0 where
  -- each window has a mark where its temporaries begin
  pub as_many : length v.marks ≡ length v.windows
  -- window 0 has region 0; the windows' regions are in the table, and differ
  pub first : (w : Window) → IsWindow v 0 w → HasNumber p.regions w.region 0
  pub some : 0 < length v.windows
  pub known : (i : ℕ) (w : Window) → IsWindow v i w → (n : ℕ) × HasNumber p.regions w.region n
  pub differ : (i j : ℕ) (w u : Window) → IsWindow v i w → IsWindow v j u → w.region ≡ u.region → i ≡ j
  -- the temporaries of a window are the held cells that are labelled with its number, each once
  pub temps : (i s : ℕ) (w : Window) → IsWindow v i w → IsTempOf v i s → label_at p.cells.heap s ≡ Some (Temp w.number)
  pub all_temps : (i s : ℕ) (w : Window) → IsWindow v i w → label_at p.cells.heap s ≡ Some (Temp w.number) → IsTempOf v i s
  pub once : (j k s : ℕ) → slice_get v.temps j ≡ Some s → slice_get v.temps k ≡ Some s → j ≡ k
  -- references in slots and in fields of temporaries lead to held cells
  pub slots : (j s : ℕ) → slice_get v.slots j ≡ Some (Slot s) → IsHeld p.cells.heap s
  pub lead : (j s : ℕ) → slice_get v.temps j ≡ Some s → AllLead p.cells.heap s
  -- the parent of an open region is the region of the window beneath
  pub parents : (i : ℕ) (w : Window) (n q : ℕ) → IsWindow v i w → HasNumber p.regions w.region n → Parent p.cells.heap q n →
      (j : ℕ) × (u : Window) × (i ≡ j + 1) × IsWindow v j u × HasNumber p.regions u.region q
