-- What a heap shows, in values and in numbers (docs/architecture.md, "The heap").
use Rattle.std.specs.Prelude.{◌≡◌, ℕ, ◌-◌, false, Option, Some, None, count_by, is_some}
use Rattle.std.specs.List.{list_any}
use Rattle.rg_base.specs.declared.outcome.EndNumbers.{EndNumbers}
use Rattle.rg_base.specs.declared.value.Val.{Val}
use Rattle.rg_base.specs.declared.value.Val.TheVariants as vals
use Rattle.rg_base.specs.declared.value.Word.{Word}
use Rattle.rg_base.specs.declared.value.Word.TheVariants.{Nil, Int, Bool as Truth, Slot}
use Rattle.rg_cells.specs.declared.cell.Body.{Body}
use Rattle.rg_cells.specs.Table.{Heap, body_at, field_at, IsHeld, held_count, frozen_count, high_of}
use Rattle.rg_regions.specs.Table.{RegionTable, HasNumber}
use Rattle.rg_frames.specs.Stack.{Stack, has_region}
use Rattle.rg_heap.specs.Parts.{Parts}

-- an object is named by its serial
abbrev pub obj_of : Option Body → Val
obj_of None = vals.Nil
obj_of (Some b) = vals.Obj b.serial

-- the value that a word shows
abbrev pub val_of : Heap → Word → Val
val_of h Nil = vals.Nil
val_of h (Int i) = vals.Int i
val_of h (Truth b) = vals.Bool b
val_of h (Slot s) = obj_of (body_at h s)

-- the references in the fields of a cell lead to held cells
abbrev pub AllLead : Heap → (slot : ℕ) → Type 0
AllLead h slot = (k s : ℕ) → field_at h slot k ≡ Some (Slot s) → IsHeld h s

-- the numbers of a heap; steps and collections aren't its
abbrev pub end_numbers : Parts → EndNumbers
end_numbers p = record {
  steps = 0;
  made = p.cells.heap.next;
  held = held_count p.cells.heap - frozen_count p.cells.heap;
  frozen = frozen_count p.cells.heap;
  regions = count_by is_some p.regions.records;
  collections = 0;
  high = high_of p.cells.heap;
}

-- a region of the table that no window has open
abbrev pub IsClosed : RegionTable → Stack → (region : ℕ) → Type 0
IsClosed t v q = (key : ℕ) × HasNumber t key q × (list_any (has_region key) v.windows ≡ false)
