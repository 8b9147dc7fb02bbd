-- What the readers of the heap answer (docs/architecture.md, "The heap").
use Rattle.std.specs.Prelude.{◌≡◌, ℕ, List, [], map, Option, Some, None, Result, Ok, Err, ◌<◌, length}
use Rattle.rg_base.specs.declared.object.Seen.{Seen}
use Rattle.rg_base.specs.declared.outcome.Trap.{Trap}
use Rattle.rg_base.specs.declared.outcome.Trap.TheVariants as traps
use Rattle.rg_base.specs.declared.value.Val.{Val}
use Rattle.rg_base.specs.declared.value.Word.{Word}
use Rattle.rg_base.specs.declared.value.Word.TheVariants.{Nil, Int, Bool as Truth, Slot}
use Rattle.rg_cells.specs.declared.cell.Body.{Body}
use Rattle.rg_cells.specs.Table.{Heap, body_at, field_at, width, LacksSerial}
use Rattle.rg_regions.specs.Table.{Record, RegionTable, record_at}
use Rattle.rg_regions.specs.Reach.{LiesIn}
use Rattle.rg_frames.specs.Stack.{Stack}
use Rattle.rg_heap.specs.declared.answers.Active.{Active}
use Rattle.rg_heap.specs.Parts.{Parts}
use Rattle.rg_heap.specs.Answers.{IsClosed, val_of}

-- a field can be read at nil, and at a held cell that has the field
abbrev pub CanRead : Heap → Word → (k : ℕ) → Type 0
CanRead h Nil k = Unit {0}
CanRead h (Int i) k = ⊥
CanRead h (Truth b) k = ⊥
CanRead h (Slot s) k = k < width (body_at h s)

-- what a field holds; at nil there is none
abbrev pub Reads : Heap → Word → (k : ℕ) → Result Word Trap → Type 0
Reads h Nil k result = result ≡ Err traps.Nil
Reads h (Int i) k result = ⊥
Reads h (Truth b) k result = ⊥
Reads h (Slot s) k result = (w : Word) × (result ≡ Ok w) × (field_at h s k ≡ Some w)

-- the fields of the cell at a slot
abbrev pub fields_of : Option Body → List Word
fields_of None = []
fields_of (Some b) = b.fields

abbrev pub shown_fields : Heap → (slot : ℕ) → List Val
shown_fields h slot = map (val_of h) (fields_of (body_at h slot))

-- no held cell has the serial, or this is what such a cell shows
abbrev pub Shows : Heap → (serial : ℕ) → Option Seen → Type 0
Shows h serial None = LacksSerial h serial
Shows h serial (Some seen) =
    (slot : ℕ) × (b : Body) × (body_at h slot ≡ Some b) × (b.serial ≡ serial)
    × (seen.class ≡ b.class) × (seen.label ≡ b.label) × (seen.fields ≡ shown_fields h slot)

-- the region of a key has this number, this manager and so many cells
abbrev pub Tells : RegionTable → (key : ℕ) → Active → Type 0
Tells t key a = (r : Record) → record_at t key ≡ Some r → (a.region ≡ r.number) × (a.manager ≡ r.manager) × (a.held ≡ length r.members)

-- a word leads to a cell of a region that no window has open
abbrev pub LeadsIntoClosed : Parts → Stack → Word → Type 0
LeadsIntoClosed p v w = (q s : ℕ) × (w ≡ Slot s) × LiesIn p.cells.heap q s × IsClosed p.regions v q
