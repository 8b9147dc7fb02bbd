-- What callers see of the cells: bodies, marks and links by their slots (docs/architecture.md, "Cells").
use Rattle.std.specs.Prelude.{◌≡◌, ◌≢◌, ℕ, ◌+◌, ◌-◌, ◌<◌, ◌==◌, List, [], ◌∷◌, length, Option, Some, None, IsSome, is_some, option_map}
use Rattle.std.specs.Prelude.{option_and_then, slice_index_or, slice_index, slice_set, slice_get, count_by, if◌then◌else◌}
use Rattle.rg_base.specs.declared.object.Label.{Label}
use Rattle.rg_base.specs.declared.object.Label.TheVariants.{Region, Temp, Frozen}
use Rattle.rg_cells.specs.declared.cell.Body.{Body}
use Rattle.rg_base.specs.declared.value.Word.{Word}

-- The cells without their marks and links. A slot has None where no cell was ever held, Some None where its cell was freed,
-- and else the body of its cell. The next cell gets the serial `next`.
pub record Heap : Type 0 where
  pub slots : List (Option (Option Body))
  pub next : ℕ

-- the cells with a mark and a link for each slot; a slot that isn't held has 0 and None
pub record Table : Type 0 where
  pub heap : Heap
  pub marks : List ℕ
  pub links : List (Option ℕ)

-- what a slot has of a body
abbrev pub body_in : Option (Option Body) → Option Body
body_in None = None
body_in (Some b) = b

-- the body of the held cell at a slot, if there is one
abbrev pub body_at : Heap → ℕ → Option Body
body_at h slot = body_in (slice_index_or h.slots slot None)

-- what a field of the cell at a slot holds
abbrev pub field_at : Heap → (slot k : ℕ) → Option Word
field_at h slot k = option_and_then (λ (b : Body). slice_get b.fields k) (body_at h slot)

-- to what the cell at a slot belongs
abbrev pub label_at : Heap → ℕ → Option Label
label_at h slot = option_map (λ (b : Body). b.label) (body_at h slot)

-- a cell is held at the slot
abbrev pub IsHeld : Heap → ℕ → Type 0
IsHeld h slot = IsSome (body_at h slot)

-- the mark and the link of a slot
abbrev pub mark_at : Table → ℕ → ℕ
mark_at t slot = slice_index t.marks slot

abbrev pub link_at : Table → ℕ → Option ℕ
link_at t slot = slice_index_or t.links slot None

-- the slots together, each weighed
abbrev pub total : (Option Body → ℕ) → List (Option (Option Body)) → ℕ
total f [] = 0
total f (x ∷ xs) = f (body_in x) + total f xs

-- one for a cell
abbrev pub one : Option Body → ℕ
one None = 0
one (Some b) = 1

-- one for a frozen cell
abbrev pub one_frozen_by : Label → ℕ
one_frozen_by (Region r) = 0
one_frozen_by (Temp n) = 0
one_frozen_by Frozen = 1

abbrev pub one_frozen : Option Body → ℕ
one_frozen None = 0
one_frozen (Some b) = one_frozen_by b.label

-- the number of fields of a cell
abbrev pub width : Option Body → ℕ
width None = 0
width (Some b) = length b.fields

-- the number of held cells, of frozen ones, and of fields of held cells
abbrev pub held_count : Heap → ℕ
held_count h = total one h.slots

abbrev pub frozen_count : Heap → ℕ
frozen_count h = total one_frozen h.slots

abbrev pub field_total : Heap → ℕ
field_total h = total width h.slots

-- the number of slots that were ever held
abbrev pub high_of : Heap → ℕ
high_of h = count_by is_some h.slots

-- another body at a held slot
abbrev pub with_body : Heap → ℕ → Body → Heap
with_body h slot b = record h { slots = slice_set h.slots slot (Some (Some b)) }

-- a field of the body at a slot is written
abbrev pub with_field : Heap → ℕ → ℕ → Word → Heap
with_field h slot k w =
    elim (body_at h slot) [ None ↦ h | Some b ↦ with_body h slot (record b { fields = slice_set b.fields k w }) ]

-- the cell at a slot gets another label
abbrev pub with_label : Heap → ℕ → Label → Heap
with_label h slot label = elim (body_at h slot) [ None ↦ h | Some b ↦ with_body h slot (record b { label = label }) ]

-- the cell at a slot is freed
abbrev pub freed : Heap → ℕ → Heap
freed h slot = record h { slots = slice_set h.slots slot (Some None) }

abbrev pub freed_from : Table → ℕ → Table
freed_from t slot = record { heap = freed t.heap slot; marks = slice_set t.marks slot 0; links = slice_set t.links slot None }

-- a slot has its own entries for a mark and a link
abbrev pub IsListed : Table → ℕ → Type 0
IsListed t slot = (slot < length t.marks) × (slot < length t.links)

-- what stands at two places of a list changes places; past the end it is read as `d`
abbrev pub traded : {X : Type 0} → (d : X) → List X → (a b : ℕ) → List X
traded d xs a b = slice_set (slice_set xs a (slice_index_or xs b d)) b (slice_index_or xs a d)

-- the cells at two slots change places, with their marks and links
abbrev pub exchanged : Table → (a b : ℕ) → Table
exchanged t a b = record {
  heap = record t.heap { slots = traded None t.heap.slots a b };
  marks = traded 0 t.marks a b;
  links = traded None t.links a b;
}

-- a new cell is held at a slot, and all others stay
pub record Made (old new : Table) (slot : ℕ) (b : Body) : Type 0 where
  pub body : body_at new.heap slot ≡ Some b
  pub others : (other : ℕ) → other ≢ slot → slice_index_or new.heap.slots other None ≡ slice_index_or old.heap.slots other None
  pub mark : mark_at new slot ≡ 0
  pub marks : (other : ℕ) → other ≢ slot → mark_at new other ≡ mark_at old other
  pub link : link_at new slot ≡ None
  pub links : (other : ℕ) → other ≢ slot → link_at new other ≡ link_at old other

-- a slot that isn't held is taken, and one that was held before where there is such a one
pub record Takes (h : Heap) (slot : ℕ) : Type 0 where
  pub vacant : body_at h slot ≡ None
  pub again : held_count h < high_of h → IsSome (slice_index_or h.slots slot None)

-- the number of slots ever held, behind one cell more: it rises exactly where all of them are held
abbrev pub high_after : Heap → ℕ
high_after h = if held_count h == high_of h then high_of h + 1 else high_of h

-- the held cell at a slot was made last
abbrev pub IsNewest : Heap → ℕ → Type 0
IsNewest h slot = (b : Body) × (body_at h slot ≡ Some b) × (b.serial + 1 ≡ h.next)

-- the cell is taken back: it isn't held, and its serial is the next one again
abbrev pub cancelled : Table → ℕ → Table
cancelled t slot = (let u = freed_from t slot in record u { heap = record u.heap { next = t.heap.next - 1 } })

-- the serials of held cells are below the next one, and differ
pub record Serials (h : Heap) : Type 0 where
  pub below : (slot : ℕ) (b : Body) → body_at h slot ≡ Some b → b.serial < h.next
  pub differ : (slot other : ℕ) (b d : Body) → body_at h slot ≡ Some b → body_at h other ≡ Some d → b.serial ≡ d.serial → slot ≡ other

-- a held cell has that serial
abbrev pub HasSerial : Heap → (slot serial : ℕ) → Type 0
HasSerial h slot serial = (b : Body) × (body_at h slot ≡ Some b) × (b.serial ≡ serial)

-- no held cell has it
abbrev pub LacksSerial : Heap → (serial : ℕ) → Type 0
LacksSerial h serial = (slot : ℕ) (b : Body) → body_at h slot ≡ Some b → b.serial ≢ serial
