-- What calls of the heap leave (docs/architecture.md, "The heap").
use Rattle.std.specs.Prelude.{◌≡◌, ◌≢◌, ℕ, ◌+◌, List, [], ◌∷◌, ◌++◌, Some, None, slice_get}
use Rattle.rg_base.specs.declared.object.Label.{Label}
use Rattle.rg_base.specs.declared.words.Manager.{Manager}
use Rattle.rg_base.specs.declared.value.Word.{Word}
use Rattle.rg_base.specs.declared.value.Word.TheVariants.{Slot}
use Rattle.rg_cells.specs.Table.{Table, Made, Takes, high_of, high_after}
use Rattle.rg_regions.specs.Table.{Record, RegionTable, record_at, HasNumber, with_room}
pub use Rattle.rg_cown.specs.Loads.{SameCells, SameRecords}
use Rattle.rg_frames.specs.declared.rows.Window.{Window}
use Rattle.rg_frames.specs.Stack.{Stack, IsTop}

-- words none of which is a reference
abbrev pub LeadsNowhere : List Word → Type 0
LeadsNowhere ws = (k s : ℕ) → slice_get ws k ≡ Some (Slot s) → ⊥

-- what holds of the active region: of its key and its number
abbrev pub OnActive : RegionTable → Stack → ((key number : ℕ) → Type 0) → Type 0
OnActive t v P = (w : Window) (n : ℕ) → IsTop v w → HasNumber t w.region n → P w.region n

-- a cell of this class, with this label and these fields, comes at a slot that wasn't held; it has the next serial
pub record Makes (old new : Table) (slot class : ℕ) (label : Label) (fields : List Word) : Type 0 where
  pub takes : Takes old.heap slot
  pub made : Made old new slot (record { class = class; label = label; serial = old.heap.next; fields = fields })
  pub next : new.heap.next ≡ old.heap.next + 1
  pub high : high_of new.heap ≡ high_after old.heap

-- the record of a key becomes another one, whatever its room; other records and the next number stay
pub record Rewritten (old new : RegionTable) (key : ℕ) (f : Record → Record) : Type 0 where
  pub is : (r : Record) → record_at old key ≡ Some r → (room : ℕ) × (record_at new key ≡ Some (with_room room (f r)))
  pub others : (k : ℕ) → k ≢ key → record_at new k ≡ record_at old k
  pub next : new.next ≡ old.next

-- one member more
abbrev pub with_one : ℕ → Record → Record
with_one slot r = record r { members = r.members ++ slot ∷ [] }

-- all stays but for the room
abbrev pub as_it_is : Record → Record
as_it_is r = r

-- a region comes with the next number, under a key that none had; the cell at a slot is its bridge and its one member
pub record Opens (old new : RegionTable) (key slot : ℕ) (manager : Manager) : Type 0 where
  pub vacant : record_at old key ≡ None
  pub is : (room : ℕ) × (record_at new key ≡ Some (record {
    number = old.next;
    manager = manager;
    members = slot ∷ [];
    bridge = Some slot;
    room = room;
  }))
  pub others : (k : ℕ) → k ≢ key → record_at new k ≡ record_at old k
  pub next : new.next ≡ old.next + 1

-- so it is for some key
abbrev pub OpensOne : (old new : RegionTable) → (slot : ℕ) → Manager → Type 0
OpensOne old new slot manager = (key : ℕ) × Opens old new key slot manager
