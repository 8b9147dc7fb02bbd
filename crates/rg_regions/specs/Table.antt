-- What callers see of the region table: records and links by their keys (docs/architecture.md, "Regions").
use Rattle.std.specs.Prelude.{◌≡◌, ◌≢◌, ℕ, ◌+◌, ◌-◌, ◌<◌, ◌≤◌, ◌⊎◌, List, [], ◌∷◌, ◌++◌, length, Option, Some, None}
use Rattle.std.specs.Prelude.{IsSome, option_map, slice_index_or, slice_set, swap_remove}
use Rattle.rg_base.specs.declared.words.Manager.{Manager}

-- A region: its number, its manager, its members, its bridge where it has one, and room for so many more members.
pub record Record : Type 0 where
  pub number : ℕ
  pub manager : Manager
  pub members : List ℕ
  pub bridge : Option ℕ
  pub room : ℕ

-- the regions by their keys, with a link for each key, and the number that the next region gets
pub record RegionTable : Type 0 where
  pub records : List (Option Record)
  pub links : List (Option ℕ)
  pub next : ℕ

-- the region of a key, if there is one
abbrev pub record_at : RegionTable → ℕ → Option Record
record_at t key = slice_index_or t.records key None

-- the link of a key
abbrev pub link_at : RegionTable → ℕ → Option ℕ
link_at t key = slice_index_or t.links key None

-- a key is in the table
abbrev pub IsKey : RegionTable → ℕ → Type 0
IsKey t key = IsSome (record_at t key)

-- the region of a key has a number
abbrev pub HasNumber : RegionTable → (key number : ℕ) → Type 0
HasNumber t key n = option_map (λ (r : Record). r.number) (record_at t key) ≡ Some n

-- the region of a number has a bridge
abbrev pub IsBridge : RegionTable → (number slot : ℕ) → Type 0
IsBridge t n slot = (key : ℕ) × (r : Record) × (record_at t key ≡ Some r) × (r.number ≡ n) × (r.bridge ≡ Some slot)

-- a number is in the table
abbrev pub InTable : RegionTable → ℕ → Type 0
InTable t n = (key : ℕ) × HasNumber t key n

-- the region of a key has a member at that place
abbrev pub HasPlace : RegionTable → (key place : ℕ) → Type 0
HasPlace t key place = (r : Record) × (record_at t key ≡ Some r) × (place < length r.members)

-- the region of a key has room for one member more
abbrev pub HasRoom : RegionTable → (key : ℕ) → Type 0
HasRoom t key = (r : Record) × (record_at t key ≡ Some r) × (0 < r.room)

-- the region of a key was added last
abbrev pub IsNewest : RegionTable → (key : ℕ) → Type 0
IsNewest t key = (r : Record) × (record_at t key ≡ Some r) × (r.number + 1 ≡ t.next)

-- a region gets a bridge
abbrev pub with_bridge : ℕ → Record → Record
with_bridge slot r = record r { bridge = Some slot }

-- a member comes behind the others, into the room for it
abbrev pub with_member : ℕ → Record → Record
with_member slot r = record r { members = r.members ++ slot ∷ []; room = r.room - 1 }

-- the member at a place goes, and the last one takes its place
abbrev pub without_member : ℕ → Record → Record
without_member place r = record r { members = swap_remove r.members place 0; room = r.room + 1 }

-- a region has room for so many more members
abbrev pub with_room : ℕ → Record → Record
with_room n r = record r { room = n }

-- a new region: it has the next number, neither members nor a bridge, and room for the first member
abbrev pub fresh : RegionTable → Manager → Record
fresh t m = record { number = t.next; manager = m; members = []; bridge = None; room = 1 }

-- the region of a key changes
abbrev pub changed : RegionTable → ℕ → (Record → Record) → RegionTable
changed t key f = elim (record_at t key) [ None ↦ t | Some r ↦ record t { records = slice_set t.records key (Some (f r)) } ]

-- the region of a key has room for at least so many more members
abbrev pub Roomier : (old new : RegionTable) → (key more : ℕ) → Type 0
Roomier old new key more = (room : ℕ) × (more ≤ room) × (new ≡ changed old key (with_room room))

-- the region of a key leaves the table
abbrev pub removed : RegionTable → ℕ → RegionTable
removed t key = record t { records = slice_set t.records key None; links = slice_set t.links key None }

-- the region of a key is taken back: its number is the next one again
abbrev pub cancelled : RegionTable → ℕ → RegionTable
cancelled t key = record (removed t key) { next = t.next - 1 }

-- a new region has a key that none had, and all others stay
pub record Added (old new : RegionTable) (key : ℕ) (r : Record) : Type 0 where
  pub vacant : record_at old key ≡ None
  pub is : record_at new key ≡ Some r
  pub others : (other : ℕ) → other ≢ key → record_at new other ≡ record_at old other
  pub link : link_at new key ≡ None
  pub links : (other : ℕ) → other ≢ key → link_at new other ≡ link_at old other
  pub next : new.next ≡ old.next + 1

-- a key stands in a list of keys
abbrev pub Has : List ℕ → ℕ → Type 0
Has [] s = ⊥
Has (x ∷ xs) s = (s ≡ x) ⊎ Has xs s

-- a chain of keys from a head through the links, without repeats
abbrev pub Chained : List (Option ℕ) → Option ℕ → List ℕ → Type 0
Chained links head [] = head ≡ None
Chained links head (k ∷ keys) = (head ≡ Some k) × (Has keys k → ⊥) × Chained links (slice_index_or links k None) keys
