-- The layout of the region table: what a slab of regions shows, and the map from numbers to keys (docs/architecture.md, "Regions").
use Rattle.std.specs.Prelude.{◌≡◌, ℕ, ◌-◌, ◌<◌, ◌≤◌, List, Option, Some, None, map, length, nat_eq}
use Rattle.std.specs.Prelude.{Result, OnOk, OnErr}
use Rattle.std.specs.Map.{lookup}
use Rattle.rg_base.specs.declared.fault.Memory.{Memory}
use Rattle.slab.specs.Slab.{Slab, get, with_value}
use Rattle.rg_regions.specs.declared.region.Region.{Region}
use Rattle.std.specs.List.Sorted.{IsPermutation, IsNonDecreasing}
use Rattle.rg_regions.specs.Table.{Record, RegionTable, HasNumber, with_room}
use Rattle.rg_regions.specs.Ordered.{with_members}

-- what a region shows
abbrev pub record_of : Region → Record
record_of r = record {
  number = r.number;
  manager = r.manager;
  members = r.members.items;
  bridge = r.bridge;
  room = r.members.capacity - length r.members.items;
}

abbrev pub shown : Option Region → Option Record
shown None = None
shown (Some r) = Some (record_of r)

abbrev pub link_of : Option Region → Option ℕ
link_of None = None
link_of (Some r) = r.link

-- the table that these slots show
abbrev pub table_of : List (Option Region) → ℕ → RegionTable
table_of slots next = record { records = map shown slots; links = map link_of slots; next = next }

-- a key has a region; with a member at that place; with room for one more
abbrev pub HasRegion : Slab Region → (key : ℕ) → Type 0
HasRegion records key = (r : Region) × (get records key ≡ Some r)

abbrev pub HasPlaceAt : Slab Region → (key place : ℕ) → Type 0
HasPlaceAt records key place = (r : Region) × (get records key ≡ Some r) × (place < length r.members.items)

abbrev pub HasRoomAt : Slab Region → (key : ℕ) → Type 0
HasRoomAt records key = (r : Region) × (get records key ≡ Some r) × (length r.members.items < r.members.capacity)

-- the region of a key is written, and nothing else
abbrev pub Writes : (old new : Slab Region) → (key : ℕ) → (Region → Region) → Type 0
Writes old new key f = (r : Region) → get old key ≡ Some r → new ≡ with_value old key (f r)

-- what the region of a key shows is changed; its link isn't, nor anything else
abbrev pub Rewrites : (old new : Slab Region) → (key : ℕ) → (Record → Record) → Type 0
Rewrites old new key f = (r : Region) → get old key ≡ Some r →
    (n : Region) × (new ≡ with_value old key n) × (n.link ≡ r.link) × (record_of n ≡ f (record_of r))

-- the region of a key has room for so many more members; where there is no memory for it, it shows what it showed
abbrev pub Widens : (old new : Slab Region) → (key more : ℕ) → Result (Unit {0}) Memory → Type 0
Widens old new key more result = (r : Region) → get old key ≡ Some r →
    (n : Region) × (new ≡ with_value old key n) × (n.link ≡ r.link) × (record_of n ≡ with_room (record_of n).room (record_of r))
    × OnOk result (more ≤ (record_of n).room) × OnErr result (record_of n ≡ record_of r)

-- the members of the region of a key are put in an order in which none is above the next
abbrev pub Sorts : (old new : Slab Region) → (key : ℕ) → Type 0
Sorts old new key = (r : Region) → get old key ≡ Some r →
    (n : Region) × (new ≡ with_value old key n) × (n.link ≡ r.link)
    × (record_of n ≡ with_members n.members.items (record_of r))
    × IsNonDecreasing n.members.items × IsPermutation r.members.items n.members.items

-- the entries have the key of each number of the table, and no others
pub record IsIndexed (entries : List (ℕ × ℕ)) (t : RegionTable) : Type 0 where
  pub found : (n key : ℕ) → lookup (nat_eq n) entries ≡ Some key → HasNumber t key n
  pub all : (n key : ℕ) → HasNumber t key n → lookup (nat_eq n) entries ≡ Some key
  pub below : (n key : ℕ) → HasNumber t key n → n < t.next
