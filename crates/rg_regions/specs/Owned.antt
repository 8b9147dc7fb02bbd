-- The regions that cells own which go, put in front of a chain (docs/architecture.md, "Regions").
use Rattle.std.specs.Prelude.{◌≡◌, ◌≢◌, ℕ, ◌⊎◌, ◌<◌, ⊤, List, length, Option, Some, None, slice_index}
use Rattle.rg_base.specs.declared.value.Word.TheVariants.{Slot}
use Rattle.rg_cells.specs.Table.{Heap, field_at}
use Rattle.rg_regions.specs.Table.{RegionTable, record_at, link_at, HasNumber, Has, Chained}
use Rattle.rg_regions.specs.Reach.{LiesIn}
use Rattle.rg_regions.specs.Grove.{Parent}
use Rattle.rg_regions.specs.Chains.{OwnsOnce}

-- every cell goes
abbrev pub Every : ℕ → Type 0
Every s = ⊤

-- A field of a member that goes leads into another region: a field of one of the first members, or one of the first
-- fields of the next.
pub record Owned (h : Heap) (goes : ℕ → Type 0) (r : ℕ) (members : List ℕ) (i k q : ℕ) : Type 0 where
  pub place : ℕ
  pub field : ℕ
  pub to : ℕ
  pub early : (place < i) ⊎ ((place ≡ i) × (field < k))
  pub within : place < length members
  pub gone : goes (slice_index members place)
  pub leads : field_at h (slice_index members place) field ≡ Some (Slot to)
  pub lies : LiesIn h q to
  pub other : q ≢ r

-- exactly these regions are chained, in front of the rest; links of other keys stay
pub record OwnedInFront (h : Heap) (goes : ℕ → Type 0) (r : ℕ) (members rest : List ℕ) (t : RegionTable) (i k : ℕ)
    (now : RegionTable) (head : Option ℕ) (keys : List ℕ) : Type 0 where
  pub records : now.records ≡ t.records
  pub next : now.next ≡ t.next
  pub chain : Chained now.links head keys
  pub old : (key : ℕ) → Has rest key → Has keys key
  pub each : (key : ℕ) → Has keys key → Has rest key ⊎ ((q : ℕ) × HasNumber t key q × Owned h goes r members i k q)
  pub all : (q key : ℕ) → Owned h goes r members i k q → HasNumber t key q → Has keys key
  pub apart : (key : ℕ) → (Has keys key → ⊥) → link_at now key ≡ link_at t key

abbrev pub ChainsOwned : Heap → (goes : ℕ → Type 0) → ℕ → (members rest : List ℕ) → RegionTable → (i k : ℕ)
    → RegionTable → Option ℕ → Type 0
ChainsOwned h goes r members rest t i k now head = (keys : List ℕ)
    × OwnedInFront h goes r members rest t i k now head keys

-- no field of the region leads into one of the rest
abbrev pub OwnsNone : Heap → ℕ → RegionTable → List ℕ → Type 0
OwnsNone h r t rest = (key q s k to : ℕ) → Has rest key → HasNumber t key q →
    q ≢ r → LiesIn h r s → field_at h s k ≡ Some (Slot to) → LiesIn h q to → ⊥

-- so many fields of one member that goes were followed
pub record FollowsFields (h : Heap) (goes : ℕ → Type 0) (r slot k : ℕ) (old new : RegionTable)
    (head result : Option ℕ) : Type 0 where
  pub records : new.records ≡ old.records
  pub chained : (members rest : List ℕ) (t : RegionTable) (i : ℕ) →
      OwnsOnce h r members → OwnsNone h r t rest → i < length members → slice_index members i ≡ slot → goes slot →
      ChainsOwned h goes r members rest t i 0 old head → ChainsOwned h goes r members rest t i k new result

-- all fields of so many members were followed
pub record FollowsMembers (h : Heap) (r : ℕ) (members : List ℕ) (i : ℕ) (old new : RegionTable)
    (head result : Option ℕ) : Type 0 where
  pub records : new.records ≡ old.records
  pub next : (rest : List ℕ) → OwnsNone h r old rest → Chained old.links head rest
      → ChainsOwned h Every r members rest old i 0 new result

-- a region leaves the table and the head of a chain, and the regions that it owns come to the rest of the keys
pub record HandsOver (h : Heap) (t : RegionTable) (key r : ℕ) (rest : List ℕ) (new : RegionTable) (head : Option ℕ)
    (keys : List ℕ) : Type 0 where
  pub gone : record_at new key ≡ None
  pub stay : (k : ℕ) → k ≢ key → record_at new k ≡ record_at t k
  pub numbers : new.next ≡ t.next
  pub chain : Chained new.links head keys
  pub old : (k : ℕ) → Has rest k → Has keys k
  pub each : (k : ℕ) → Has keys k → Has rest k ⊎ ((q : ℕ) × HasNumber t k q × Parent h r q)
  pub all : (k q : ℕ) → Parent h r q → HasNumber t k q → Has keys k
  pub apart : (k : ℕ) → k ≢ key → (Has keys k → ⊥) → link_at new k ≡ link_at t k
  pub unkeyed : Has keys key → ⊥
