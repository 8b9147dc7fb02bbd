-- The regions that temporaries own, put on a chain, and what goes with them (docs/architecture.md, "The heap").
use Rattle.std.specs.Prelude.{◌≡◌, ℕ, ◌⊎◌, ◌<◌, false, List, length, Option, Some, None, slice_get, slice_set}
use Rattle.std.specs.List.{list_any}
use Rattle.rg_base.specs.declared.value.Word.{Word}
use Rattle.rg_base.specs.declared.value.Word.TheVariants.{Slot}
use Rattle.rg_cells.specs.Table.{Heap, Table, body_at, field_at, mark_at, high_of}
use Rattle.rg_regions.specs.Table.{RegionTable, record_at, HasNumber, InTable, Has, Chained}
use Rattle.rg_regions.specs.Reach.{LiesIn}
use Rattle.rg_frames.specs.Stack.{Stack, has_region}
use Rattle.rg_release.specs.Released.{BelowOne, CellsGo, CellsStay, RecordsGo}
use Rattle.rg_heap.specs.Answers.{IsClosed}

-- each region in which a cell lies is in the table
abbrev pub AllInTable : Heap → RegionTable → Type 0
AllInTable h t = (q s : ℕ) → LiesIn h q s → InTable t q

-- one number, one key
abbrev pub OneKey : RegionTable → Type 0
OneKey t = (key other n : ℕ) → HasNumber t key n → HasNumber t other n → key ≡ other

-- a word leads into a closed region, which becomes the head of the chain
pub record PutFirst (h : Heap) (v : Stack) (w : Word) (head result : Option ℕ) (old new : RegionTable) : Type 0 where
  pub key : ℕ
  pub region : ℕ
  pub to : ℕ
  pub leads : w ≡ Slot to
  pub lies : LiesIn h region to
  pub number : HasNumber old key region
  pub closed : list_any (has_region key) v.windows ≡ false
  pub first : result ≡ Some key
  pub links : new ≡ record old { links = slice_set old.links key head }
  pub within : key < length old.links

-- it leads into none, and all stays
pub record PutNone (h : Heap) (v : Stack) (w : Word) (head result : Option ℕ) (old new : RegionTable) : Type 0 where
  pub none : (q to : ℕ) → w ≡ Slot to → LiesIn h q to → IsClosed old v q → ⊥
  pub head_is : result ≡ head
  pub same : new ≡ old

-- a closed region into which a field leads that stands before a place: before a field of one of some cells
pub record OwnedBefore (h : Heap) (t : RegionTable) (v : Stack) (slots : List ℕ) (i k : ℕ) (q : ℕ) : Type 0 where
  pub closed : IsClosed t v q
  pub place : ℕ
  pub slot : ℕ
  pub field : ℕ
  pub to : ℕ
  pub before : (place < i) ⊎ ((place ≡ i) × (field < k))
  pub stands : slice_get slots place ≡ Some slot
  pub leads : field_at h slot field ≡ Some (Slot to)
  pub lies : LiesIn h q to

-- exactly these regions are chained
pub record Chains (h : Heap) (t : RegionTable) (v : Stack) (slots : List ℕ) (i k : ℕ) (now : RegionTable) (head : Option ℕ)
    (keys : List ℕ) : Type 0 where
  pub records : now.records ≡ t.records
  pub next : now.next ≡ t.next
  pub chain : Chained now.links head keys
  pub each : (key : ℕ) → Has keys key → (q : ℕ) × HasNumber t key q × OwnedBefore h t v slots i k q
  pub all : (key q : ℕ) → HasNumber t key q → OwnedBefore h t v slots i k q → Has keys key

-- no two fields of these cells lead into one closed region
pub record OwnsOnce (h : Heap) (t : RegionTable) (v : Stack) (slots : List ℕ) : Type 0 where
  pub keys : OneKey t
  pub once : (i j s : ℕ) → slice_get slots i ≡ Some s → slice_get slots j ≡ Some s → i ≡ j
  pub one : (q i s k to i₂ s₂ k₂ to₂ : ℕ) → IsClosed t v q →
      slice_get slots i ≡ Some s → field_at h s k ≡ Some (Slot to) → LiesIn h q to →
      slice_get slots i₂ ≡ Some s₂ → field_at h s₂ k₂ ≡ Some (Slot to₂) → LiesIn h q to₂ → (s ≡ s₂) × (k ≡ k₂)

-- so it goes through the first fields of a cell that stands at a place
abbrev pub ChainsFields : Heap → Stack → (slot k : ℕ) → (old : RegionTable) → (head : Option ℕ) → (new : RegionTable) → (result : Option ℕ) → Type 0
ChainsFields h v slot k old head new result =
    (t : RegionTable) (slots : List ℕ) (i : ℕ) (keys : List ℕ) → OwnsOnce h t v slots → slice_get slots i ≡ Some slot →
    Chains h t v slots i 0 old head keys → (more : List ℕ) × Chains h t v slots i k new result more

-- and through the first of some cells
abbrev pub ChainsCells : Heap → Stack → (slots : List ℕ) → (i : ℕ) → (old : RegionTable) → (new : RegionTable) → (result : Option ℕ) → Type 0
ChainsCells h v slots i old new result = OwnsOnce h old v slots → (keys : List ℕ) × Chains h old v slots i 0 new result keys

-- the regions of some keys and those beneath them go, and all else stays
pub record Gone (c : Table) (t : RegionTable) (keys : List ℕ) (cells : Table) (regions : RegionTable) : Type 0 where
  pub freed : CellsGo c t cells keys
  pub removed : RecordsGo c.heap t regions keys
  pub stay : CellsStay c t cells keys
  pub records : (key : ℕ) → ((q : ℕ) → BelowOne c.heap t keys q → HasNumber t key q → ⊥) → record_at regions key ≡ record_at t key
  pub serials : cells.heap.next ≡ c.heap.next
  pub high : high_of cells.heap ≡ high_of c.heap
  pub numbers : regions.next ≡ t.next

-- the first of some cells are freed, and all others stay
pub record FirstFreed (old : Table) (slots : List ℕ) (i : ℕ) (new : Table) : Type 0 where
  pub gone : (j s : ℕ) → j < i → slice_get slots j ≡ Some s → (body_at new.heap s ≡ None) × (mark_at new s ≡ 0)
  pub others : (s : ℕ) → ((j : ℕ) → j < i → slice_get slots j ≡ Some s → ⊥) → (body_at new.heap s ≡ body_at old.heap s)
      × (mark_at new s ≡ mark_at old s)
  pub serials : new.heap.next ≡ old.heap.next
  pub high : high_of new.heap ≡ high_of old.heap
