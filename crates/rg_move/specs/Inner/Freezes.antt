-- What the freeze of one region does, and what holds between two of them (docs/architecture.md, "Freeze and merge").
use Rattle.std.specs.Prelude.{◌≡◌, ℕ, ◌⊎◌, List, ◌∷◌, Option, Some, None}
use Rattle.rg_base.specs.declared.object.Label.TheVariants.{Frozen}
use Rattle.rg_cells.specs.Table.{Heap, Table, high_of}
use Rattle.rg_regions.specs.Table.{Record, RegionTable, record_at, link_at, HasNumber, Has, Chained}
use Rattle.rg_regions.specs.Reach.{LiesIn}
use Rattle.rg_regions.specs.Grove.{Members, Parent}
use Rattle.rg_regions.specs.Chains.{AllInTable, LeadsToHeld, OwnsOnce}
use Rattle.rg_regions.specs.Owned.{OwnsNone, HandsOver}
use Rattle.rg_regions.specs.Same.{IsSameCell}
use Rattle.rg_move.specs.Closed.{BelowKey}
use Rattle.rg_move.specs.Frozen.{IsLabelled}

-- what the first of some chained regions needs to be frozen: the parts of the forest that the owner search asks for
pub record IsReady (h : Heap) (t : RegionTable) (key : ℕ) (rec : Record) (rest : List ℕ) : Type 0 where
  pub at : record_at t key ≡ Some rec
  pub chain : Chained t.links (Some key) (key ∷ rest)
  pub members : Members h rec.number rec.members
  pub owns : OwnsOnce h rec.number rec.members
  pub lead : LeadsToHeld h rec.number
  pub labels : AllInTable h t
  pub free : OwnsNone h rec.number t rest

-- the cells of one region are frozen, and all others stay
pub record Hardens (c : Table) (r : ℕ) (cells : Table) : Type 0 where
  pub froze : (s : ℕ) → LiesIn c.heap r s → IsLabelled Frozen c cells s
  pub others : (s : ℕ) → (LiesIn c.heap r s → ⊥) → IsSameCell c cells s
  pub serials : cells.heap.next ≡ c.heap.next
  pub high : high_of cells.heap ≡ high_of c.heap

-- one region is frozen, and the regions that it owns come to the rest of the keys
abbrev pub Turns : Table → RegionTable → (key : ℕ) → Table → RegionTable → Option ℕ → Type 0
Turns c t key cells regions result =
    (rec : Record) (rest : List ℕ) → IsReady c.heap t key rec rest →
    Hardens c rec.number cells × (keys : List ℕ) × HandsOver c.heap t key rec.number rest regions result keys

-- a region was in the table, and isn't any more
abbrev pub IsGone : (old new : RegionTable) → ℕ → Type 0
IsGone old new q = (k : ℕ) × HasNumber old k q × (record_at new k ≡ None)

-- a region has gone, or its key is one of those that are left
abbrev pub Goes : (old new : RegionTable) → (keys : List ℕ) → ℕ → Type 0
Goes old new keys q = IsGone old new q ⊎ ((k : ℕ) × HasNumber old k q × Has keys k)

-- exactly the cells of the regions that have gone are frozen, and all else stays
pub record Hardened (c : Table) (t : RegionTable) (cells : Table) (regions : RegionTable) : Type 0 where
  pub records : (k : ℕ) → (record_at regions k ≡ record_at t k) ⊎ (record_at regions k ≡ None)
  pub froze : (q s : ℕ) → IsGone t regions q → LiesIn c.heap q s → IsLabelled Frozen c cells s
  pub others : (s : ℕ) → ((q : ℕ) → IsGone t regions q → LiesIn c.heap q s → ⊥) → IsSameCell c cells s
  pub serials : cells.heap.next ≡ c.heap.next
  pub high : high_of cells.heap ≡ high_of c.heap
  pub numbers : regions.next ≡ t.next

-- a key that is left is the first one, or its region is the child of one that has gone
abbrev pub IsLeft : Heap → (t regions : RegionTable) → (key k : ℕ) → Type 0
IsLeft h t regions key k =
    (q : ℕ) × HasNumber regions k q × ((k ≡ key) ⊎ ((p : ℕ) × Parent h p q × IsGone t regions p))

-- of the regions that go, some have gone, and those below one of the keys are left
pub record Freezing (c : Table) (t : RegionTable) (key : ℕ) (cells : Table) (regions : RegionTable) (keys : List ℕ)
    : Type 0 where
  pub hardened : Hardened c t cells regions
  pub below : (q : ℕ) → IsGone t regions q → BelowKey c.heap t key q
  pub left : (k : ℕ) → Has keys k → IsLeft c.heap t regions key k
  pub first : (q : ℕ) → HasNumber t key q → Goes t regions keys q
  pub children : (p q : ℕ) → Parent c.heap p q → IsGone t regions p → Goes t regions keys q
  pub links : (k : ℕ) → ((q : ℕ) → BelowKey c.heap t key q → HasNumber t k q → ⊥) → link_at regions k ≡ link_at t k
