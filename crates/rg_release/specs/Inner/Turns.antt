-- What the release of one region does, and what holds between two of them (docs/architecture.md, "Release").
use Rattle.std.specs.Prelude.{◌≡◌, ◌≢◌, ℕ, ◌⊎◌, ◌<◌, ◌≤◌, List, ◌∷◌, Option, Some, None, slice_index, is_some, count_by}
use Rattle.rg_cells.specs.Table.{Table, body_at, mark_at, high_of}
use Rattle.rg_regions.specs.Table.{Record, RegionTable, record_at, link_at, HasNumber, Has, Chained}
use Rattle.rg_regions.specs.Reach.{LiesIn}
use Rattle.rg_regions.specs.Grove.{Grove, Parent}
use Rattle.rg_regions.specs.Same.{IsSameCell}
use Rattle.rg_release.specs.Released.{Unowned, BelowOne, CellsStay, RecordsStay}

-- a slot has no cell and no mark
abbrev pub IsClear : Table → (slot : ℕ) → Type 0
IsClear t s = (body_at t.heap s ≡ None) × (mark_at t s ≡ 0)

-- the first of some cells are freed, and all others stay
pub record FreedFirst (old : Table) (members : List ℕ) (i : ℕ) (new : Table) : Type 0 where
  pub gone : (j : ℕ) → j < i → IsClear new (slice_index members j)
  pub others : (s : ℕ) → ((j : ℕ) → j < i → slice_index members j ≢ s) → IsSameCell old new s
  pub serials : new.heap.next ≡ old.heap.next
  pub high : high_of new.heap ≡ high_of old.heap

-- the cells of one region are freed, its record is gone, and all else stays but for links of regions
pub record Emptied (c : Table) (t : RegionTable) (key : ℕ) (rec : Record) (cells : Table) (regions : RegionTable) : Type 0 where
  pub gone : (s : ℕ) → LiesIn c.heap rec.number s → IsClear cells s
  pub others : (s : ℕ) → (LiesIn c.heap rec.number s → ⊥) → IsSameCell c cells s
  pub removed : record_at regions key ≡ None
  pub stay : (k : ℕ) → k ≢ key → record_at regions k ≡ record_at t k
  pub serials : cells.heap.next ≡ c.heap.next
  pub high : high_of cells.heap ≡ high_of c.heap
  pub numbers : regions.next ≡ t.next

-- one region is emptied, and the regions that it owns come to the rest of the keys
pub record Turned (c : Table) (t : RegionTable) (key : ℕ) (rec : Record) (rest : List ℕ)
    (cells : Table) (regions : RegionTable) (keys : List ℕ) : Type 0 where
  pub emptied : Emptied c t key rec cells regions
  pub old : (k : ℕ) → Has rest k → Has keys k
  pub each : (k : ℕ) → Has keys k → Has rest k ⊎ ((q : ℕ) × HasNumber t k q × Parent c.heap rec.number q)
  pub all : (k q : ℕ) → Parent c.heap rec.number q → HasNumber t k q → Has keys k
  pub apart : (k : ℕ) → k ≢ key → (Has keys k → ⊥) → link_at regions k ≡ link_at t k
  pub unkeyed : Has keys key → ⊥

-- so it is with the first of the regions that are chained from a key
abbrev pub Turns : Table → RegionTable → (key : ℕ) → Table → RegionTable → Option ℕ → Type 0
Turns c t key cells regions result =
    (rest : List ℕ) → Chained t.links (Some key) (key ∷ rest) → Unowned c.heap t (key ∷ rest) →
    (rec : Record) × (record_at t key ≡ Some rec) × (keys : List ℕ)
    × Chained regions.links result keys × Turned c t key rec rest cells regions keys

-- of the regions that go, some have gone, and those below one of the keys are left
pub record Releasing (c : Table) (t : RegionTable) (tops : List ℕ) (cells : Table) (regions : RegionTable) (keys : List ℕ) : Type 0 where
  pub grove : Grove cells regions
  pub unowned : Unowned cells.heap regions keys
  pub sub : (s : ℕ) → (body_at cells.heap s ≡ body_at c.heap s) ⊎ (body_at cells.heap s ≡ None)
  pub records_sub : (k : ℕ) → (record_at regions k ≡ record_at t k) ⊎ (record_at regions k ≡ None)
  pub back : (q : ℕ) → BelowOne cells.heap regions keys q → BelowOne c.heap t tops q
  pub gone : (q s : ℕ) → BelowOne c.heap t tops q → LiesIn c.heap q s → (body_at cells.heap s ≡ None) ⊎ BelowOne cells.heap regions keys q
  pub records : (k q : ℕ) → BelowOne c.heap t tops q → HasNumber t k q → (record_at regions k ≡ None) ⊎ BelowOne cells.heap regions keys q
  pub others : CellsStay c t cells tops
  pub stay : RecordsStay c.heap t regions tops
  pub serials : cells.heap.next ≡ c.heap.next
  pub high : high_of cells.heap ≡ high_of c.heap
  pub numbers : regions.next ≡ t.next
  pub count : count_by is_some regions.records ≤ count_by is_some t.records
