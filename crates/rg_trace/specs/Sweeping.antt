-- What sweeping has done when it stands before so many of the members, from the last one down (docs/architecture.md,
-- "Mark and sweep").
use Rattle.std.specs.Prelude.{◌≡◌, ◌≢◌, ℕ, ◌<◌, ◌≤◌, ◌⊎◌, List, length, None, Some, slice_index, slice_index_or}
use Rattle.rg_cells.specs.Table.{Table, body_at, mark_at, link_at, high_of}
use Rattle.rg_regions.specs.Table.{Record, RegionTable, record_at}
use Rattle.rg_regions.specs.Reach.{LiesIn}
use Rattle.rg_regions.specs.Dropped.{MembersLeft}

-- From the cells behind marking: members before the place are as they were, those from it on are in reach and
-- white again, and of the region only cells out of reach were freed.
pub record Swept (c : Table) (r : ℕ) (members : List ℕ) (place : ℕ) (t : Table) : Type 0 where
  pub fits : place ≤ length members
  pub lie : (j : ℕ) → j < length members → LiesIn t.heap r (slice_index members j)
  pub once : (j k : ℕ) → j < k → k < length members → slice_index members j ≢ slice_index members k
  pub all : (s : ℕ) → LiesIn t.heap r s → (j : ℕ) × (j < length members) × (slice_index members j ≡ s)
  pub before : (j : ℕ) → j < place → mark_at t (slice_index members j) ≡ slice_index c.marks (slice_index members j)
  pub after : (j : ℕ) → place ≤ j → j < length members
      → (1 < slice_index c.marks (slice_index members j)) × (mark_at t (slice_index members j) ≡ 0)
  pub black : (s : ℕ) → LiesIn c.heap r s → 1 < slice_index c.marks s → body_at t.heap s ≡ body_at c.heap s
  pub others : (s : ℕ) → (LiesIn c.heap r s → ⊥)
      → (slice_index_or t.heap.slots s None ≡ slice_index_or c.heap.slots s None)
      × (mark_at t s ≡ mark_at c s) × (link_at t s ≡ link_at c s)
  pub only : (s : ℕ) → LiesIn t.heap r s → body_at t.heap s ≡ body_at c.heap s
  pub either : (s : ℕ) → LiesIn c.heap r s
      → (body_at t.heap s ≡ body_at c.heap s) ⊎ ((body_at t.heap s ≡ None) × (mark_at t s ≡ 0))
  pub next : t.heap.next ≡ c.heap.next
  pub high : high_of t.heap ≡ high_of c.heap

-- the same with the region table
abbrev pub Sweeps : Table → RegionTable → (key : ℕ) → Table → RegionTable → (place : ℕ) → Type 0
Sweeps c t key cells regions place = MembersLeft t key (λ r members. Swept c r members place cells) regions

-- a region is marked, and no cell of it is grey
abbrev pub IsMarked : Table → RegionTable → (key : ℕ) → Type 0
IsMarked c t key = (r : Record) × (record_at t key ≡ Some r) × Swept c r.number r.members (length r.members) c
    × ((s : ℕ) → LiesIn c.heap r.number s → mark_at c s ≢ 1)
