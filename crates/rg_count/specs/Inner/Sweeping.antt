-- What sweeping has done when it stands before so many of the members, from the last one down (docs/architecture.md,
-- "Counting").
use Rattle.std.specs.Prelude.{◌≡◌, ◌≢◌, ℕ, ◌<◌, ◌≤◌, ◌⊎◌, List, length, None, Some, slice_index, slice_index_or}
use Rattle.rg_cells.specs.Table.{Table, body_at, mark_at, link_at, high_of}
use Rattle.rg_regions.specs.Table.{RegionTable}
use Rattle.rg_regions.specs.Reach.{LiesIn}
use Rattle.rg_regions.specs.Dropped.{MembersLeft}

-- a cell has no count and no flag
abbrev pub Goes : Table → ℕ → Type 0
Goes t s = (mark_at t s ≡ 0) × (link_at t s ≢ Some s)

-- Members before the place are as they were, those from it on stay; of the region only cells without a count and a flag
-- were freed. No mark changed.
pub record Swept (c : Table) (r : ℕ) (members : List ℕ) (place : ℕ) (t : Table) : Type 0 where
  pub fits : place ≤ length members
  pub lie : (j : ℕ) → j < length members → LiesIn t.heap r (slice_index members j)
  pub once : (j k : ℕ) → j < k → k < length members → slice_index members j ≢ slice_index members k
  pub all : (s : ℕ) → LiesIn t.heap r s → (j : ℕ) × (j < length members) × (slice_index members j ≡ s)
  pub after : (j : ℕ) → place ≤ j → j < length members → Goes c (slice_index members j) → ⊥
  pub either : (s : ℕ) → LiesIn c.heap r s →
      ((body_at t.heap s ≡ body_at c.heap s) × (mark_at t s ≡ mark_at c s) × (link_at t s ≡ link_at c s))
      ⊎ ((body_at t.heap s ≡ None) × (mark_at t s ≡ 0) × Goes c s)
  pub others : (s : ℕ) → (LiesIn c.heap r s → ⊥)
      → (slice_index_or t.heap.slots s None ≡ slice_index_or c.heap.slots s None) × (mark_at t s ≡ mark_at c s)
      × (link_at t s ≡ link_at c s)
  pub next : t.heap.next ≡ c.heap.next
  pub high : high_of t.heap ≡ high_of c.heap

-- the same with the region table
abbrev pub Sweeps : Table → RegionTable → (key : ℕ) → Table → RegionTable → (place : ℕ) → Type 0
Sweeps c t key cells regions place = MembersLeft t key (λ r members. Swept c r members place cells) regions
