-- The cells of a region change places (docs/architecture.md, "A manager that moves its cells").
use Rattle.std.specs.Prelude.{◌≡◌, ℕ, ◌<◌, ◌≤◌, List, Some, slice_get}
use Rattle.rg_cells.specs.Table.{Heap, Table, body_at, mark_at, link_at, high_of}
use Rattle.rg_regions.specs.Reach.{LiesIn}

-- links of a region's cells lead down within it, and no two to one slot
pub record Downward (h : Heap) (r : ℕ) (t : Table) : Type 0 where
  pub down : (s d : ℕ) → LiesIn h r s → link_at t s ≡ Some d → LiesIn h r d × (d ≤ s)
  pub apart : (s x d : ℕ) → LiesIn h r s → LiesIn h r x → link_at t s ≡ Some d → link_at t x ≡ Some d → s ≡ x

-- At each slot stands what stood at another one; so many members went where their links say, and the others stand where
-- they stood.
pub record Shifted (p : Table) (r : ℕ) (members : List ℕ) (i : ℕ) (t : Table) (from : ℕ → ℕ) : Type 0 where
  pub bodies : (s : ℕ) → body_at t.heap s ≡ body_at p.heap (from s)
  pub marks : (s : ℕ) → mark_at t s ≡ mark_at p (from s)
  pub links : (s : ℕ) → link_at t s ≡ link_at p (from s)
  pub one : (s x : ℕ) → from s ≡ from x → s ≡ x
  pub inside : (s : ℕ) → LiesIn p.heap r s → LiesIn p.heap r (from s)
  pub outside : (s : ℕ) → (LiesIn p.heap r s → ⊥) → from s ≡ s
  pub done : (j s d : ℕ) → j < i → slice_get members j ≡ Some s → link_at p s ≡ Some d → from d ≡ s
  pub left : (j s : ℕ) → i ≤ j → slice_get members j ≡ Some s → from s ≡ s
  pub next : t.heap.next ≡ p.heap.next
  pub high : high_of t.heap ≡ high_of p.heap

abbrev pub Shifts : (p : Table) → (r : ℕ) → (members : List ℕ) → (i : ℕ) → (t : Table) → Type 0
Shifts p r members i t = (from : ℕ → ℕ) × Shifted p r members i t from
