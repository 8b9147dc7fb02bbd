-- Where the black cells of a region go: what their links say (docs/architecture.md, "A manager that moves its cells").
use Rattle.std.specs.Prelude.{◌≡◌, ◌≢◌, ℕ, ◌+◌, ◌<◌, ◌≤◌, List, Option, Some, None, slice_get}
use Rattle.rg_cells.specs.Table.{Heap, Table, mark_at, link_at}
use Rattle.rg_regions.specs.Reach.{LiesIn}

-- no member is above a later one
abbrev pub Rises : List ℕ → Type 0
Rises members = (i j s x : ℕ) → i ≤ j → slice_get members i ≡ Some s → slice_get members j ≡ Some x → s ≤ x

-- the first place from one on whose member isn't the bridge, which is this one or the next
pub record FreePlace (members : List ℕ) (bridge : Option ℕ) (at to : ℕ) : Type 0 where
  pub from : at ≤ to
  pub next : to ≤ at + 1
  pub near : (s : ℕ) → slice_get members at ≡ Some s → bridge ≢ Some s → to ≡ at
  pub past : (s : ℕ) → slice_get members at ≡ Some s → bridge ≡ Some s → to ≡ at + 1

-- the links of so many members are written, and the black ones among them that aren't the bridge go to the places
-- below a number
pub record Planned (c : Table) (members : List ℕ) (bridge : Option ℕ) (i free : ℕ) (t : Table) : Type 0 where
  pub heap : t.heap ≡ c.heap
  pub marks : t.marks ≡ c.marks
  pub behind : free ≤ i
  pub white : (j s : ℕ) → j < i → slice_get members j ≡ Some s → mark_at c s ≡ 0 → link_at t s ≡ None
  pub bridge_stays : (j s : ℕ) → j < i → slice_get members j ≡ Some s → mark_at c s ≢ 0 → bridge ≡ Some s
      → link_at t s ≡ Some s
  pub goes : (j s : ℕ) → j < i → slice_get members j ≡ Some s → mark_at c s ≢ 0 → bridge ≢ Some s
      → (m d : ℕ) × (m < free) × (m ≤ j) × (slice_get members m ≡ Some d) × (bridge ≢ Some d) × (link_at t s ≡ Some d)
  pub filled : (m d : ℕ) → m < free → slice_get members m ≡ Some d → bridge ≢ Some d
      → (j s : ℕ) × (j < i) × (slice_get members j ≡ Some s) × (mark_at c s ≢ 0) × (bridge ≢ Some s)
      × (link_at t s ≡ Some d)
  pub apart : (j k s x d : ℕ) → j < i → k < i → slice_get members j ≡ Some s → slice_get members k ≡ Some x
      → link_at t s ≡ Some d → link_at t x ≡ Some d → j ≡ k
  pub others : (s : ℕ) → ((j : ℕ) → slice_get members j ≡ Some s → ⊥) → link_at t s ≡ link_at c s

-- The links of a region's cells say where its black cells go: the bridge stays, and the others go down into the
-- lowest slots of the region, the bridge's left out.
pub record Plan (h : Heap) (r : ℕ) (bridge : Option ℕ) (t : Table) : Type 0 where
  pub white : (s : ℕ) → LiesIn h r s → mark_at t s ≡ 0 → link_at t s ≡ None
  pub goes : (s : ℕ) → LiesIn h r s → mark_at t s ≢ 0
      → (d : ℕ) × (link_at t s ≡ Some d) × LiesIn h r d × (d ≤ s)
  pub bridge_stays : (s : ℕ) → LiesIn h r s → mark_at t s ≢ 0 → bridge ≡ Some s → link_at t s ≡ Some s
  pub apart : (s x d : ℕ) → LiesIn h r s → LiesIn h r x → link_at t s ≡ Some d → link_at t x ≡ Some d → s ≡ x
  pub lowest : (s x d : ℕ) → LiesIn h r s → bridge ≢ Some s → LiesIn h r x → bridge ≢ Some x
      → link_at t x ≡ Some d → s < d → (y : ℕ) × LiesIn h r y × (link_at t y ≡ Some s)

-- from the table before the plan to the one behind it
pub record Plans (c : Table) (r : ℕ) (bridge : Option ℕ) (t : Table) : Type 0 where
  pub heap : t.heap ≡ c.heap
  pub marks : t.marks ≡ c.marks
  pub plan : Plan c.heap r bridge t
  pub others : (s : ℕ) → (LiesIn c.heap r s → ⊥) → link_at t s ≡ link_at c s
