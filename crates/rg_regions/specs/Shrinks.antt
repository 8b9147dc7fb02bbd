-- What a collection leaves of one region (docs/architecture.md, "Regions").
use Rattle.std.specs.Prelude.{◌≡◌, ◌≢◌, ℕ, ◌⊎◌, Some, None}
use Rattle.rg_cells.specs.Table.{Table, body_at, high_of}
use Rattle.rg_regions.specs.Table.{Record, RegionTable, record_at}
use Rattle.rg_regions.specs.Reach.{LiesIn}
use Rattle.rg_regions.specs.Grove.{Members}
use Rattle.rg_regions.specs.Same.{IsSameCell}

-- Cells of one region may have gone, and nothing else has: each body is as it was or gone, and other cells and other
-- regions stay; of the region's own record the members alone change.
pub record OneShrinks (c : Table) (t : RegionTable) (key : ℕ) (rec : Record) (cells : Table)
    (regions : RegionTable) : Type 0 where
  pub fewer : (s : ℕ) → (body_at cells.heap s ≡ body_at c.heap s) ⊎ (body_at cells.heap s ≡ None)
  pub others : (s : ℕ) → (LiesIn c.heap rec.number s → ⊥) → IsSameCell c cells s
  -- the next serial, the slots ever held, and the next number stay
  pub serials : cells.heap.next ≡ c.heap.next
  pub high : high_of cells.heap ≡ high_of c.heap
  pub numbers : regions.next ≡ t.next
  pub records : (k : ℕ) → k ≢ key → record_at regions k ≡ record_at t k
  pub own : (now : Record) × (record_at regions key ≡ Some now) × (now.number ≡ rec.number)
      × (now.manager ≡ rec.manager)
      × (now.bridge ≡ rec.bridge) × Members cells.heap rec.number now.members
