-- What a collection by counting leaves (docs/architecture.md, "Counting").
use Rattle.std.specs.Prelude.{◌≡◌, ℕ, None}
use Rattle.rg_cells.specs.Table.{Table, body_at, mark_at}
use Rattle.rg_regions.specs.Table.{Record, RegionTable}
use Rattle.rg_regions.specs.Reach.{LiesIn, Roots}
use Rattle.rg_regions.specs.Spent.{Spent}
use Rattle.rg_regions.specs.Grove.{referrers}
use Rattle.rg_regions.specs.Shrinks.{OneShrinks}

-- Of the region exactly what is spent is freed, and all else of it is kept as it was. All other cells and records stay,
-- and of the region's own record the members alone change.
pub record Counted (c : Table) (t : RegionTable) (key : ℕ) (rec : Record) (roots : Roots) (cells : Table)
    (regions : RegionTable) : Type 0
  where
    pub shrinks : OneShrinks c t key rec cells regions
    pub kept : (s : ℕ) → LiesIn c.heap rec.number s → (Spent c.heap rec.number roots s → ⊥)
        → body_at cells.heap s ≡ body_at c.heap s
    pub gone : (s : ℕ) → Spent c.heap rec.number roots s → body_at cells.heap s ≡ None
    -- so what was freed is spent
    pub freed : (s : ℕ) → LiesIn c.heap rec.number s → body_at cells.heap s ≡ None → Spent c.heap rec.number roots s
    -- marks are counts again, and what was freed has none
    pub counts : (s : ℕ) → LiesIn cells.heap rec.number s → mark_at cells s ≡ referrers cells.heap rec.number s
    pub unmarked : (s : ℕ) → Spent c.heap rec.number roots s → mark_at cells s ≡ 0
