-- What a collection by mark and sweep asks for, and what it leaves (docs/architecture.md, "Mark and sweep").
use Rattle.std.specs.Prelude.{◌≡◌, ℕ, None, Some}
use Rattle.rg_base.specs.declared.value.Word.TheVariants.{Slot}
use Rattle.rg_cells.specs.Table.{Table, body_at, field_at, mark_at}
use Rattle.rg_regions.specs.Table.{Record, RegionTable}
use Rattle.rg_regions.specs.Reach.{LiesIn, OutOfReach, Roots, Reach}
use Rattle.rg_regions.specs.Shrinks.{OneShrinks}

-- Of the region what is in reach is kept as it was, and all else of it is freed. All other cells and records stay, and
-- of the region's own record the members alone change.
pub record Collected (c : Table) (t : RegionTable) (key : ℕ) (rec : Record) (roots : Roots) (cells : Table)
    (regions : RegionTable) : Type 0
  where
    pub shrinks : OneShrinks c t key rec cells regions
    pub kept : (s : ℕ) → Reach c.heap rec.number roots s → body_at cells.heap s ≡ body_at c.heap s
    pub gone : (s : ℕ) → LiesIn c.heap rec.number s → OutOfReach c.heap rec.number roots s → body_at cells.heap s ≡ None
    -- so what lies in the region now is in reach, and leads within the region to what is in reach
    pub within : (s : ℕ) → LiesIn cells.heap rec.number s → Reach c.heap rec.number roots s
    pub closed : (s k to : ℕ) → Reach c.heap rec.number roots s → field_at c.heap s k ≡ Some (Slot to)
        → LiesIn c.heap rec.number to →
        Reach c.heap rec.number roots to
    -- no slot of the region has a mark
    pub unmarked : (s : ℕ) → LiesIn c.heap rec.number s → mark_at cells s ≡ 0
