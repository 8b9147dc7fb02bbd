-- What a test of collections builds: the cells of a region of mark and sweep (docs/architecture.md, "Tests").
use Rattle.std.specs.Prelude.{◌≡◌, ℕ, List, Some, slice_get}
use Rattle.rg_base.specs.declared.words.Manager.TheVariants.{Trace}
use Rattle.rg_cells.specs.Table.{Table}
use Rattle.rg_regions.specs.Table.{Record, RegionTable, record_at}
use Rattle.rg_regions.specs.Reach.{LiesIn}

-- a cell lies in the region of a key, whose manager is mark and sweep
abbrev pub InTraced : Table → RegionTable → (key slot : ℕ) → Type 0
InTraced c t key s = (r : Record) × (record_at t key ≡ Some r) × (r.manager ≡ Trace) × LiesIn c.heap r.number s

-- so do all cells of a list
abbrev pub AllTraced : Table → RegionTable → (key : ℕ) → List ℕ → Type 0
AllTraced c t key slots = (i s : ℕ) → slice_get slots i ≡ Some s → InTraced c t key s
