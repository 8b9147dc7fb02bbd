-- What a merge leaves (docs/architecture.md, "Freeze and merge").
use Rattle.std.specs.Prelude.{◌≡◌, ◌≢◌, ℕ, ◌++◌, Some, None}
use Rattle.rg_base.specs.declared.object.Label.TheVariants.{Region}
use Rattle.rg_cells.specs.Table.{Heap, Table, body_at, link_at as cell_link_at}
use Rattle.rg_regions.specs.Table.{Record, RegionTable, record_at, link_at, IsKey, HasNumber}
use Rattle.rg_regions.specs.Reach.{LiesIn}
use Rattle.rg_regions.specs.Same.{IsSameCell, IsSameRegion}
use Rattle.rg_move.specs.Closed.{BelowKey}
use Rattle.rg_move.specs.Frozen.{labelled}

-- A region can take the cells of another one: it is in the table, and neither the other one nor beneath it.
pub record CanTake (h : Heap) (t : RegionTable) (from into : ℕ) : Type 0 where
  pub there : IsKey t into
  pub differ : from ≢ into
  pub above : (q : ℕ) → HasNumber t into q → BelowKey h t from q → ⊥

-- the cells of the one region get the label of the other
abbrev pub CellsMove : (old : Table) → RegionTable → (new : Table) → (from into : ℕ) → Type 0
CellsMove old t new from into = (q n s : ℕ) → HasNumber t from q → HasNumber t into n → LiesIn old.heap q s →
    (body_at new.heap s ≡ labelled (Region n) (body_at old.heap s)) × (cell_link_at new s ≡ cell_link_at old s)

-- every slot without a cell of the region stays
abbrev pub OthersStay : (old : Table) → RegionTable → (new : Table) → (from : ℕ) → Type 0
OthersStay old t new from = (s : ℕ) → ((q : ℕ) → HasNumber t from q → LiesIn old.heap q s → ⊥) → IsSameCell old new s

-- the record of the one region is gone, that of the other has the members of both, and all else stays
pub record RecordsMerge (old new : RegionTable) (from into : ℕ) : Type 0 where
  pub gone : record_at new from ≡ None
  pub members : (a b : Record) → record_at old from ≡ Some a → record_at old into ≡ Some b →
      (room : ℕ) × (record_at new into ≡ Some (record b { members = b.members ++ a.members; room = room }))
  pub link : link_at new into ≡ link_at old into
  pub others : (k : ℕ) → k ≢ from → k ≢ into → IsSameRegion old new k
