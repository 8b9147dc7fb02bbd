-- What a merge does to cells, in the parts from which the forest follows (docs/architecture.md, "Freeze and merge").
use Rattle.std.specs.Prelude.{◌≡◌, ℕ, Some}
use Rattle.rg_base.specs.declared.object.Label.TheVariants.{Region}
use Rattle.rg_base.specs.declared.words.Manager.TheVariants.{Count}
use Rattle.rg_cells.specs.Table.{Table, body_at, mark_at, link_at as cell_link_at}
use Rattle.rg_regions.specs.Table.{Record, RegionTable, record_at}
use Rattle.rg_regions.specs.Reach.{LiesIn}
use Rattle.rg_move.specs.Frozen.{labelled}
use Rattle.rg_move.specs.Merged.{RecordsMerge}
use Rattle.rg_move.specs.Counted.{led_by}

-- the cells of the one region have the number of the other, and all bodies else stay
pub record Relabels (c : Table) (r n : ℕ) (cells : Table) : Type 0 where
  pub moved : (s : ℕ) → LiesIn c.heap r s → body_at cells.heap s ≡ labelled (Region n) (body_at c.heap s)
  pub others : (s : ℕ) → (LiesIn c.heap r s → ⊥) → body_at cells.heap s ≡ body_at c.heap s

-- the moved cells have marks for the manager of the other region, and all marks else stay
pub record Marks (c : Table) (a b : Record) (cells : Table) : Type 0 where
  pub counted : (s : ℕ) → LiesIn c.heap a.number s → b.manager ≡ Count → mark_at cells s ≡ led_by cells.heap a.members s
  pub uncounted : (s : ℕ) → LiesIn c.heap a.number s → (b.manager ≡ Count → ⊥) → mark_at cells s ≡ 0
  pub kept : (s : ℕ) → (LiesIn c.heap a.number s → ⊥) → mark_at cells s ≡ mark_at c s

-- all that a merge does
pub record Merges (c : Table) (t : RegionTable) (from into : ℕ) (cells : Table) (regions : RegionTable) : Type 0 where
  pub one : Record
  pub other : Record
  pub at : record_at t from ≡ Some one
  pub to : record_at t into ≡ Some other
  pub relabels : Relabels c one.number other.number cells
  pub marks : Marks c one other cells
  pub links : (s : ℕ) → cell_link_at cells s ≡ cell_link_at c s
  pub records : RecordsMerge t regions from into
