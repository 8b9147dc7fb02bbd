-- What a freeze leaves (docs/architecture.md, "Freeze and merge").
use Rattle.std.specs.Prelude.{◌≡◌, ℕ, Option, None, option_map}
use Rattle.rg_base.specs.declared.object.Label.{Label}
use Rattle.rg_base.specs.declared.object.Label.TheVariants.{Frozen}
use Rattle.rg_cells.specs.declared.cell.Body.{Body}
use Rattle.rg_cells.specs.Table.{Heap, Table, body_at, mark_at, link_at as cell_link_at}
use Rattle.rg_regions.specs.Table.{RegionTable, record_at, HasNumber}
use Rattle.rg_regions.specs.Reach.{LiesIn}
use Rattle.rg_regions.specs.Same.{IsSameCell, IsSameRegion}
use Rattle.rg_move.specs.Closed.{BelowKey}

-- a body with another label: class, serial and fields stay
abbrev pub labelled : Label → Option Body → Option Body
labelled l b = option_map (λ (b : Body). record b { label = l }) b

-- a slot has its cell with another label, and mark 0; its link stays
abbrev pub IsLabelled : Label → (old new : Table) → (slot : ℕ) → Type 0
IsLabelled l old new s =
    (body_at new.heap s ≡ labelled l (body_at old.heap s)) × (mark_at new s ≡ 0) ×
    (cell_link_at new s ≡ cell_link_at old s)

-- the cells of the region and of those beneath it are frozen
abbrev pub CellsFreeze : (old : Table) → RegionTable → (new : Table) → (key : ℕ) → Type 0
CellsFreeze old t new key = (q s : ℕ) → BelowKey old.heap t key q → LiesIn old.heap q s → IsLabelled Frozen old new s

-- every slot without a cell of such a region stays
abbrev pub CellsStay : (old : Table) → RegionTable → (new : Table) → (key : ℕ) → Type 0
CellsStay old t new key = (s : ℕ) → ((q : ℕ) → BelowKey old.heap t key q → LiesIn old.heap q s → ⊥)
    → IsSameCell old new s

-- the records of the region and of those beneath it are gone
abbrev pub RecordsGo : Heap → (old new : RegionTable) → (key : ℕ) → Type 0
RecordsGo h old new key = (k q : ℕ) → BelowKey h old key q → HasNumber old k q → record_at new k ≡ None

-- every key without such a region stays
abbrev pub RecordsStay : Heap → (old new : RegionTable) → (key : ℕ) → Type 0
RecordsStay h old new key = (k : ℕ) → ((q : ℕ) → BelowKey h old key q → HasNumber old k q → ⊥) → IsSameRegion old new k
