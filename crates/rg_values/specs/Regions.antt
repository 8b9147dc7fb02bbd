-- The regions that were made: labels and windows name no others (docs/language.md, "Steps").
use Rattle.std.specs.Prelude.{ℕ, ◌<◌, List, All}
use Rattle.rg_base.specs.declared.object.Seen.{Seen}
use Rattle.rg_store.specs.Regions.{LabelsFit}
use Rattle.rg_values.specs.declared.state.rows.WindowRow.{WindowRow}

-- the regions of objects and windows are among those that were made
pub record RegionsFit (count : ℕ) (store : List Seen) (top : WindowRow) (others : List WindowRow) : Type 0 where
  pub labels : LabelsFit count store
  pub active : top.region < count
  pub outer : All (λ w. w.region < count) others
