-- The numbers that are kept beside the table of cells (docs/architecture.md, "Cells").
use Rattle.std.specs.Prelude.{◌≡◌, ℕ, ◌-◌, ◌^◌, ◌<◌}
use Rattle.rg_cells.specs.Table.{Heap, frozen_count, field_total}

-- how many cells are frozen, how many fields all held cells have, and that these aren't too many
pub record Counts (h : Heap) (frozen words : ℕ) : Type 0 where
  pub frozen_is : frozen ≡ frozen_count h
  pub words_is : words ≡ field_total h
  pub few : words < 2 ^ 64 - 1
