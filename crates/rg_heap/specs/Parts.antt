-- What callers see of the heap: its cells and its regions (docs/architecture.md, "The heap").
use Rattle.rg_cells.specs.Table.{Table}
use Rattle.rg_regions.specs.Table.{RegionTable}
use Rattle.rg_frames.specs.declared.rows.Window.{Window}
use Rattle.rg_frames.specs.Stack.{Stack, IsTop}

pub record Parts : Type 0 where
  pub cells : Table
  pub regions : RegionTable

-- what holds of the top window
abbrev pub OnTop : Stack → (Window → Type 0) → Type 0
OnTop v P = (w : Window) → IsTop v w → P w
