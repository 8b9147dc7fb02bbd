-- What always holds of the machine, as it tells it (docs/architecture.md, "The machine").
use Rattle.std.specs.Prelude.{◌≤◌, ◌-◌, ◌^◌}
use Rattle.rg_cells.specs.Table.{Serials}
use Rattle.rg_regions.specs.Grove.{Grove}
use Rattle.rg_frames.specs.Stack.{Stack}
use Rattle.rg_heap.specs.Parts.{Parts}
use Rattle.rg_machine.specs.Stands.{Stands}

pub record IsSound (heap : Parts) (frames : Stack) : Type 0 where
  pub stands : Stands heap frames
  pub serials : Serials heap.cells.heap
  pub forest : Grove heap.cells heap.regions
  -- the numbers of windows have 64 bits
  pub windows : frames.next ≤ 2 ^ 64 - 1
