use Rattle.std.proofs.Common.{◌≡◌, ◌++◌, length, take, drop}
use Rattle.std.specs.List.{flat_map, AllByRecursion}
use Rattle.rg_spell.specs.Spelling.{eight}
use Rattle.rg_image.specs.ImageText.{cell_bytes}
use Rattle.rg_image.specs.Inner.Ranges.{RangedCell}
use Rattle.rg_image.proofs.writing.write_cells.Given as goal

abbrev pub invariant-loop-cell : goal.invariant-loop-cell
invariant-loop-cell l = record {
  text : l.out ≡ l.fn.out ++ (eight (length l.cells) ++ flat_map cell_bytes (take l.cell-index l.cells));
  ranges : AllByRecursion RangedCell (drop l.cell-index l.cells) → AllByRecursion RangedCell l.cells;
}
