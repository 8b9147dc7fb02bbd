use Rattle.std.proofs.Common.{◌≡◌, ◌-◌}
use Rattle.rg_spell.specs.Reading.{many_at}
use Rattle.rg_spell.proofs.Loops.{with_front}
use Rattle.rg_image.specs.Inner.Reading.{cell_at}
use Rattle.rg_image.proofs.reading.take_many_cells.Given as goal

abbrev pub invariant-loop : goal.invariant-loop
invariant-loop l = record {
  read : with_front l.cargo.cells (many_at cell_at (l.count - l.counter) l.rest) ≡ many_at cell_at l.count l.bytes;
  managers : l.cargo.managers ≡ l.fn.managers.managers;
}
