use Rattle.std.proofs.Common.{◌≡◌, ◌-◌}
use Rattle.rg_spell.specs.Reading.{row_at, many_at}
use Rattle.rg_module.specs.Inner.Rows.{rows_of, IsBare}
use Rattle.rg_spell.proofs.Loops.{with_front}
use Rattle.rg_module.proofs.rows.take_many_rows.Given as goal

abbrev pub invariant-loop : goal.invariant-loop
invariant-loop l = record {
  read : with_front (rows_of l.code l.maps.items) (many_at row_at (l.count - l.counter) l.rest) ≡ many_at row_at l.count l.bytes;
  bare : IsBare l.code l.maps.items;
}
