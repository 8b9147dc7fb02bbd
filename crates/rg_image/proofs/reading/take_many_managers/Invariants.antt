use Rattle.std.proofs.Common.{◌≡◌, ◌-◌, []}
use Rattle.rg_spell.specs.Reading.{many_at, manager_at}
use Rattle.rg_spell.proofs.Loops.{with_front}
use Rattle.rg_image.proofs.reading.take_many_managers.Given as goal

abbrev pub invariant-loop : goal.invariant-loop
invariant-loop l = record {
  read : with_front l.cargo.managers (many_at manager_at (l.count - l.counter) l.rest) ≡ many_at manager_at l.count l.bytes;
  cells : l.cargo.cells ≡ [];
}
