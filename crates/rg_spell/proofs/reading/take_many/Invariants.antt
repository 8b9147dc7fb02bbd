use Rattle.std.proofs.Common.{◌≡◌, ◌-◌}
use Rattle.rg_spell.specs.Reading.{ty_at, many_at}
use Rattle.rg_spell.proofs.Loops.{with_front}
use Rattle.rg_spell.proofs.reading.take_many.Given as goal

abbrev pub invariant-loop : goal.invariant-loop
invariant-loop l = with_front l.types (many_at ty_at (l.count - l.counter) l.rest) ≡ many_at ty_at l.count l.bytes
