use Rattle.std.proofs.Common.{◌≡◌, ◌-◌}
use Rattle.rg_spell.specs.Reading.{many_at}
use Rattle.rg_spell.proofs.Loops.{with_front}
use Rattle.rg_image.specs.Inner.Reading.{value_at}
use Rattle.rg_image.proofs.reading.take_many_values.Given as goal

abbrev pub invariant-loop : goal.invariant-loop
invariant-loop l = with_front l.values (many_at value_at (l.count - l.counter) l.rest) ≡ many_at value_at l.count l.bytes
