use Rattle.std.proofs.Common.{◌≡◌, ◌-◌}
use Rattle.rg_spell.specs.Reading.{head_at, many_at}
use Rattle.rg_spell.proofs.Loops.{with_front}
use Rattle.rg_spell.proofs.reading.take_many_heads.Given as goal

abbrev pub invariant-loop : goal.invariant-loop
invariant-loop l = with_front l.heads.items (many_at head_at (l.count - l.counter) l.rest) ≡ many_at head_at l.count l.bytes
