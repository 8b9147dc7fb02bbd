use Rattle.std.proofs.Common.{Some}
use Rattle.rg_input.specs.Numbers.{Follows}
use Rattle.rg_tests.proofs.numbers.three_reads.Given as goal

abbrev pub invariant-reads : goal.invariant-reads
invariant-reads l = Follows l.numbers (Some l.source.left)
