use Rattle.std.proofs.Common.{◌≡◌, ◌*◌, ◌++◌, replicate}
use Rattle.rg_print.proofs.lines.indent.Given as goal

abbrev pub invariant-loop : goal.invariant-loop
invariant-loop l = l.out ≡ l.fn.out ++ replicate (2 * l.counter) 32
