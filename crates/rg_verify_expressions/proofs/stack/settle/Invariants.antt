use Rattle.std.proofs.Common.{length}
use Rattle.rg_verify_expressions.proofs.Settle.{AllLeft}
use Rattle.rg_verify_expressions.proofs.stack.settle.Given as goal

abbrev pub invariant-loop-wait : goal.invariant-loop-wait
invariant-loop-wait l = AllLeft l.fn.program l.program l.body.in_method l.end l.fn.stack.items l.stack.items l.fn.held l.top

abbrev pub decreases-loop-wait : goal.decreases-loop-wait
decreases-loop-wait l = length l.stack.items
