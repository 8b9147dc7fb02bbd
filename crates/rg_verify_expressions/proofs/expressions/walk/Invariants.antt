use Rattle.std.proofs.Common.{length, ◌-◌}
use Rattle.rg_verify_expressions.proofs.Walking.{Walking}
use Rattle.rg_verify_expressions.proofs.expressions.walk.Given as goal

abbrev pub invariant-loop-at : goal.invariant-loop-at
invariant-loop-at l = Walking l.fn.program l.program l.body.in_method l.code.ops l.from l.at l.stack.items

abbrev pub decreases-loop-at : goal.decreases-loop-at
decreases-loop-at l = length l.code.ops - l.at
