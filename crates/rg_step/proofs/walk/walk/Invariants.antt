use Rattle.std.proofs.Common.{◌-◌, length}
use Rattle.rg_step.proofs.Walking.Walks.{Walking}
use Rattle.rg_step.proofs.walk.walk.Given as goal

abbrev pub invariant-loop-at : goal.invariant-loop-at
invariant-loop-at l = Walking l.code l.from l.fn.p l.at l.p

abbrev pub decreases-loop-at : goal.decreases-loop-at
decreases-loop-at l = length l.code.ops - l.at
