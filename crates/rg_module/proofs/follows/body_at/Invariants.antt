use Rattle.std.proofs.Common.{◌-◌, length}
use Rattle.rg_module.proofs.Bodies.{Along}
use Rattle.rg_module.proofs.follows.body_at.Given as goal

abbrev pub invariant-loop-at : goal.invariant-loop-at
invariant-loop-at l = Along l.code.ops l.from l.given l.at l.slots

abbrev pub decreases-loop-at : goal.decreases-loop-at
decreases-loop-at l = length l.code.ops - l.at
