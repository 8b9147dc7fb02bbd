use Rattle.std.proofs.Common.{◌-◌}
use Rattle.rg_raise.proofs.Using.{Clearing}
use Rattle.rg_raise.proofs.uses.behind_uses.Given as goal

abbrev pub invariant-loop-at : goal.invariant-loop-at
invariant-loop-at l = Clearing l.types.items l.code.ops l.stretch.from l.clears l.stretch.end l.at l.to

abbrev pub decreases-loop-at : goal.decreases-loop-at
decreases-loop-at l = l.stretch.end - l.at
