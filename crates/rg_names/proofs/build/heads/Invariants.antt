use Rattle.rg_names.proofs.HeadSteps.{HeadsUpTo}
use Rattle.rg_names.proofs.build.heads.Given as goal

abbrev pub invariant-loop-i : goal.invariant-loop-i
invariant-loop-i l = HeadsUpTo l.program l.i l.heads
