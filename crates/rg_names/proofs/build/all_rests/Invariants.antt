use Rattle.rg_names.proofs.ClassSteps.{ClassesUpTo}
use Rattle.rg_names.proofs.build.all_rests.Given as goal

abbrev pub invariant-loop-i : goal.invariant-loop-i
invariant-loop-i l = ClassesUpTo l.program l.i l.members.items l.elements.items l.methods
