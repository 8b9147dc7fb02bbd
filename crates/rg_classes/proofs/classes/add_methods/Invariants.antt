use Rattle.std.proofs.Common.{◌-◌, length}
use Rattle.rg_classes.proofs.Turns.{MethodsSoFar}
use Rattle.rg_classes.proofs.classes.add_methods.Given as goal

abbrev pub invariant-loop-at : goal.invariant-loop-at
invariant-loop-at l =
    MethodsSoFar l.class l.fn.next l.methods.heads.now l.methods.bodies.now l.fn.program l.fn.members.items l.program l.members.items l.at l.k

abbrev pub decreases-loop-at : goal.decreases-loop-at
decreases-loop-at l = length l.methods.heads.now - l.at
