use Rattle.rg_classes.proofs.Numbering.{CalleesSoFar}
use Rattle.rg_classes.proofs.callees.number_callees.Given as goal

abbrev pub invariant-loop-head : goal.invariant-loop-head
invariant-loop-head l = CalleesSoFar l.shapes l.heads l.callees.items l.head-index l.before l.next
