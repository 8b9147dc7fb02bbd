use Rattle.rg_count.specs.Inner.Counting.{Listed}
use Rattle.rg_count.proofs.down.first_zeros.Given as goal

abbrev pub invariant-loop-slot : goal.invariant-loop-slot
invariant-loop-slot l = Listed l.members l.slot-index l.initial.cells l.cells l.head
