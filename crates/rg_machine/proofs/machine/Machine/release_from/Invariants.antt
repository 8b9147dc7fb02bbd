use Rattle.rg_machine.proofs.End.Emptied.{Ending}
use Rattle.rg_machine.proofs.machine.Machine.release_from.Given as goal

abbrev pub invariant-slots : goal.invariant-slots
invariant-slots l = Ending l.fn.self l.self l.fn.s l.left

abbrev pub decreases-slots : goal.decreases-slots
decreases-slots l = l.left
