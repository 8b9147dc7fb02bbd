use Rattle.rg_machine.proofs.End.Home.{Nearing}
use Rattle.rg_machine.proofs.machine.Machine.end_written.Given as goal

abbrev pub invariant-slots : goal.invariant-slots
invariant-slots l = Nearing l.fn.self l.self l.fn.s l.left

abbrev pub decreases-slots : goal.decreases-slots
decreases-slots l = l.left
