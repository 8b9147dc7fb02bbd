use Rattle.rg_copy.specs.Inner.Shifts.{Shifts}
use Rattle.rg_copy.proofs.shift.shift.Given as goal

abbrev pub invariant-loop-slot : goal.invariant-loop-slot
invariant-loop-slot l = Shifts l.initial.cells l.region l.members l.slot-index l.cells
