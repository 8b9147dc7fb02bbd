use Rattle.rg_copy.specs.Inner.Moves.{Cleared}
use Rattle.rg_copy.proofs.forward.clear_marks.Given as goal

abbrev pub invariant-loop-temp : goal.invariant-loop-temp
invariant-loop-temp l = Cleared l.initial.cells l.temps l.temp-index l.cells
