use Rattle.rg_count.specs.Inner.Flags.{Cleared}
use Rattle.rg_count.proofs.roots.clear.Given as goal

abbrev pub invariant-loop-slot : goal.invariant-loop-slot
invariant-loop-slot l = Cleared l.members l.slot-index l.initial.cells l.cells
