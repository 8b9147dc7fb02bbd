use Rattle.rg_release.specs.Inner.Turns.{FreedFirst}
use Rattle.rg_release.proofs.freeing.free_members.Given as goal

abbrev pub invariant-loop-slot : goal.invariant-loop-slot
invariant-loop-slot l = FreedFirst l.initial.cells l.members l.slot-index l.cells
