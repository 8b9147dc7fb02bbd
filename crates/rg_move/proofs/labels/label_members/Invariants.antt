use Rattle.rg_move.specs.Inner.Labels.{LabelledFirst}
use Rattle.rg_move.proofs.labels.label_members.Given as goal

abbrev pub invariant-loop-slot : goal.invariant-loop-slot
invariant-loop-slot l = LabelledFirst l.label l.initial.cells l.members l.slot-index l.cells
