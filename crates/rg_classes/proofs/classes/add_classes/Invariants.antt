use Rattle.rg_classes.proofs.Turns.{ClassesSoFar}
use Rattle.rg_classes.proofs.classes.add_classes.Given as goal

abbrev pub invariant-loop-shape : goal.invariant-loop-shape
invariant-loop-shape l =
    ClassesSoFar l.shapes l.methods.heads.now l.methods.bodies.now l.fn.program l.program l.shape-index l.class l.next
