use Rattle.rg_raise.specs.Telling.{given}
use Rattle.rg_bodies.proofs.Turns.{MethodsSoFar}
use Rattle.rg_bodies.proofs.bodies.raise_methods.Given as goal

abbrev pub invariant-loop-head : goal.invariant-loop-head
invariant-loop-head l =
    MethodsSoFar (given l.source) l.depth l.heads l.fn.at l.fn.program l.program l.head-index l.end l.rows.items
