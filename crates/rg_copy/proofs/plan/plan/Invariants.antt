use Rattle.rg_copy.specs.Inner.Plans.{Planned}
use Rattle.rg_copy.proofs.plan.plan.Given as goal

abbrev pub invariant-loop-place : goal.invariant-loop-place
invariant-loop-place l = Planned l.initial.cells l.members l.bridge l.place l.free l.cells
