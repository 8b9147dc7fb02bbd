use Rattle.rg_count.specs.Inner.Sweeping.{Sweeps}
use Rattle.rg_count.proofs.sweeping.sweep.Given as goal

abbrev pub invariant-loop-place : goal.invariant-loop-place
invariant-loop-place l = Sweeps l.initial.cells l.initial.regions l.key l.cells l.regions l.place
