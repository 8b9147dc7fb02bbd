use Rattle.std.proofs.Common.{slice_get}
use Rattle.rg_count.specs.Inner.Flags.{Flagged, Among}
use Rattle.rg_count.proofs.roots.flag_words.Given as goal

abbrev pub invariant-loop-w : goal.invariant-loop-w
invariant-loop-w l = Flagged l.initial.cells.heap l.region (Among (λ k. slice_get l.words k) l.w-index) l.initial.cells
    l.cells
