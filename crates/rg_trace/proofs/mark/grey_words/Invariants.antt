use Rattle.std.proofs.Common.{slice_get}
use Rattle.rg_trace.specs.Inner.Marking.{Scanned}
use Rattle.rg_trace.proofs.mark.grey_words.Given as goal

abbrev pub invariant-loop-w : goal.invariant-loop-w
invariant-loop-w l = Scanned l.initial.cells.heap l.region (λ k. slice_get l.words k) l.w-index l.initial.cells l.cells
    l.initial.head l.head
