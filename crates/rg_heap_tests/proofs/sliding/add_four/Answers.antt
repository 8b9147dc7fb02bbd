use Rattle.std.proofs.Common.{ℕ, subst}
use Rattle.rg_base.proofs.Callers.Labels.{slot-same}
use Rattle.rg_heap_tests.specs.Traced.{InTraced}
use Rattle.rg_heap_tests.proofs.sliding.add_four.Goals as goal

pub add_cell-requires-4-clause-leads : goal.add_cell-requires-4-clause-leads
add_cell-requires-4-clause-leads c = λ s e.
    let P : ℕ → Type 0 = λ z. InTraced c.add_cell-3.new.cells c.add_cell-3.new.regions c.args.key z in
    subst P (slot-same c.in_ok-second.second s e) (c.in_ok-add_cell-2.ensures.others c.in_ok-second.second c.in_ok-second.ensures.cell)
