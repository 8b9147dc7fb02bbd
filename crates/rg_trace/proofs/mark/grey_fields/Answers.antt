use Rattle.std.proofs.Common.{ap, sym, ◌∙◌, arith}
use Rattle.rg_cells.specs.Table.{Heap, field_at}
use Rattle.rg_trace.proofs.Marks.Turns.{turn, scanned-more}
use Rattle.rg_trace.proofs.mark.grey_fields.Goals as goal

pub loop-k-preserved : goal.loop-k-preserved
loop-k-preserved g c = (
  scanned-more c.args.cells.now.heap c.args.region (λ k. field_at c.args.cells.now.heap c.args.slot k) c.loop-k.k
      c.args.cells.now c.loop-k.cells
      c.grey-head.new.cells c.args.head c.loop-k.head c.grey-head.result c.look-w.result
      (ap (λ (h : Heap). field_at h c.args.slot c.loop-k.k) (sym c.loop-k.invariant.0.heap) ∙ c.look-w.ensures.value)
      c.loop-k.invariant.0
      (turn c.args.cells.now.heap c.args.region c.look-w.result c.loop-k.cells c.grey-head.new.cells c.loop-k.head
      c.grey-head.result
      c.loop-k.invariant.0.heap c.grey-head.ensures),
  omega (arith, c.loop-k.invariant.1, c.look-w.ensures.cost),
)
