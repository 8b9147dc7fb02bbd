use Rattle.std.proofs.Common.{slice_get}
use Rattle.std.proofs.lemmas.Option.{slice_get-get_or}
use Rattle.rg_trace.proofs.Marks.Turns.{turn, scanned-more}
use Rattle.rg_trace.proofs.mark.grey_words.Goals as goal

pub loop-w-preserved : goal.loop-w-preserved
loop-w-preserved c =
    scanned-more c.args.cells.now.heap c.args.region
    (λ k. slice_get c.args.words.now k) c.loop-w.w-index c.args.cells.now c.loop-w.cells
    c.grey-head.new.cells c.args.head c.loop-w.head c.grey-head.result _
    (slice_get-get_or c.args.words.now c.loop-w.w-index _ c.loop-w-test.true) c.loop-w.invariant
    (turn c.args.cells.now.heap c.args.region _ c.loop-w.cells c.grey-head.new.cells c.loop-w.head c.grey-head.result
    c.loop-w.invariant.heap
    c.grey-head.ensures)
