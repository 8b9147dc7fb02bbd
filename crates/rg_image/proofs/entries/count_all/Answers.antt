use Rattle.std.proofs.Common.{refl, length}
use Rattle.std.proofs.lemmas.Option.{slice_get_read}
use Rattle.rg_image.proofs.Counts.{cell-next}
use Rattle.rg_image.proofs.entries.count_all.Goals as goal

pub loop-cell-preserved : goal.loop-cell-preserved
loop-cell-preserved c = λ all rest.
    let cells = c.args.cells.now in
    let at = slice_get_read cells (length cells) c.loop-cell.cell-index c.cell-item.result refl c.loop-cell-test.true c.cell-item.is in
    c.loop-cell.invariant all (cell-next cells c.loop-cell.cell-index c.cell-item.result c.loop-cell.counts.items
    c.count_fields.new.counts.items at c.count_fields.ensures all rest)
