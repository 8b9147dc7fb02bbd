use Rattle.rg_heap.proofs.Marked.{grove_recounted, recounts_nowhere}
use Rattle.rg_heap.proofs.writing.write_field.Goals as goal

pub returns-then-leads_nowhere-2-clause-grove : goal.returns-then-leads_nowhere-2-clause-grove
returns-then-leads_nowhere-2-clause-grove c =
    let old = c.args.cells.now in
    let t = c.args.regions.now in
    grove_recounted old old c.set_field.new.self t c.args.key c.args.slot c.args.k c.args.w c.requires.grove
    (recounts_nowhere old t c.args.slot c.args.k c.field.result c.args.w c.field.ensures (c.leads_nowhere-then-leads_nowhere.ensures c.if-leads_nowhere-2.true)
    (c.leads_nowhere.ensures c.if-leads_nowhere.true)) c.set_field.ensures c.requires.width c.requires.place
