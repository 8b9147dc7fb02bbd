use Rattle.rg_heap.proofs.Marked.{grove_recounted}
use Rattle.rg_heap.proofs.writing.write_counted.Goals as goal

pub returns-clause-grove : goal.returns-clause-grove
returns-clause-grove c = grove_recounted c.args.cells.now c.recount.new.cells c.set_field.new.self c.args.regions.now c.args.key c.args.slot
    c.args.k c.args.w
    c.requires.grove c.recount.ensures c.set_field.ensures c.requires.width c.requires.place
