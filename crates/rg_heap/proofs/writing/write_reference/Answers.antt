use Rattle.std.proofs.Common.{◌∙◌, Some, ap}
use Rattle.rg_base.specs.declared.value.Word.TheVariants as word
use Rattle.rg_heap.proofs.Marked.{grove_recounted, not_counting, recounts_none}
use Rattle.rg_heap.proofs.writing.write_reference.Goals as goal

pub returns-in_default-clause-grove : goal.returns-in_default-clause-grove
returns-in_default-clause-grove c =
    let old = c.args.cells.now in
    let t = c.args.regions.now in
    let w = word.Slot c.args.to in
    grove_recounted old old c.set_field.new.self t c.args.key c.args.slot c.args.k w c.requires.grove
    (recounts_none old t c.args.slot c.args.k w
    (not_counting old t c.args.key c.args.slot w c.manager.result c.requires.grove c.requires.place c.manager.ensures
    c.in_default.not-Count)) c.set_field.ensures c.requires.width c.requires.place

pub write_counted-requires-clause-counts : goal.write_counted-requires-clause-counts
write_counted-requires-clause-counts c = c.manager.ensures ∙ ap Some c.in-Count.is
