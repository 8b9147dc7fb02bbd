use Rattle.std.proofs.Common.{Some, refl, ap, ◌∙◌, subst, arith}
use Rattle.rg_base.specs.declared.words.Manager.TheVariants.{Count}
use Rattle.rg_cells.specs.Table.{Heap}
use Rattle.rg_regions.specs.Reach.{LiesIn}
use Rattle.rg_heap.proofs.Marked.{counts_here, mark_room, mark_is, referrers_some, recounts}
use Rattle.rg_heap.proofs.writing.recount.Goals as goal

pub raise-requires-clause-room : goal.raise-requires-clause-room
raise-requires-clause-room c = λ s l. mark_room c.args.cells.now c.args.regions.now c.in-Region.region s c.requires.grove c.fields.ensures.few
    (counts_here c.args.cells.now.heap c.args.regions.now c.args.key c.args.slot c.in-Region.region c.args.w Count c.requires.place
    (c.label.ensures ∙ ap Some c.in-Region.is) c.requires.counts refl) l

pub lower-requires-clause-marked : goal.lower-requires-clause-marked
lower-requires-clause-marked c = λ s e l.
    let old = c.args.cells.now in
    let r = c.in-Region.region in
    let H : Heap → Type 0 = λ h. LiesIn h r s in
    let n = subst H c.raise.ensures.heap l in
    let a = mark_is old c.args.regions.now r s c.requires.grove
    (counts_here c.args.cells.now.heap c.args.regions.now c.args.key c.args.slot c.in-Region.region c.args.w Count c.requires.place
    (c.label.ensures ∙ ap Some c.in-Region.is) c.requires.counts refl) n in
    let b = referrers_some old.heap r c.args.slot c.args.k s (c.label.ensures ∙ ap Some c.in-Region.is) (c.field-old.ensures ∙ ap Some e) in
    let u = c.raise.ensures.marks s in
    omega (arith, a, b, u)

pub returns : goal.returns
returns c =
    recounts c.args.cells.now c.raise.new.cells c.lower.new.cells c.args.regions.now c.in-Region.region c.args.slot c.args.k c.field-old.result
    c.args.w
    (counts_here c.args.cells.now.heap c.args.regions.now c.args.key c.args.slot c.in-Region.region c.args.w Count c.requires.place
    (c.label.ensures ∙ ap Some c.in-Region.is) c.requires.counts refl) (c.label.ensures ∙ ap Some c.in-Region.is) c.field-old.ensures
    c.raise.ensures.heap c.raise.ensures.marks c.lower.ensures.heap c.lower.ensures.marks
