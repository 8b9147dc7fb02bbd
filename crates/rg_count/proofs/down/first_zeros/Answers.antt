use Rattle.std.proofs.Common.{get_or, ◌∙◌, sym}
use Rattle.std.proofs.lemmas.Option.{slice_get-get_or}
use Rattle.rg_count.proofs.ZerosListed.{listed-more}
use Rattle.rg_count.proofs.down.first_zeros.Goals as goal

pub loop-slot-preserved : goal.loop-slot-preserved
loop-slot-preserved c =
    listed-more c.args.members.now c.loop-slot.slot-index
    (get_or c.args.members.now c.loop-slot.slot-index 0) c.args.cells.now c.loop-slot.cells c.set_link.new.self
    c.loop-slot.head c.requires.once
    (slice_get-get_or c.args.members.now c.loop-slot.slot-index 0 c.loop-slot-test.true)
    (sym c.mark.ensures ∙ c.if-mark-ne0.false) c.if-is_root.ensures.no c.set_link.ensures.within c.set_link.ensures.set
    c.loop-slot.invariant
