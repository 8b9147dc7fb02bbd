use Rattle.std.proofs.Common.{get_or}
use Rattle.std.proofs.lemmas.Option.{slice_get-get_or}
use Rattle.rg_heap.proofs.Readers.{none_more}
use Rattle.rg_heap.proofs.giving.with_serial.Goals as goal

pub loop-slot-preserved : goal.loop-slot-preserved
loop-slot-preserved c =
    let slots = c.args.slots.now in
    let i = c.loop-slot.slot-index in
    none_more c.args.cells.now.heap slots i c.args.serial c.serial.result (get_or slots i 0) (slice_get-get_or slots i 0 c.loop-slot-test.true)
    c.serial.ensures c.if-serial.false c.loop-slot.invariant
