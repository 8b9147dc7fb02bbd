use Rattle.rg_move.proofs.FieldsCounted.{member_grown, member_room}
use Rattle.rg_move.proofs.counting.count_members.Goals as goal

pub count_fields-requires-clause-room : goal.count_fields-requires-clause-room
count_fields-requires-clause-room c =
    member_room c.args.region c.args.members.now c.loop-slot.slot-index c.args.cells.now c.loop-slot.cells
    c.loop-slot-test.true
    (c.requires.room c.in-Count.is) c.loop-slot.invariant

pub loop-slot-preserved : goal.loop-slot-preserved
loop-slot-preserved c =
    member_grown c.args.region c.args.members.now c.loop-slot.slot-index c.args.cells.now c.loop-slot.cells
    c.count_fields.new.cells
    c.loop-slot-test.true c.loop-slot.invariant c.count_fields.ensures
