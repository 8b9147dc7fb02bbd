use Rattle.std.proofs.Common.{◌≤◌, arith}
use Rattle.rg_cells.specs.Table.{body_at, width}
use Rattle.rg_move.proofs.FieldsCounted.{field_grown, field_room, fields_grown}
use Rattle.rg_move.proofs.counting.count_fields.Goals as goal

pub count_word-requires-clause-room : goal.count_word-requires-clause-room
count_word-requires-clause-room c =
    field_room c.args.region c.args.slot c.loop-k.k c.args.cells.now c.loop-k.cells c.field-w.result c.field-w.ensures
    c.requires.room
    c.loop-k.invariant

pub loop-k-preserved : goal.loop-k-preserved
loop-k-preserved c =
    field_grown c.args.region c.args.slot c.loop-k.k c.args.cells.now c.loop-k.cells c.count_word.new.cells
    c.field-w.result c.field-w.ensures
    c.loop-k.invariant c.count_word.ensures

pub returns : goal.returns
returns c =
    let all : width (body_at c.args.cells.now.heap c.args.slot) ≤ c.loop-k.k =
    omega (arith, c.loop-k-test.false, c.field_count-k-end.ensures) in
    fields_grown c.args.region c.args.slot c.loop-k.k c.args.cells.now c.loop-k.cells all c.loop-k.invariant
