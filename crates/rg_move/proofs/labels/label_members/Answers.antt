use Rattle.std.proofs.Common.{◌≡◌, ◌<◌, length, get_or, set, ap, ◌∙◌, subst}
use Rattle.rg_cells.specs.Table.{Table, with_label}
use Rattle.rg_move.proofs.CellsLabelled.{next_held, labelled_more}
use Rattle.rg_move.proofs.labels.label_members.Goals as goal

pub loop-slot-preserved : goal.loop-slot-preserved
loop-slot-preserved c =
    let i = c.loop-slot.slot-index in
    let s = get_or c.args.members.now i 0 in
    let l = c.args.label in
    let t = c.loop-slot.cells in
    let m = c.loop-slot-test.true in
    let held = next_held l c.args.cells.now t c.args.members.now i c.requires.once (c.requires.held i m)
    m c.loop-slot.invariant in
    let within : s < length t.marks =
    let P : Table → Type 0 = λ z. s < length z.marks in
    subst P c.relabel.ensures c.set_mark.ensures.within in
    let is : c.set_mark.new.self ≡ record t { heap = with_label t.heap s l; marks = set t.marks s 0 } =
    c.set_mark.ensures.set ∙ ap (λ (z : Table). record z { marks = set z.marks s 0 }) c.relabel.ensures in
    labelled_more l c.args.cells.now t c.set_mark.new.self c.args.members.now i c.requires.once m held within is
    c.loop-slot.invariant
