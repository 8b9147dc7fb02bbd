use Rattle.std.proofs.Common.{◌≡◌, ◌∙◌, Some, ap, sym, arith}
use Rattle.rg_cells.specs.Table.{Table, with_label, held_count}
use Rattle.rg_cells.proofs.Numbers.{counted-label, kept-label, frozen-held}
use Rattle.rg_cells.proofs.cells.Cells.relabel.Goals as goal

pub overflow_sub-self : goal.overflow_sub-self
overflow_sub-self c =
    let s = c.self.inside in
    let n = counted-label s.places.heap c.args.slot s.frozen s.words c.label.result (c.cell.ensures.label ∙ ap Some (sym c.label.ensures))
    c.self.invariant.0 in
    omega (arith, n, c.one_if_frozen-was.ensures)

pub overflow_add-self : goal.overflow_add-self
overflow_add-self c =
    let s = c.self.inside in
    let k = kept-label s.places.heap c.args.slot s.frozen s.words c.args.label c.label.result
    (c.cell.ensures.label ∙ ap Some (sym c.label.ensures)) c.self.invariant in
    let n = frozen-held (with_label s.places.heap c.args.slot c.args.label) _ _ k.0 in
    let same : held_count c.put_label.new.self.heap ≡ held_count (with_label s.places.heap c.args.slot c.args.label) =
    ap (λ (t : Table). held_count t.heap) c.put_label.ensures in
    omega (arith, n, same, c.held.ensures, c.held.type_inv, c.one_if_frozen-was.ensures, c.one_if_frozen.ensures)

pub invariant_of-self : goal.invariant_of-self
invariant_of-self c =
    let s = c.self.inside in
    rw (c.put_label.ensures, c.one_if_frozen-was.ensures, c.one_if_frozen.ensures) (kept-label s.places.heap c.args.slot s.frozen s.words
    c.args.label c.label.result (c.cell.ensures.label ∙ ap Some (sym c.label.ensures)) c.self.invariant)
