use Rattle.std.proofs.Common.{◌∙◌, Some, ap, sym, arith}
use Rattle.rg_cells.proofs.Numbers.{counted-label, counted-width, kept-freed}
use Rattle.rg_cells.proofs.cells.Cells.free.Goals as goal

pub overflow_sub-self : goal.overflow_sub-self
overflow_sub-self c =
    let s = c.self.inside in
    let n = counted-label s.places.heap c.args.slot s.frozen s.words c.label.result (c.cell.ensures.label ∙ ap Some (sym c.label.ensures))
    c.self.invariant.0 in
    omega (arith, n, c.one_if_frozen-was.ensures)

pub overflow_sub-self-2 : goal.overflow_sub-self-2
overflow_sub-self-2 c =
    let s = c.self.inside in
    let n = counted-width s.places.heap c.args.slot s.frozen s.words c.label.result (c.cell.ensures.label ∙ ap Some (sym c.label.ensures))
    c.self.invariant.0 in
    omega (arith, n, c.field_count.ensures, c.from-less.ensures)

pub invariant_of-self : goal.invariant_of-self
invariant_of-self c =
    let s = c.self.inside in
    rw (c.give_up.ensures, c.one_if_frozen-was.ensures, c.from-less.ensures, c.field_count.ensures) (kept-freed s.places.heap c.args.slot s.frozen
    s.words c.label.result (c.cell.ensures.label ∙ ap Some (sym c.label.ensures)) c.self.invariant)
