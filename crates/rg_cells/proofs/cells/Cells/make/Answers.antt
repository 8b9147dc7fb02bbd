use Rattle.std.proofs.Common.{◌+◌, refl, arith, length}
use Rattle.rg_cells.specs.Table.{one_frozen_by}
use Rattle.rg_cells.proofs.Numbers.{kept-made, frozen-held, Kept}
use Rattle.rg_cells.proofs.cells.Cells.make.Goals as goal
use Rattle.rg_cells.proofs.cells.Cells.make.Goals.{After-held}

-- behind the new cell, the numbers are right again
kept : (c : After-held) → Kept c.hold.new.self.heap (c.self.inside.frozen + one_frozen_by c.args.label)
    (c.self.inside.words + length c.args.fields.now)
kept c =
    let s = c.self.inside in
    kept-made s.places c.hold.new.self c.in_ok-slot.slot s.frozen s.words _ c.in_ok-slot.ensures.takes c.in_ok-slot.ensures.made refl
    c.in_ok-slot.ensures.next (omega (arith, c.if-more-self.false)) c.self.invariant

pub overflow_add-self-2 : goal.overflow_add-self-2
overflow_add-self-2 c =
    let k = kept (goal.at.overflow_add-self-2 c).After-held in
    let n = frozen-held c.hold.new.self.heap _ _ k.0 in
    omega (arith, n, c.held.ensures, c.held.type_inv, c.one_if_frozen.ensures)

pub invariant_of-self-2 : goal.invariant_of-self-2
invariant_of-self-2 c = rw c.one_if_frozen.ensures (kept (goal.at.invariant_of-self-2 c).After-held)

pub returns-clause-fields : goal.returns-clause-fields
returns-clause-fields c =
    let k = kept (goal.at.returns-clause-fields c).After-held in
    omega (arith, k.0.words_is, k.0.few)
