use Rattle.std.proofs.Common.{◌+◌, ◌∙◌, List, ap, sym, subst}
use Rattle.rg_cells.specs.declared.cell.Cell.{Cell}
use Rattle.rg_cells.specs.Table.{Table, Made, Takes, high_after}
use Rattle.rg_cells.specs.Inner.Places.{table_of, Owned}
use Rattle.rg_cells.proofs.Owners.{owned-few}
use Rattle.rg_cells.proofs.Making.{takes-of, high-made, new-at, made-few}
use Rattle.rg_cells.proofs.places.Places.hold.Goals as goal

pub invariant_of-self : goal.invariant_of-self
invariant_of-self c =
    let P : List Cell → Type 0 = λ xs. Owned xs c.self.inside.beside.items in
    (c.take.ensures.list, subst P (sym c.in_err-slot.ensures.err) c.self.invariant.1)

pub invariant_of-self-2 : goal.invariant_of-self-2
invariant_of-self-2 c =
    let s = c.self.inside in (
      c.take.ensures.list,
      owned-few s.cells.items c.take.new.cells.items s.beside.items s.vacant c.in_ok-slot.slot c.new-cell.result c.in_ok-slot.ensures.ok
          (new-at c.new-cell.result c.args.class c.args.label s.next c.few.result.0 c.few.result.1 c.new-cell.ensures ∙ c.few.ensures.near)
          c.self.invariant.1,
    )

pub returns-clause-takes : goal.returns-clause-takes
returns-clause-takes c =
    let s = c.self.inside in
    let P : Table → Type 0 = λ t. Takes t.heap c.in_ok-slot.slot in
    subst P c.self.view_is (takes-of s.cells.items c.take.new.cells.items s.beside.items s.next s.free s.vacant c.in_ok-slot.slot
    c.new-cell.result c.in_ok-slot.ensures.ok c.self.invariant.0)

pub returns-clause-made : goal.returns-clause-made
returns-clause-made c =
    let s = c.self.inside in
    let new : Table = table_of c.take.new.cells.items s.beside.items (s.next + 1) in
    let M : Table → Type 0 = λ t. Made t new c.in_ok-slot.slot
    (record { class = c.args.class; label = c.args.label; serial = t.heap.next; fields = c.args.fields.now }) in
    subst M c.self.view_is (made-few s.cells.items c.take.new.cells.items s.beside.items s.next s.vacant c.in_ok-slot.slot c.new-cell.result
    c.args.class c.args.label c.few.result.0 c.few.result.1 c.args.fields.now c.in_ok-slot.ensures.ok c.new-cell.ensures c.few.ensures.fields
    c.few.ensures.near)

pub returns-clause-high : goal.returns-clause-high
returns-clause-high c =
    let s = c.self.inside in
    high-made s.cells.items c.take.new.cells.items s.beside.items s.beside.items s.next (s.next + 1) s.free s.vacant c.in_ok-slot.slot
    c.new-cell.result c.in_ok-slot.ensures.ok c.self.invariant.0
    ∙ ap (λ (t : Table). high_after t.heap) c.self.view_is
