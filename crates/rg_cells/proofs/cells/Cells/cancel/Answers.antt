use Rattle.std.proofs.Common.{◌<◌, ◌-◌, ◌∙◌, ap, sym, subst}
use Rattle.rg_cells.specs.Table.{Table}
use Rattle.rg_cells.proofs.Numbers.{newest-next, kept-cancelled}
use Rattle.rg_cells.proofs.cells.Cells.cancel.Goals as goal

pub step_back-requires : goal.step_back-requires
step_back-requires c =
    let P : Table → Type 0 = λ t. 0 < t.heap.next in
    subst P (sym (c.self.view_is ∙ c.free.ensures)) (newest-next c.args.self.now.heap c.args.slot c.requires)

pub invariant_of-self : goal.invariant_of-self
invariant_of-self c =
    let s = c.self.inside in
    rw c.step_back.ensures (kept-cancelled c.args.self.now.heap s.places.heap c.args.slot s.frozen s.words c.requires
    (ap (λ (t : Table). t.heap) (c.self.view_is ∙ c.free.ensures)) c.made.ensures.serials c.self.invariant.0)

pub returns : goal.returns
returns c =
    c.step_back.ensures
    ∙ ap (λ (t : Table). record t { heap = record t.heap { next = t.heap.next - 1 } }) (c.self.view_is ∙ c.free.ensures)
