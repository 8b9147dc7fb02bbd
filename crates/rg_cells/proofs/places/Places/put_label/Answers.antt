use Rattle.std.proofs.Common.{◌∙◌, ap}
use Rattle.rg_cells.specs.Table.{Table, with_label}
use Rattle.rg_cells.proofs.Shown.{held_read, labelled}
use Rattle.rg_cells.proofs.Free.{free-written}
use Rattle.rg_cells.proofs.Owners.{owned-written, labels-keep}
use Rattle.rg_cells.proofs.places.Places.put_label.Goals as goal

pub invariant_of-self : goal.invariant_of-self
invariant_of-self c =
    let s = c.self.inside in
    let r = c.index_mut.result.now in
    let h = held_read s.cells.items s.beside.items s.next c.args.slot c.args.self.now c.self.view_is c.requires r c.index_mut.ensures.value in
    let k = labels-keep r c.set_label.new.self c.args.label c.set_label.ensures h.1 in (
      free-written s.cells.items s.free s.vacant c.args.slot r c.set_label.new.self h.0 h.1 k.0 c.self.invariant.0,
      owned-written s.cells.items s.beside.items c.args.slot r c.set_label.new.self h.0 k.1 c.self.invariant.1,
    )

pub returns : goal.returns
returns c =
    let s = c.self.inside in
    let r = c.index_mut.result.now in
    let h = held_read s.cells.items s.beside.items s.next c.args.slot c.args.self.now c.self.view_is c.requires r c.index_mut.ensures.value in
    labelled s.cells.items s.beside.items s.next c.args.slot c.args.label r c.set_label.new.self h.0 h.1 c.set_label.ensures
    ∙ ap (λ (t : Table). record t { heap = with_label t.heap c.args.slot c.args.label }) c.self.view_is
