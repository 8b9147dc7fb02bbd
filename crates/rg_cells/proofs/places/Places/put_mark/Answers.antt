use Rattle.std.proofs.Common.{◌∙◌, ap, set, refl}
use Rattle.rg_cells.specs.Table.{Table}
use Rattle.rg_cells.proofs.Shown.{held_read, marked}
use Rattle.rg_cells.proofs.Free.{free-written}
use Rattle.rg_cells.proofs.Owners.{owned-written}
use Rattle.rg_cells.proofs.places.Places.put_mark.Goals as goal

pub invariant_of-self : goal.invariant_of-self
invariant_of-self c =
    let s = c.self.inside in
    let r = c.index_mut.result.now in
    let h = held_read s.cells.items s.beside.items s.next c.args.slot c.args.self.now c.self.view_is c.requires r c.index_mut.ensures.value in
    let d = record r { mark = c.args.m } in (
      free-written s.cells.items s.free s.vacant c.args.slot r d h.0 h.1 h.1 c.self.invariant.0,
      owned-written s.cells.items s.beside.items c.args.slot r d h.0 refl c.self.invariant.1,
    )

pub returns-clause-set : goal.returns-clause-set
returns-clause-set c =
    let s = c.self.inside in
    let r = c.index_mut.result.now in
    let h = held_read s.cells.items s.beside.items s.next c.args.slot c.args.self.now c.self.view_is c.requires r c.index_mut.ensures.value in
    marked s.cells.items s.beside.items s.next c.args.slot c.args.m r h.0
    ∙ ap (λ (t : Table). record t { marks = set t.marks c.args.slot c.args.m }) c.self.view_is
