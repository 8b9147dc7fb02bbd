use Rattle.std.proofs.Common.{◌∙◌, ap, set}
use Rattle.rg_cells.specs.Table.{Table}
use Rattle.rg_cells.proofs.Shown.{held_read, linked}
use Rattle.rg_cells.proofs.Free.{free-written}
use Rattle.rg_cells.proofs.Owners.{owned-written, links-keep}
use Rattle.rg_cells.proofs.places.Places.put_link.Goals as goal

pub invariant_of-self : goal.invariant_of-self
invariant_of-self c =
    let s = c.self.inside in
    let r = c.index_mut.result.now in
    let h = held_read s.cells.items s.beside.items s.next c.args.slot c.args.self.now c.self.view_is c.requires r c.index_mut.ensures.value in
    let k = links-keep r c.set_link.new.self c.args.next c.set_link.ensures h.1 in (
      free-written s.cells.items s.free s.vacant c.args.slot r c.set_link.new.self h.0 h.1 k.0 c.self.invariant.0,
      owned-written s.cells.items s.beside.items c.args.slot r c.set_link.new.self h.0 k.1 c.self.invariant.1,
    )

pub returns-clause-set : goal.returns-clause-set
returns-clause-set c =
    let s = c.self.inside in
    let r = c.index_mut.result.now in
    let h = held_read s.cells.items s.beside.items s.next c.args.slot c.args.self.now c.self.view_is c.requires r c.index_mut.ensures.value in
    linked s.cells.items s.beside.items s.next c.args.slot c.args.next r c.set_link.new.self h.0 c.set_link.ensures
    ∙ ap (λ (t : Table). record t { links = set t.links c.args.slot c.args.next }) c.self.view_is
