use Rattle.std.proofs.Common.{◌∙◌, sym, arith}
use Rattle.rg_cells.proofs.Held.{list-within, has-few, has-beside}
use Rattle.rg_cells.proofs.places.Places.field_count.Goals as goal

pub returns-in_default : goal.returns-in_default
returns-in_default c =
    let s = c.self.inside in
    let h = has-few s.cells.items s.beside.items s.next c.args.slot c.args.self.now c.index-cell.result.now c.self.view_is c.requires
    c.index-cell.ensures c.in_default.ensures in
    c.few.ensures ∙ sym h.many

pub index-requires : goal.index-requires
index-requires c =
    let s = c.self.inside in
    let l = list-within s.cells.items s.beside.items s.next c.args.slot c.args.self.now c.index-cell.result.now c.in-Some.at c.self.view_is
    c.requires c.index-cell.ensures c.self.invariant.1 c.in-Some.ensures in
    omega (arith, l, s.beside.ok.0)

pub returns : goal.returns
returns c =
    let s = c.self.inside in
    let h = has-beside s.cells.items s.beside.items s.next c.args.slot c.args.self.now c.index-cell.result.now c.in-Some.at c.self.view_is
    c.requires c.index-cell.ensures c.self.invariant.1 c.in-Some.ensures c.index.result.now c.index.ensures in
    c.len.ensures.value ∙ sym h.many
