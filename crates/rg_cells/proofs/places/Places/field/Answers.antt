use Rattle.std.proofs.Common.{◌∙◌, arith}
use Rattle.rg_cells.proofs.Held.{held-wide, list-within, has-beside}
use Rattle.rg_cells.proofs.places.Places.field.Goals as goal

pub index-requires : goal.index-requires
index-requires c =
    let s = c.self.inside in
    let l = list-within s.cells.items s.beside.items s.next c.args.slot c.args.self.now c.index-cell.result.now c.in-Some.at c.self.view_is
    (held-wide c.args.self.now c.args.slot c.args.k c.requires) c.index-cell.ensures c.self.invariant.1 c.in-Some.ensures in
    omega (arith, l, s.beside.ok.0)

pub get-requires-2 : goal.get-requires-2
get-requires-2 c =
    let s = c.self.inside in
    let h = has-beside s.cells.items s.beside.items s.next c.args.slot c.args.self.now c.index-cell.result.now c.in-Some.at c.self.view_is
    (held-wide c.args.self.now c.args.slot c.args.k c.requires) c.index-cell.ensures c.self.invariant.1 c.in-Some.ensures c.index.result.now
    c.index.ensures in
    omega (arith, h.many, c.requires)

pub returns : goal.returns
returns c =
    let s = c.self.inside in
    let h = has-beside s.cells.items s.beside.items s.next c.args.slot c.args.self.now c.index-cell.result.now c.in-Some.at c.self.view_is
    (held-wide c.args.self.now c.args.slot c.args.k c.requires) c.index-cell.ensures c.self.invariant.1 c.in-Some.ensures c.index.result.now
    c.index.ensures in
    h.at c.args.k ∙ c.get-2.ensures
