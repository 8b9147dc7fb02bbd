use Rattle.std.proofs.Common.{arith}
use Rattle.rg_cells.proofs.Held.{list-within, replaced-beside}
use Rattle.rg_cells.proofs.places.Places.replace_plain.Goals as goal

pub index_mut-requires : goal.index_mut-requires
index_mut-requires c =
    let s = c.self.inside in
    let l = list-within s.cells.items s.beside.items s.next c.args.slot c.args.self.now c.index.result.now c.in-Some.at c.self.view_is
    c.requires c.index.ensures c.self.invariant.1 c.in-Some.ensures in
    omega (arith, l, s.beside.ok.0)

pub invariant_of-self : goal.invariant_of-self
invariant_of-self c =
    let s = c.self.inside in
    let r = replaced-beside c.replace_plain.result s.cells.items s.beside.items s.next c.args.slot c.args.self.now c.index.result.now c.in-Some.at
    c.args.index c.args.w c.index_mut.result.now c.replace_plain.new.self c.self.view_is c.requires c.index.ensures c.self.invariant.1
    c.in-Some.ensures c.index_mut.ensures.value c.replace_plain.ensures in
    (c.self.invariant.0, r.owned)

pub returns : goal.returns
returns c =
    let s = c.self.inside in
    let r = replaced-beside c.replace_plain.result s.cells.items s.beside.items s.next c.args.slot c.args.self.now c.index.result.now c.in-Some.at
    c.args.index c.args.w c.index_mut.result.now c.replace_plain.new.self c.self.view_is c.requires c.index.ensures c.self.invariant.1
    c.in-Some.ensures c.index_mut.ensures.value c.replace_plain.ensures in
    r.shown
