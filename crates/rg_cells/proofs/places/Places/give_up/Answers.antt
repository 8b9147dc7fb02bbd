use Rattle.std.proofs.Common.{◌+◌, ◌∙◌, arith, sym}
use Rattle.rg_cells.proofs.Dropping.{given-up, given-none, given-but}
use Rattle.rg_cells.proofs.places.Places.give_up.Goals as goal

pub overflow_add-self : goal.overflow_add-self
overflow_add-self c =
    let s = c.self.inside in
    let g = given-up s.cells.items s.beside.items s.next c.args.slot s.free s.vacant c.args.self.now c.index.result.now c.clear.new.self
    c.self.view_is c.requires c.index.ensures c.clear.ensures c.self.invariant.0 in
    omega (arith, g.fits, s.cells.ok.0)

pub invariant_of-self : goal.invariant_of-self
invariant_of-self c =
    let s = c.self.inside in
    let g = given-up s.cells.items s.beside.items s.next c.args.slot s.free s.vacant c.args.self.now c.index.result.now c.clear.new.self
    c.self.view_is c.requires c.index.ensures c.clear.ensures c.self.invariant.0 in
    let n = given-none s.cells.items s.beside.items s.next c.args.slot s.free c.args.self.now c.index.result.now c.clear.new.self
    c.self.view_is c.requires c.index.ensures c.clear.ensures (sym c.in_default.is ∙ c.beside-beside.ensures) c.self.invariant.1 in
    (g.free, n)

pub returns-in_default : goal.returns-in_default
returns-in_default c =
    let s = c.self.inside in
    (given-up s.cells.items s.beside.items s.next c.args.slot s.free s.vacant c.args.self.now c.index.result.now c.clear.new.self
    c.self.view_is c.requires c.index.ensures c.clear.ensures c.self.invariant.0).shown

pub drop_list-requires-clause-owned : goal.drop_list-requires-clause-owned
drop_list-requires-clause-owned c =
    let s = c.self.inside in
    (given-but s.cells.items s.beside.items s.next c.args.slot s.free c.in-Some.at c.args.self.now c.index.result.now c.clear.new.self
    c.self.view_is c.requires c.index.ensures c.clear.ensures (sym c.in-Some.is ∙ c.beside-beside.ensures) c.self.invariant.1).0

pub drop_list-requires-clause-at : goal.drop_list-requires-clause-at
drop_list-requires-clause-at c =
    let s = c.self.inside in
    (given-but s.cells.items s.beside.items s.next c.args.slot s.free c.in-Some.at c.args.self.now c.index.result.now c.clear.new.self
    c.self.view_is c.requires c.index.ensures c.clear.ensures (sym c.in-Some.is ∙ c.beside-beside.ensures) c.self.invariant.1).1

pub invariant_of-self-2 : goal.invariant_of-self-2
invariant_of-self-2 c =
    let s = c.self.inside in
    let g = given-up s.cells.items s.beside.items s.next c.args.slot s.free s.vacant c.args.self.now c.index.result.now c.clear.new.self
    c.self.view_is c.requires c.index.ensures c.clear.ensures c.self.invariant.0 in
    (c.drop_list.ensures.free c.args.slot (s.vacant + 1) g.free, c.drop_list.ensures.owned)

pub returns : goal.returns
returns c =
    let s = c.self.inside in
    let g = given-up s.cells.items s.beside.items s.next c.args.slot s.free s.vacant c.args.self.now c.index.result.now c.clear.new.self
    c.self.view_is c.requires c.index.ensures c.clear.ensures c.self.invariant.0 in
    c.drop_list.ensures.shown s.next ∙ g.shown
