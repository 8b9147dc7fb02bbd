use Rattle.std.proofs.Common.{◌∙◌, ap}
use Rattle.rg_cells.specs.Table.{Table, exchanged}
use Rattle.rg_cells.proofs.Exchanging.{swapped-read, listed-held}
use Rattle.rg_cells.proofs.places.Places.exchange.Goals as goal

pub returns-then-a-b-clause-within : goal.returns-then-a-b-clause-within
returns-then-a-b-clause-within c =
    let s = c.self.inside in
    listed-held s.cells.items s.beside.items s.next c.args.a c.args.b c.args.self.now c.self.view_is c.requires.first c.requires.second

pub invariant_of-self : goal.invariant_of-self
invariant_of-self c =
    let s = c.self.inside in
    let w = swapped-read s.cells.items s.beside.items c.own.new.beside.items c.own-2.new.beside.items s.next c.args.a c.args.b c.args.self.now
    c.index-first.result.now c.index-second.result.now c.self.view_is c.requires.first c.requires.second c.if-a-b.false c.index-first.ensures
    c.index-second.ensures c.own.ensures c.own-2.ensures in
    (w.free s.free s.vacant c.self.invariant.0, w.owned c.self.invariant.1)

pub returns-clause-exchanged : goal.returns-clause-exchanged
returns-clause-exchanged c =
    let s = c.self.inside in
    let w = swapped-read s.cells.items s.beside.items c.own.new.beside.items c.own-2.new.beside.items s.next c.args.a c.args.b c.args.self.now
    c.index-first.result.now c.index-second.result.now c.self.view_is c.requires.first c.requires.second c.if-a-b.false c.index-first.ensures
    c.index-second.ensures c.own.ensures c.own-2.ensures in
    w.shown s.next ∙ ap (λ (t : Table). exchanged t c.args.a c.args.b) c.self.view_is
