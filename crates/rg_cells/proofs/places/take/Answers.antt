use Rattle.std.proofs.Common.{arith}
use Rattle.rg_cells.proofs.Lists.{got, within}
use Rattle.rg_cells.proofs.Free.{free-first, free-popped, taken-free, added-list, added-ok}
use Rattle.rg_cells.proofs.places.take.Goals as goal

pub returns-then-vacant-eq0-clause-list : goal.returns-then-vacant-eq0-clause-list
returns-then-vacant-eq0-clause-list c = added-list c.args.cells.now.items c.add.new.cells.items c.args.free.now c.args.vacant.now c.args.cell
    c.add.result c.if-vacant-eq0.true c.requires.held c.add.ensures.ok c.add.ensures.err c.requires.list

pub returns-then-vacant-eq0-clause-ok : goal.returns-then-vacant-eq0-clause-ok
returns-then-vacant-eq0-clause-ok c = added-ok c.args.cells.now.items c.add.new.cells.items c.args.vacant.now c.args.cell c.add.result
    c.if-vacant-eq0.true c.add.ensures.ok

pub index-requires : goal.index-requires
index-requires c =
    let p = free-first c.args.cells.now.items c.args.free.now c.args.vacant.now (omega (arith, c.if-vacant-eq0.false)) c.requires.list in
    omega (arith, within c.args.cells.now.items c.args.free.now p.0 p.1, c.args.cells.now.ok.0)

pub index_mut-requires : goal.index_mut-requires
index_mut-requires c =
    let p = free-first c.args.cells.now.items c.args.free.now c.args.vacant.now (omega (arith, c.if-vacant-eq0.false)) c.requires.list in
    omega (arith, within c.args.cells.now.items c.args.free.now p.0 p.1, c.args.cells.now.ok.0)

pub returns-clause-list : goal.returns-clause-list
returns-clause-list c =
    let p = free-first c.args.cells.now.items c.args.free.now c.args.vacant.now (omega (arith, c.if-vacant-eq0.false)) c.requires.list in
    let e = got c.args.cells.now.items c.args.free.now c.index.result.now (within c.args.cells.now.items c.args.free.now p.0 p.1)
    c.index.ensures in
    free-popped c.args.cells.now.items c.args.free.now c.args.vacant.now c.index.result.now c.args.cell (omega (arith, c.if-vacant-eq0.false)) e
    c.requires.held c.requires.list

pub returns-clause-ok : goal.returns-clause-ok
returns-clause-ok c =
    let p = free-first c.args.cells.now.items c.args.free.now c.args.vacant.now (omega (arith, c.if-vacant-eq0.false)) c.requires.list in
    taken-free c.args.cells.now.items c.args.free.now c.args.vacant.now p.0 c.args.cell (omega (arith, c.if-vacant-eq0.false)) p.1 c.requires.list
