use Rattle.std.proofs.Common.{◌∷◌, [], arith, length, ap, refl, length-append}
use Rattle.rg_cells.proofs.Lists.{within}
use Rattle.rg_cells.proofs.Dropping.{mover-read, dropped-moved, dropped-same}
use Rattle.rg_cells.proofs.Owners.{mover}
use Rattle.rg_cells.proofs.places.drop_list.Goals as goal

pub index_mut-requires : goal.index_mut-requires
index_mut-requires c =
    let m = mover c.args.cells.now.items c.args.beside.now.items c.pop.new.self.items c.in-Some.last c.args.at c.in-Some.ensures.items
    (omega (arith, c.if-at-len.true, c.len.ensures, c.pop.new.self.ok.0)) c.requires.owned in
    omega (arith, within c.args.cells.now.items c.in-Some.last.owner m.0 m.1, c.args.cells.now.ok.0)

pub set_beside-requires : goal.set_beside-requires
set_beside-requires c =
    let m = mover-read c.args.cells.now.items c.args.beside.now.items c.pop.new.self.items c.in-Some.last c.args.at c.in-Some.ensures.items
    (omega (arith, c.if-at-len.true, c.len.ensures, c.pop.new.self.ok.0)) c.requires.owned c.index_mut.result.now c.index_mut.ensures.value in
    rw m.2 refl

pub returns-then-at-len-clause-owned : goal.returns-then-at-len-clause-owned
returns-then-at-len-clause-owned c =
    (dropped-moved c.args.cells.now.items c.args.beside.now.items c.pop.new.self.items c.in-Some.last c.args.at c.in-Some.ensures.items
    (omega (arith, c.if-at-len.true, c.len.ensures, c.pop.new.self.ok.0)) c.requires.owned c.index_mut.result.now c.set_beside.new.self
    c.index_mut.ensures.value c.set_beside.ensures.words c.set_beside.ensures.index).owned

pub returns-then-at-len-clause-shown : goal.returns-then-at-len-clause-shown
returns-then-at-len-clause-shown c =
    (dropped-moved c.args.cells.now.items c.args.beside.now.items c.pop.new.self.items c.in-Some.last c.args.at c.in-Some.ensures.items
    (omega (arith, c.if-at-len.true, c.len.ensures, c.pop.new.self.ok.0)) c.requires.owned c.index_mut.result.now c.set_beside.new.self
    c.index_mut.ensures.value c.set_beside.ensures.words c.set_beside.ensures.index).shown

pub returns-then-at-len-clause-free : goal.returns-then-at-len-clause-free
returns-then-at-len-clause-free c =
    (dropped-moved c.args.cells.now.items c.args.beside.now.items c.pop.new.self.items c.in-Some.last c.args.at c.in-Some.ensures.items
    (omega (arith, c.if-at-len.true, c.len.ensures, c.pop.new.self.ok.0)) c.requires.owned c.index_mut.result.now c.set_beside.new.self
    c.index_mut.ensures.value c.set_beside.ensures.words c.set_beside.ensures.index).free

pub returns-else-at-len-clause-owned : goal.returns-else-at-len-clause-owned
returns-else-at-len-clause-owned c =
    (dropped-same c.args.cells.now.items c.args.beside.now.items c.pop.new.self.items c.in-Some.last c.args.at c.in-Some.ensures.items
    (omega (
      arith,
      c.if-at-len.false,
      c.len.ensures,
      c.pop.new.self.ok.0,
      c.requires.at,
      ap length c.in-Some.ensures.items,
      length-append c.pop.new.self.items (c.in-Some.last ∷ []),
    )) c.requires.owned).owned

pub returns-else-at-len-clause-shown : goal.returns-else-at-len-clause-shown
returns-else-at-len-clause-shown c =
    (dropped-same c.args.cells.now.items c.args.beside.now.items c.pop.new.self.items c.in-Some.last c.args.at c.in-Some.ensures.items
    (omega (
      arith,
      c.if-at-len.false,
      c.len.ensures,
      c.pop.new.self.ok.0,
      c.requires.at,
      ap length c.in-Some.ensures.items,
      length-append c.pop.new.self.items (c.in-Some.last ∷ []),
    )) c.requires.owned).shown
