use Rattle.std.proofs.Common.{refl, arith}
use Rattle.rg_cells.proofs.Making.{made-beside}
use Rattle.rg_cells.proofs.places.Places.hold_beside.Goals as goal

pub invariant_of-self-2 : goal.invariant_of-self-2
invariant_of-self-2 c =
    let s = c.self.inside in
    let m = made-beside s.cells.items c.take.new.cells.items s.beside.items c.reserve.new.self.items c.push_reserved.new.self.items s.next s.free
    s.vacant c.in_ok-slot.slot c.len.result c.args.class c.args.self.now c.new-cell.result _ c.args.label c.far.result.0 c.far.result.1
    c.args.fields.now c.self.view_is c.self.invariant.0 c.self.invariant.1 c.in_ok-slot.ensures.ok c.new-cell.ensures c.reserve.ensures.items
    (omega (arith, c.len.ensures, c.reserve.new.self.ok.0)) c.far.ensures c.push_reserved.ensures.items refl c.in_ok-fields.ensures in
    (c.take.ensures.list, m.owned)

pub returns-clause-takes : goal.returns-clause-takes
returns-clause-takes c =
    let s = c.self.inside in
    let m = made-beside s.cells.items c.take.new.cells.items s.beside.items c.reserve.new.self.items c.push_reserved.new.self.items s.next s.free
    s.vacant c.in_ok-slot.slot c.len.result c.args.class c.args.self.now c.new-cell.result _ c.args.label c.far.result.0 c.far.result.1
    c.args.fields.now c.self.view_is c.self.invariant.0 c.self.invariant.1 c.in_ok-slot.ensures.ok c.new-cell.ensures c.reserve.ensures.items
    (omega (arith, c.len.ensures, c.reserve.new.self.ok.0)) c.far.ensures c.push_reserved.ensures.items refl c.in_ok-fields.ensures in
    m.takes

pub returns-clause-made : goal.returns-clause-made
returns-clause-made c =
    let s = c.self.inside in
    let m = made-beside s.cells.items c.take.new.cells.items s.beside.items c.reserve.new.self.items c.push_reserved.new.self.items s.next s.free
    s.vacant c.in_ok-slot.slot c.len.result c.args.class c.args.self.now c.new-cell.result _ c.args.label c.far.result.0 c.far.result.1
    c.args.fields.now c.self.view_is c.self.invariant.0 c.self.invariant.1 c.in_ok-slot.ensures.ok c.new-cell.ensures c.reserve.ensures.items
    (omega (arith, c.len.ensures, c.reserve.new.self.ok.0)) c.far.ensures c.push_reserved.ensures.items refl c.in_ok-fields.ensures in
    m.made

pub returns-clause-high : goal.returns-clause-high
returns-clause-high c =
    let s = c.self.inside in
    let m = made-beside s.cells.items c.take.new.cells.items s.beside.items c.reserve.new.self.items c.push_reserved.new.self.items s.next s.free
    s.vacant c.in_ok-slot.slot c.len.result c.args.class c.args.self.now c.new-cell.result _ c.args.label c.far.result.0 c.far.result.1
    c.args.fields.now c.self.view_is c.self.invariant.0 c.self.invariant.1 c.in_ok-slot.ensures.ok c.new-cell.ensures c.reserve.ensures.items
    (omega (arith, c.len.ensures, c.reserve.new.self.ok.0)) c.far.ensures c.push_reserved.ensures.items refl c.in_ok-fields.ensures in
    m.high
