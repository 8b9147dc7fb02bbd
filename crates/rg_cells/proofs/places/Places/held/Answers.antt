use Rattle.std.proofs.Common.{ap, arith}
use Rattle.rg_cells.specs.Table.{Table, held_count}
use Rattle.rg_cells.proofs.Shown.{held-is}
use Rattle.rg_cells.proofs.places.Places.held.Goals as goal

pub overflow_sub-result : goal.overflow_sub-result
overflow_sub-result c =
    let h = held-is c.self.inside.cells.items c.self.inside.beside.items c.self.inside.next in
    omega (arith, h, c.self.invariant.0.all, c.len.ensures, c.self.inside.cells.ok.0)

pub returns : goal.returns
returns c =
    let h = held-is c.self.inside.cells.items c.self.inside.beside.items c.self.inside.next in
    let e = ap (λ (t : Table). held_count t.heap) c.self.view_is in
    omega (arith, h, e, c.self.invariant.0.all, c.len.ensures, c.self.inside.cells.ok.0)
