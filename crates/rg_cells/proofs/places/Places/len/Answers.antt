use Rattle.std.proofs.Common.{◌≡◌, ◌∙◌, ap, sym, arith, length}
use Rattle.rg_cells.specs.Table.{Table, high_of}
use Rattle.rg_cells.proofs.Shown.{high-is}
use Rattle.rg_cells.proofs.places.Places.len.Goals as goal

pub returns : goal.returns
returns c =
    let h : high_of c.args.self.now.heap ≡ length c.self.inside.cells.items =
    ap (λ (t : Table). high_of t.heap) (sym c.self.view_is) ∙ high-is c.self.inside.cells.items c.self.inside.beside.items c.self.inside.next in
    omega (arith, h, c.len.ensures, c.self.inside.cells.ok.0)
