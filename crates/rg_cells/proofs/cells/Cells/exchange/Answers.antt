use Rattle.std.proofs.Common.{sym, subst}
use Rattle.rg_cells.specs.Table.{Table, IsHeld}
use Rattle.rg_cells.proofs.Numbers.{kept-exchanged}
use Rattle.rg_cells.proofs.cells.Cells.exchange.Goals as goal

pub invariant_of-self : goal.invariant_of-self
invariant_of-self c =
    let s = c.self.inside in
    let P : Table → Type 0 = λ t. IsHeld t.heap c.args.a in
    let Q : Table → Type 0 = λ t. IsHeld t.heap c.args.b in
    rw c.exchange.ensures.exchanged (kept-exchanged s.places c.args.a c.args.b s.frozen s.words
    (subst P (sym c.self.view_is) c.requires.first) (subst Q (sym c.self.view_is) c.requires.second) c.self.invariant)
