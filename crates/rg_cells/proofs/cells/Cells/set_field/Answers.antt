use Rattle.rg_cells.proofs.Numbers.{kept-field}
use Rattle.rg_cells.proofs.cells.Cells.set_field.Goals as goal

pub invariant_of-self : goal.invariant_of-self
invariant_of-self c =
    let s = c.self.inside in
    rw c.put_field.ensures (kept-field s.places.heap c.args.slot c.args.k s.frozen s.words c.args.w c.self.invariant)
