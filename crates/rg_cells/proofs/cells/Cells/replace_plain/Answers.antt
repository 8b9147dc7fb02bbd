use Rattle.rg_cells.proofs.Numbers.{kept-replaced}
use Rattle.rg_cells.proofs.cells.Cells.replace_plain.Goals as goal

pub invariant_of-self : goal.invariant_of-self
invariant_of-self c =
    let s = c.self.inside in
    kept-replaced c.replace_plain.result s.places c.replace_plain.new.self c.args.slot c.args.index s.frozen s.words c.args.w
    c.replace_plain.ensures c.self.invariant
