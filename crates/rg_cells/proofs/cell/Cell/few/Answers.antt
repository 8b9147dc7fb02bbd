use Rattle.std.proofs.Common.{◌∙◌, sym, arith}
use Rattle.rg_cells.proofs.FieldsKept.{few-count}
use Rattle.rg_cells.proofs.cell.Cell.few.Goals as goal

pub returns : goal.returns
returns c = c.many_of.ensures ∙ sym (few-count c.args.self.now.kinds c.args.self.now.words _ _ _ (omega (arith))
    (omega arith))
