use Rattle.std.proofs.Common.{◌∙◌, ap, sym, arith, Some}
use Rattle.rg_cells.proofs.FieldsKept.{few-get, few-le}
use Rattle.rg_cells.proofs.cell.Cell.get.Goals as goal

pub bounds-self-k : goal.bounds-self-k
bounds-self-k c =
    let n = few-le c.args.self.now.kinds c.args.self.now.words in omega (arith, c.requires, n.0, n.1)

pub bounds-self-k-2 : goal.bounds-self-k-2
bounds-self-k-2 c =
    let n = few-le c.args.self.now.kinds c.args.self.now.words in omega (arith, c.requires, n.0, n.1)

pub returns : goal.returns
returns c = few-get c.args.self.now.kinds c.args.self.now.words c.args.k _ _ c.requires ∙ ap Some (sym c.word_in.ensures)
