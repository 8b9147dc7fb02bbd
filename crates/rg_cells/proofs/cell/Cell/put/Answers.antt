use Rattle.std.proofs.Common.{arith}
use Rattle.rg_cells.proofs.FieldsKept.{few-le}
use Rattle.rg_cells.proofs.cell.Cell.put.Goals as goal

pub bounds-self-k : goal.bounds-self-k
bounds-self-k c =
    let n = few-le c.args.self.now.kinds c.args.self.now.words in omega (arith, c.requires, n.0, n.1)

pub bounds-self-k-2 : goal.bounds-self-k-2
bounds-self-k-2 c =
    let n = few-le c.args.self.now.kinds c.args.self.now.words in omega (arith, c.requires, n.0, n.1)
