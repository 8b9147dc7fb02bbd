use Rattle.rg_tree.specs.Tree as tree
use Rattle.rg_make.proofs.Adding.{adds-there, adds-over}
use Rattle.rg_make.proofs.builder.add_stmt.Goals as goal

pub put_stmt-requires : goal.put_stmt-requires
put_stmt-requires c = adds-there c.in_ok-kind.ensures

pub returns : goal.returns
returns c = adds-over (tree.stmt 1) c.in_ok-kind.ensures c.in_ok-number.ensures
