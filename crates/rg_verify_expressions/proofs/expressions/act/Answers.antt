use Rattle.std.proofs.Common.{refl}
use Rattle.rg_verify_expressions.specs.Raised.{number, boolean, nil}
use Rattle.rg_verify_expressions.proofs.expressions.act.Goals as goal

pub put_tree-requires-clause-tree : goal.put_tree-requires-clause-tree
put_tree-requires-clause-tree c = (number _, refl, refl)

pub put_tree-requires-in-Bool-clause-tree : goal.put_tree-requires-in-Bool-clause-tree
put_tree-requires-in-Bool-clause-tree c = (boolean c.in-Bool.value, refl, refl)

pub put_tree-requires-in-Nil-clause-tree : goal.put_tree-requires-in-Nil-clause-tree
put_tree-requires-in-Nil-clause-tree c = (nil, refl, refl)
