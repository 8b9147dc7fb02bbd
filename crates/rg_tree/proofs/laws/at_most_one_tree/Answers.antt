use Rattle.rg_tree.proofs.Unique.{one-tree}
use Rattle.rg_tree.proofs.laws.at_most_one_tree.Goals as goal

pub returns : goal.returns
returns c = one-tree
