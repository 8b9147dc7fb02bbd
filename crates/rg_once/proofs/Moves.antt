-- Which steps move objects out of their region: those that freeze or merge.
use Rattle.std.proofs.Common.{Bool as Truth, true, false, List, [], ◌∷◌}
use Rattle.rg_tree.specs.Tree.{Right, value, new, new_tmp, new_iso, freeze, merge, read, more, result_of, stmt, StmtKind, declare, assign}
use Rattle.rg_tree.specs.Tree.{assign_element}
use Rattle.rg_rules.specs.Items.{Item, Do}

-- whether a right side freezes or merges
abbrev pub right_moves : Right → Truth
right_moves (value e) = false
right_moves (new x size) = false
right_moves (new_tmp x size) = false
right_moves (new_iso x size m) = false
right_moves (freeze y) = true
right_moves (merge y) = true
right_moves read = false
right_moves more = false
right_moves (result_of c) = false

-- whether a statement has such a right side
abbrev pub kind_moves : StmtKind → Truth
kind_moves (declare x t r) = right_moves r
kind_moves (assign p r) = right_moves r
kind_moves (assign_element q e r) = right_moves r
kind_moves _ = false

-- whether the first thing to do does
abbrev pub moves : List Item → Truth
moves (Do (stmt line k) ∷ rest) = kind_moves k
moves _ = false
