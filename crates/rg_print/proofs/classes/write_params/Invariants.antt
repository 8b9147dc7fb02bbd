use Rattle.std.proofs.Common.{◌≡◌, ◌++◌, codes, drop, map}
use Rattle.rg_tree.specs.Canonical.{joined, param_texts}
use Rattle.rg_tree.specs.Rows.RowTrees.{param_at}
use Rattle.rg_tree.specs.Rows.Tables.{numbers_in}
use Rattle.rg_print.proofs.Joined.{joined_behind}
use Rattle.rg_print.proofs.classes.write_params.Given as goal

abbrev pub invariant-loop-i : goal.invariant-loop-i
invariant-loop-i l =
    l.out ++ joined_behind l.i (param_texts (map (param_at l.program) (drop l.i l.param-items)))
    ≡ l.fn.out ++ codes "(" ++ joined (param_texts (map (param_at l.program) (numbers_in l.program l.fn.params)))
