use Rattle.std.proofs.Common.{◌≡◌, ◌++◌, codes, drop, map}
use Rattle.rg_tree.specs.Canonical.{joined, arg_texts}
use Rattle.rg_tree.specs.Rows.RowTrees.{expr_at}
use Rattle.rg_tree.specs.Rows.Tables.{numbers_in}
use Rattle.rg_print.proofs.Joined.{joined_behind}
use Rattle.rg_print.proofs.calls.write_args.Given as goal

abbrev pub invariant-loop-i : goal.invariant-loop-i
invariant-loop-i l =
    l.out ++ joined_behind l.i (arg_texts (map (expr_at l.program) (drop l.i l.arg-items)))
    ≡ l.fn.out ++ codes "(" ++ joined (arg_texts (map (expr_at l.program) (numbers_in l.program l.fn.args)))
