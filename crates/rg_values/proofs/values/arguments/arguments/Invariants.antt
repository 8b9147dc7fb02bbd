use Rattle.std.proofs.Common.{◌≡◌, map, drop}
use Rattle.rg_tree.specs.Rows.RowTrees.{classes_of, expr_at}
use Rattle.rg_rules.specs.Evaluation.{values_of}
use Rattle.rg_store.specs.Shown.{store_of}
use Rattle.rg_values.specs.Shown.{locals_of}
use Rattle.rg_values.proofs.Expressions.Argument.{values_behind}
use Rattle.rg_values.proofs.values.arguments.arguments.Given as goal

abbrev pub invariant-loop-e : goal.invariant-loop-e
invariant-loop-e l =
    values_behind l.values.items
    (values_of (classes_of l.book.program) (store_of l.store) (locals_of l.book.program l.locals) (map (expr_at l.book.program) (drop l.e-index
    l.args)))
    ≡ values_of (classes_of l.book.program) (store_of l.store) (locals_of l.book.program l.locals) (map (expr_at l.book.program) l.args)
