use Rattle.std.proofs.Common.{◌≡◌, flat_map, map, take}
use Rattle.rg_tree.specs.Rows.RowTrees.{expr_at}
use Rattle.rg_rules.specs.Evaluation.{uses, cleared}
use Rattle.rg_values.specs.Shown.{locals_of, AreNamed}
use Rattle.rg_values.proofs.values.arguments.use_up_all.Given as goal

abbrev pub invariant-loop-e : goal.invariant-loop-e
invariant-loop-e l = record {
  cleared : locals_of l.book.program l.locals
      ≡ cleared (flat_map (uses (locals_of l.book.program l.fn.locals)) (map (expr_at l.book.program) (take l.e-index l.args)))
      (locals_of l.book.program l.fn.locals);
  named : AreNamed l.book.program l.locals;
}
