use Rattle.std.proofs.Common.{◌≡◌, ◌+◌, ◌-◌, ◌≤◌, ◌++◌, map, drop, length, vec_capacity}
use Rattle.rg_tree.specs.Rows.RowTrees.{classes_of, param_at}
use Rattle.rg_rules.specs.RightSides.{bound}
use Rattle.rg_values.specs.Shown.{locals_of, AreNamed}
use Rattle.rg_values.proofs.frames.bind.Given as goal

abbrev pub invariant-loop-i : goal.invariant-loop-i
invariant-loop-i l = record {
  bound : locals_of l.book.program l.locals.items ++ bound (classes_of l.book.program) (map (param_at l.book.program) (drop l.i l.params)) (drop l.i
      l.values)
      ≡ locals_of l.book.program l.fn.locals.items ++ bound (classes_of l.book.program) (map (param_at l.book.program) l.params) l.values;
  named : AreNamed l.book.program l.locals.items;
  room : length l.locals.items + (length l.params - l.i) ≤ vec_capacity l.locals;
}
