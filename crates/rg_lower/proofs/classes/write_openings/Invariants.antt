use Rattle.std.proofs.Common.{◌≡◌, drop}
use Rattle.rg_tree.specs.Rows.RowTrees.{classes_of}
use Rattle.rg_lower.specs.Inner.Methods.{with_openings}
use Rattle.rg_lower.proofs.classes.write_openings.Given as goal

abbrev pub invariant-loop-class : goal.invariant-loop-class
invariant-loop-class l = with_openings l.code (drop l.class (classes_of l.book.program)) ≡ with_openings l.fn.code (classes_of l.book.program)
