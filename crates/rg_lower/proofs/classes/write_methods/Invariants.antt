use Rattle.std.proofs.Common.{◌≡◌, drop, length}
use Rattle.rg_tree.specs.Rows.RowTrees.{classes_of}
use Rattle.rg_code.specs.Lowering.{methods_code}
use Rattle.rg_lower.specs.Inner.Methods.{with_methods}
use Rattle.rg_lower.proofs.classes.write_methods.Given as goal

abbrev pub invariant-loop-class : goal.invariant-loop-class
invariant-loop-class l =
    with_methods l.code (methods_code (classes_of l.book.program) (length l.code.ops) l.class (drop l.class (classes_of l.book.program)))
    ≡ with_methods l.fn.code (methods_code (classes_of l.book.program) (length l.fn.code.ops) 0 (classes_of l.book.program))
