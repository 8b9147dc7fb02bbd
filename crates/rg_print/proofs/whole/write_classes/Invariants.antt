use Rattle.std.proofs.Common.{◌≡◌, ◌++◌, drop}
use Rattle.std.specs.Prelude.{flat_map}
use Rattle.rg_tree.specs.Canonical.{class_text}
use Rattle.rg_tree.specs.Rows.RowTrees.{classes_of}
use Rattle.rg_print.proofs.whole.write_classes.Given as goal

abbrev pub invariant-loop-i : goal.invariant-loop-i
invariant-loop-i l =
    l.out ++ flat_map class_text (drop l.i (classes_of l.program)) ≡ l.fn.out ++ flat_map class_text (classes_of l.program)
