use Rattle.rg_tree.specs.Rows.RowTrees.{classes_of}
use Rattle.rg_plan.specs.Inner.Found.{IsBehind}
use Rattle.rg_plan.proofs.classes.find_class.Given as goal

abbrev pub invariant-loop-class : goal.invariant-loop-class
invariant-loop-class l = IsBehind (classes_of l.book.program) l.name l.class
