use Rattle.rg_tree.specs.Rows.RowTrees.{classes_of}
use Rattle.rg_check.proofs.MethodSteps.{MethodsUpTo}
use Rattle.rg_check.proofs.classes.judge_methods.Given as goal

abbrev pub invariant-loop-class : goal.invariant-loop-class
invariant-loop-class l = MethodsUpTo (classes_of l.program) l.class
