use Rattle.std.proofs.Common.{drop}
use Rattle.rg_tree.specs.Rows.RowTrees.{classes_of}
use Rattle.rg_limits.specs.Inner.Fine.{IsClassFine}
use Rattle.rg_limits.proofs.Telling.{AllGoOn}
use Rattle.rg_limits.proofs.bodies.are_classes_fine.Given as goal

abbrev pub invariant-loop-i : goal.invariant-loop-i
invariant-loop-i l = AllGoOn IsClassFine (drop l.i (classes_of l.program)) (classes_of l.program)
