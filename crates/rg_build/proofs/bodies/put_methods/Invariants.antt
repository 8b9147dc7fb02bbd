use Rattle.std.proofs.Common.{drop}
use Rattle.rg_tree.specs.Rows.RowTrees.{classes_of}
use Rattle.rg_build.specs.Maps.{methods_maps}
use Rattle.rg_build.specs.Inner.Laid.{LaysOf}
use Rattle.rg_build.proofs.bodies.put_methods.Given as goal

abbrev pub invariant-loop-class : goal.invariant-loop-class
invariant-loop-class l =
    let all = classes_of l.book.program in
    LaysOf l.fn.laying l.laying (methods_maps all 0 all) (methods_maps all l.class (drop l.class all))
