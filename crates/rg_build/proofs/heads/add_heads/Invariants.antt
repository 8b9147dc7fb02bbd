use Rattle.std.proofs.Common.{◌≡◌, ◌++◌, drop}
use Rattle.rg_tree.specs.Rows.RowTrees.{classes_of}
use Rattle.rg_build.specs.ModuleOf.{class_heads, heads_of}
use Rattle.rg_build.proofs.heads.add_heads.Given as goal

abbrev pub invariant-loop-class : goal.invariant-loop-class
invariant-loop-class l =
    let all = classes_of l.book.program in
    record l.«module» { methods = l.«module».methods ++ class_heads all l.class (drop l.class all) }
    ≡ record l.fn.«module» { methods = heads_of all }
