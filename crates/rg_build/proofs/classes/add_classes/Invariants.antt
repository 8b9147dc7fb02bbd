use Rattle.std.proofs.Common.{◌≡◌, map, take}
use Rattle.rg_tree.specs.Rows.RowTrees.{classes_of}
use Rattle.rg_spell.specs.Spelling.{FitsShape}
use Rattle.std.specs.List.{AllByRecursion}
use Rattle.rg_build.specs.ModuleOf.{shape_of}
use Rattle.rg_build.proofs.classes.add_classes.Given as goal

abbrev pub invariant-loop-class : goal.invariant-loop-class
invariant-loop-class l =
    let all = classes_of l.book.program in
    (l.«module» ≡ record l.fn.«module» { classes = map (shape_of all) (take l.class all) }) × AllByRecursion FitsShape l.«module».classes
