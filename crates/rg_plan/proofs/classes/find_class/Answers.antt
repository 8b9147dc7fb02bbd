use Rattle.std.proofs.Common.{true, false, rules}
use Rattle.rg_tree.specs.Rows.RowTrees.{class_of, classes_of}
use Rattle.rg_plan.proofs.NameSteps.{name-same, class-here, class-past}
use Rattle.rg_plan.proofs.classes.find_class.Goals as goal

pub returns-then-is : goal.returns-then-is
returns-then-is c =
    let t = c.args.book.now.program in
    let same = name-same t _ c.class-row.result.name _ c.args.name.now true c.program-program.ensures.is c.name.ensures c.if-is.ensures in
    let here = class-here (classes_of t) c.args.name.now c.loop-class.class (class_of t c.class-row.result) c.class-row.ensures.tree same
    c.loop-class.invariant in
    record { named = here.0; number = here.1; within = search rules }

pub loop-class-preserved : goal.loop-class-preserved
loop-class-preserved c =
    let t = c.args.book.now.program in
    let other = name-same t _ c.class-row.result.name _ c.args.name.now false c.program-program.ensures.is c.name.ensures c.if-is.ensures in
    class-past (classes_of t) c.args.name.now c.loop-class.class (class_of t c.class-row.result) c.class-row.ensures.tree other
    c.loop-class.invariant
