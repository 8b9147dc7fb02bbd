use Rattle.std.proofs.Common.{◌∙◌}
use Rattle.rg_tree.specs.Rows.RowTrees.{classes_of, class_of}
use Rattle.rg_lower.proofs.WholeSteps.{opening-step}
use Rattle.rg_lower.proofs.classes.write_openings.Goals as goal

pub loop-class-preserved : goal.loop-class-preserved
loop-class-preserved c =
    let t = c.args.book.now.program in
    opening-step (classes_of t) c.loop-class.class (class_of t c.class.result) c.loop-class.code c.write_opening.new.code c.class.ensures.tree
    c.in_ok-write_opening.ensures ∙ c.loop-class.invariant
