use Rattle.rg_base.proofs.Callers.Lists.{drop-here}
use Rattle.rg_tree.specs.Rows.RowTrees.{class_of, classes_of}
use Rattle.rg_limits.specs.Inner.Fine.{IsClassFine}
use Rattle.rg_limits.proofs.Telling.{all-goes-on}
use Rattle.rg_limits.proofs.bodies.are_classes_fine.Goals as goal

pub loop-i-preserved : goal.loop-i-preserved
loop-i-preserved c =
    let p = c.args.program.now in
    all-goes-on IsClassFine _ _ _ (class_of p c.class.result) (drop-here (classes_of p) c.loop-i.i _ c.class.ensures.tree)
    c.loop-i.invariant c.if-not-is_class_fine.ensures
