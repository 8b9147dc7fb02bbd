use Rattle.rg_tree.specs.Canonical.{class_text}
use Rattle.rg_tree.specs.Rows.RowTrees.{classes_of, class_of}
use Rattle.rg_print.proofs.Rests.{flat_map-row}
use Rattle.rg_print.proofs.whole.write_classes.Goals as goal

pub loop-i-preserved : goal.loop-i-preserved
loop-i-preserved c =
    flat_map-row class_text (classes_of c.args.program.now) c.loop-i.i (class_of c.args.program.now c.class.result) c.loop-i.out _ _
    c.class.ensures.tree c.loop-i.invariant c.in_ok-write_class.ensures
