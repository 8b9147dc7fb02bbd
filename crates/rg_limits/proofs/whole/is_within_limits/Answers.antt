use Rattle.rg_tree.specs.Rows.RowTrees.{program_of}
use Rattle.rg_limits.proofs.Together.{its-classes, tells-whole}
use Rattle.rg_limits.proofs.whole.is_within_limits.Goals as goal

pub returns-then-not-are_classes_fine : goal.returns-then-not-are_classes_fine
returns-then-not-are_classes_fine c = λ w. c.if-not-are_classes_fine.ensures (its-classes (program_of c.args.program.now) w)

pub returns : goal.returns
returns c =
    tells-whole (program_of c.args.program.now) c.is_main_fine.result c.requires c.if-not-are_classes_fine.ensures c.is_main_fine.ensures
