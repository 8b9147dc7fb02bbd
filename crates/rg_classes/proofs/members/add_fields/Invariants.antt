use Rattle.rg_tree.specs.Rows.RowTrees.{member_at}
use Rattle.rg_tree.specs.Rows.RowsExist.{IsMemberNumber}
use Rattle.rg_classes.specs.Written.{field_written}
use Rattle.rg_classes.proofs.Turns.{SoFar}
use Rattle.rg_classes.proofs.members.add_fields.Given as goal

abbrev pub invariant-loop-ty : goal.invariant-loop-ty
invariant-loop-ty l =
    SoFar member_at IsMemberNumber field_written 0 l.types l.fn.program l.fn.members.items l.program l.members.items l.ty-index l.k
