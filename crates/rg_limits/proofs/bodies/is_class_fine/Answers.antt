use Rattle.rg_tree.specs.Rows.RowTrees.{member_at}
use Rattle.rg_limits.specs.Inner.Fine.{IsMemberFine}
use Rattle.rg_limits.proofs.Telling.{all-fails}
use Rattle.rg_limits.proofs.bodies.is_class_fine.Goals as goal

pub returns-then-not-is_member_fine : goal.returns-then-not-is_member_fine
returns-then-not-is_member_fine c =
    all-fails IsMemberFine (member_at c.args.program.now) _ _ _ c.loop-member-test.true c.members_of-member-items.ensures.tree
    c.if-not-is_member_fine.ensures
