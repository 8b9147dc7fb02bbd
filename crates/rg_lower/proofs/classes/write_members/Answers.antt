use Rattle.std.proofs.Common.{subst}
use Rattle.rg_tree.specs.Rows.RowTrees.{member_at}
use Rattle.rg_rules.specs.Names.{HasFewNames}
use Rattle.rg_lower.proofs.BodySteps.{All-mapped}
use Rattle.rg_lower.proofs.classes.write_members.Goals as goal

pub write_member-requires-clause-names : goal.write_member-requires-clause-names
write_member-requires-clause-names c =
    subst HasFewNames c.member.ensures.tree
    (All-mapped HasFewNames (member_at c.args.book.now.program) c.args.these.now c.loop-k.k-index 0 c.loop-k-test.true c.requires.names)
