use Rattle.std.proofs.Common.{sym}
use Rattle.rg_build.proofs.Walking.{members-turn}
use Rattle.rg_tree.specs.Rows.RowTrees.{member_of}
use Rattle.rg_build.proofs.bodies.put_members.Goals as goal

pub loop-k-preserved : goal.loop-k-preserved
loop-k-preserved c =
    let t = c.args.book.now.program in
    members-turn t c.args.class c.args.laying.now c.loop-k.laying c.put_member.new.laying c.args.these.now _ c.loop-k.k-index
    (member_of t c.member.result) c.loop-k-test.true c.loop-k.invariant (sym c.member.ensures.tree) c.in_ok-put_member.ensures
