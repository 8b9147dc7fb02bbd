use Rattle.std.proofs.Common.{sym}
use Rattle.rg_tree.specs.Rows.RowTrees.{member_of}
use Rattle.rg_build.proofs.Counting.{heads-more, members-heads}
use Rattle.rg_build.proofs.heads.add_members.Goals as goal

pub loop-k-preserved : goal.loop-k-preserved
loop-k-preserved c =
    let t = c.args.book.now.program in
    heads-more c.args.«module».now c.loop-k.«module» c.add_member.new.«module» _ _ _ _ c.loop-k.invariant
    (members-heads t c.args.class c.args.these.now c.loop-k.k-index (member_of t c.member.result) c.loop-k-test.true (sym c.member.ensures.tree))
    c.in_ok-add_member.ensures
