use Rattle.std.proofs.Common.{map}
use Rattle.rg_tree.specs.Rows.RowTrees.{class_of, classes_of, member_at}
use Rattle.rg_build.proofs.Counting.{heads-more, classes-heads}
use Rattle.rg_build.proofs.heads.add_heads.Goals as goal

pub loop-class-preserved : goal.loop-class-preserved
loop-class-preserved c =
    let t = c.args.book.now.program in
    heads-more c.args.«module».now c.loop-class.«module» c.add_members.new.«module» _ _ _ _ c.loop-class.invariant
    (classes-heads (classes_of t) c.loop-class.class (class_of t c.class.result) (map (member_at t) c.members_of-members.result.now)
    c.class.ensures.tree c.members_of-members.ensures.tree)
    c.in_ok-add_members.ensures
