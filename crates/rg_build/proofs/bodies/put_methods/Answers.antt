use Rattle.rg_tree.specs.Rows.RowTrees.{class_of, classes_of, member_at}
use Rattle.std.proofs.Common.{map}
use Rattle.rg_build.proofs.Walking.{classes-turn}
use Rattle.rg_build.proofs.bodies.put_methods.Goals as goal

pub loop-class-preserved : goal.loop-class-preserved
loop-class-preserved c =
    let t = c.args.book.now.program in
    classes-turn (classes_of t) c.args.laying.now c.loop-class.laying c.put_members.new.laying _ c.loop-class.class (class_of t c.class.result)
    (map (member_at t) c.members_of-members.result.now) c.class.ensures.tree c.loop-class.invariant c.members_of-members.ensures.tree
    c.in_ok-put_members.ensures
