use Rattle.std.proofs.Common.{drop, map}
use Rattle.rg_tree.specs.Rows.RowTrees.{classes_of, member_at}
use Rattle.rg_build.specs.Maps.{members_maps}
use Rattle.rg_build.specs.Inner.Laid.{LaysOf}
use Rattle.rg_build.proofs.bodies.put_members.Given as goal

abbrev pub invariant-loop-k : goal.invariant-loop-k
invariant-loop-k l =
    LaysOf l.fn.laying l.laying (members_maps (classes_of l.book.program) l.class (map (member_at l.book.program) l.these))
    (members_maps (classes_of l.book.program) l.class (map (member_at l.book.program) (drop l.k-index l.these)))
