use Rattle.std.proofs.Common.{map, drop}
use Rattle.rg_tree.specs.Rows.RowTrees.{member_at, class_of}
use Rattle.rg_limits.specs.Inner.Fine.{IsMemberFine}
use Rattle.rg_limits.proofs.Telling.{AllGoOn}
use Rattle.rg_limits.proofs.bodies.is_class_fine.Given as goal

abbrev pub invariant-loop-member : goal.invariant-loop-member
invariant-loop-member l =
    AllGoOn IsMemberFine (map (member_at l.program) (drop l.member-index l.member-items)) (class_of l.program l.fn.class).members
