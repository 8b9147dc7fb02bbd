use Rattle.std.proofs.Common.{◌≡◌, map, drop}
use Rattle.rg_tree.specs.Rows.RowTrees.{classes_of, member_at}
use Rattle.rg_rules.specs.Types.{method_named}
use Rattle.rg_plan.specs.Inner.Found.{method_among}
use Rattle.rg_plan.proofs.classes.find_name.Given as goal

abbrev pub invariant-loop-k : goal.invariant-loop-k
invariant-loop-k l =
    method_among (map (member_at l.book.program) (drop l.k-index l.members)) l.name ≡ method_named (classes_of l.book.program) l.class l.name
