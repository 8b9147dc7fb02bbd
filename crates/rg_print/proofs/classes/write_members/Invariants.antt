use Rattle.std.proofs.Common.{◌≡◌, [], ◌∷◌, ◌++◌, codes, drop, map}
use Rattle.std.specs.Prelude.{flat_map}
use Rattle.rg_tree.specs.Canonical.{member_text}
use Rattle.rg_tree.specs.Rows.RowTrees.{member_at}
use Rattle.rg_tree.specs.Rows.Tables.{numbers_in}
use Rattle.rg_print.proofs.classes.write_members.Given as goal

abbrev pub invariant-loop-member : goal.invariant-loop-member
invariant-loop-member l =
    l.out ++ flat_map member_text (map (member_at l.program) (drop l.member-index l.member-items))
    ≡ l.fn.out ++ (codes " {" ++ 10 ∷ []) ++ flat_map member_text (map (member_at l.program) (numbers_in l.program l.fn.members))
