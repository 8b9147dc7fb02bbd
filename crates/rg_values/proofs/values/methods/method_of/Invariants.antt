use Rattle.std.proofs.Common.{◌≡◌, map, drop}
use Rattle.rg_tree.specs.Rows.Tables.{name_at}
use Rattle.rg_tree.specs.Rows.RowTrees.{member_at}
use Rattle.rg_values.specs.Methods.{find_method}
use Rattle.rg_values.proofs.values.methods.method_of.Given as goal

abbrev pub invariant-loop-member : goal.invariant-loop-member
invariant-loop-member l =
    find_method (name_at l.book.program l.name) (map (member_at l.book.program) (drop l.member-index l.numbers))
    ≡ find_method (name_at l.book.program l.name) (map (member_at l.book.program) l.numbers)
