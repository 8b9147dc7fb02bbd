use Rattle.std.proofs.Common.{◌≡◌, ◌++◌, map, drop}
use Rattle.rg_tree.specs.Rows.RowTrees.{member_at}
use Rattle.rg_store.proofs.Opening.{opened}
use Rattle.rg_store.proofs.made.opening_fields.Given as goal

abbrev pub invariant-loop-member : goal.invariant-loop-member
invariant-loop-member l =
    l.fields.items ++ opened (map (member_at l.book.program) (drop l.member-index l.numbers)) ≡ opened (map (member_at l.book.program) l.numbers)
