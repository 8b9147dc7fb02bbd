use Rattle.std.proofs.Common.{◌≡◌, ◌++◌, drop, map}
use Rattle.rg_tree.specs.Rows.RowTrees.{member_at}
use Rattle.rg_code.specs.Lowering.{opening_words}
use Rattle.rg_lower.proofs.classes.write_fields.Given as goal

abbrev pub invariant-loop-k : goal.invariant-loop-k
invariant-loop-k l =
    l.words.items ++ opening_words (map (member_at l.book.program) (drop l.k-index l.these)) ≡ opening_words (map (member_at l.book.program) l.these)
