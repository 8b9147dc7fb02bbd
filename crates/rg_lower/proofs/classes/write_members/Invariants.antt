use Rattle.std.proofs.Common.{◌≡◌, ℕ, drop, length, map}
use Rattle.rg_tree.specs.Rows.RowTrees.{classes_of, member_at}
use Rattle.rg_code.specs.Lowering.{Methods, members_code}
use Rattle.rg_lower.specs.Inner.Methods.{with_methods}
use Rattle.rg_lower.proofs.classes.write_members.Given as goal

abbrev pub invariant-loop-k : goal.invariant-loop-k
invariant-loop-k l = (go : ℕ → Methods) →
    with_methods l.code (members_code (classes_of l.book.program) (length l.code.ops) l.class
    (map (member_at l.book.program) (drop l.k-index l.these)) go)
    ≡ with_methods l.fn.code (members_code (classes_of l.book.program) (length l.fn.code.ops) l.class (map (member_at l.book.program) l.these) go)
