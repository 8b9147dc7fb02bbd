use Rattle.std.proofs.Common.{◌≡◌, ◌++◌, drop, map, filter_map}
use Rattle.rg_tree.specs.Rows.RowTrees.{classes_of, member_at}
use Rattle.rg_tree.specs.Tree.{Field}
use Rattle.rg_rules.specs.RightSides.{opening_value}
use Rattle.rg_rules.specs.Types.{fields_of, field_member}
use Rattle.rg_slots.proofs.opening.opening_fields.Given as goal

abbrev pub invariant-loop-k : goal.invariant-loop-k
invariant-loop-k l =
    l.values ++ map (λ (f : Field). opening_value f.ty) (filter_map field_member (map (member_at l.book.program) (drop l.k-index l.members)))
    ≡ map (λ (f : Field). opening_value f.ty) (fields_of (classes_of l.book.program) l.class)
