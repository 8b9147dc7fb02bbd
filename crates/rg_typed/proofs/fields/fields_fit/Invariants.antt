use Rattle.std.proofs.Common.{◌≡◌, ◌≤◌, length, map, filter_map, drop}
use Rattle.rg_tree.specs.Rows.RowTrees.{classes_of, member_at}
use Rattle.rg_rules.specs.Types.{field_member}
use Rattle.rg_typed.specs.Typed.{fields_fit}
use Rattle.rg_typed.proofs.fields.fields_fit.Given as goal

abbrev pub invariant-loop-k : goal.invariant-loop-k
invariant-loop-k l = record {
  rest : fields_fit (classes_of l.book.program) l.cells l.own
      (filter_map field_member (map (member_at l.book.program) (drop l.k-index l.these))) (drop l.at l.values)
      ≡ fields_fit (classes_of l.book.program) l.cells l.own (filter_map field_member (map (member_at l.book.program) l.these)) l.values;
  within : l.at ≤ length l.values;
}
