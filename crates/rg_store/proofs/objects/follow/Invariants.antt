use Rattle.std.proofs.Common.{◌≡◌, map, drop}
use Rattle.rg_tree.specs.Rows.Tables.{name_at}
use Rattle.rg_tree.specs.Rows.RowTrees.{classes_of}
use Rattle.rg_rules.specs.Evaluation.{follow_fields}
use Rattle.rg_store.specs.Shown.{store_of}
use Rattle.rg_store.proofs.objects.follow.Given as goal

abbrev pub invariant-loop-name : goal.invariant-loop-name
invariant-loop-name l =
    follow_fields (classes_of l.book.program) (store_of l.store) l.value (map (name_at l.book.program) (drop l.name-index l.fields))
    ≡ follow_fields (classes_of l.book.program) (store_of l.store) l.fn.from (map (name_at l.book.program) l.fields)
