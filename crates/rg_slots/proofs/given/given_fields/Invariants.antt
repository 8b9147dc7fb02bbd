use Rattle.std.proofs.Common.{◌≡◌, ◌++◌, drop, map, filter_map}
use Rattle.std.specs.Vec.Iter.{into_iter_items}
use Rattle.rg_tree.specs.Rows.RowTrees.{classes_of, member_at}
use Rattle.rg_rules.specs.Types.{fields_of, field_member}
use Rattle.rg_sched_atomic.specs.Contents.{givens}
use Rattle.rg_slots.specs.Slots.{content_in}
use Rattle.rg_slots.proofs.given.given_fields.Given as goal

abbrev pub invariant-loop-k : goal.invariant-loop-k
invariant-loop-k l =
    l.given.items
    ++ givens (filter_map field_member (map (member_at l.book.program) (drop l.k-index l.members))) (map content_in (into_iter_items l.rest))
    ≡ givens (fields_of (classes_of l.book.program) l.class) (map content_in l.fn.contents.items)
