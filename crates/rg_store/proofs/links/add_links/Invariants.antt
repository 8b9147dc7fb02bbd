use Rattle.std.proofs.Common.{◌≡◌, ◌≤◌, ◌++◌, length, map, drop}
use Rattle.rg_tree.specs.Rows.RowTrees.{member_at}
use Rattle.rg_store.specs.Inner.Found.{links_in}
use Rattle.rg_store.specs.Shown.{store_of}
use Rattle.rg_store.proofs.links.add_links.Given as goal

abbrev pub invariant-loop-member : goal.invariant-loop-member
invariant-loop-member l = record {
  within : l.before ≤ length l.object.fields.items;
  links :
      l.links.items ++ links_in l.book.program (store_of l.store) (map (member_at l.book.program) (drop l.member-index l.numbers))
      (drop l.before l.object.fields.items)
      ≡ l.fn.links.items ++ links_in l.book.program (store_of l.store) (map (member_at l.book.program) l.numbers) l.object.fields.items;
}
