use Rattle.std.proofs.Common.{◌≡◌, ◌<◌, All, bytes_eq, length, map, drop}
use Rattle.rg_tree.specs.Rows.RowTrees.{classes_of, member_at}
use Rattle.rg_plan.specs.Lines.{owned_classes, cown_classes}
use Rattle.rg_plan.specs.Inner.Owned.{owned_among}
use Rattle.rg_plan.proofs.owned.owns.Given as goal

abbrev pub invariant-loop-k : goal.invariant-loop-k
invariant-loop-k l = record {
  same : bytes_eq (owned_among (classes_of l.book.program) (map (member_at l.book.program) (drop l.k-index l.members)))
      (cown_classes l.cowns l.rest)
      ≡ bytes_eq (owned_classes (classes_of l.book.program) l.class) (cown_classes l.cowns l.numbers);
  numbers : All (λ n. n < length l.cowns) l.rest;
}
