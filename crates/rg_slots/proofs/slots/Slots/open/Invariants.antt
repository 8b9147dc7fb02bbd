use Rattle.std.proofs.Common.{◌≡◌, ◌++◌, drop, map}
use Rattle.std.specs.Vec.Iter.{into_iter_items}
use Rattle.rg_tree.specs.Rows.RowTrees.{classes_of}
use Rattle.rg_sched_atomic.specs.Contents.{Held}
use Rattle.rg_sched_atomic.specs.Settings.{start_contents}
use Rattle.rg_slots.specs.Slots.{content_in}
use Rattle.rg_slots.proofs.slots.Slots.open.Given as goal

abbrev pub invariant-loop-n : goal.invariant-loop-n
invariant-loop-n l =
    map content_in l.slots.items ++ map Held (start_contents (classes_of l.book.program) (drop l.n l.plan.cowns) (into_iter_items l.rest))
    ≡ map Held (start_contents (classes_of l.book.program) l.plan.cowns l.fn.images.items)
