use Rattle.std.proofs.Common.{drop}
use Rattle.std.specs.Vec.Iter.{into_iter_items}
use Rattle.rg_slots.proofs.Taken.{Put}
use Rattle.rg_slots.proofs.slots.Slots.put.Given as goal

abbrev pub invariant-loop-n : goal.invariant-loop-n
invariant-loop-n l = Put l.cowns l.fn.contents.items l.fn.self (drop l.n-index l.cowns) (into_iter_items l.rest) l.self-inside.slots.items
