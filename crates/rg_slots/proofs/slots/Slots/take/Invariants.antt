use Rattle.std.proofs.Common.{drop}
use Rattle.rg_slots.proofs.Taken.{Taken}
use Rattle.rg_slots.proofs.slots.Slots.take.Given as goal

abbrev pub invariant-loop-n : goal.invariant-loop-n
invariant-loop-n l = Taken l.cowns l.fn.self (drop l.n-index l.cowns) l.taken.items l.self-inside.slots.items
