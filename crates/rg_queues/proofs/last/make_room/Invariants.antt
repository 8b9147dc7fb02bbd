use Rattle.std.proofs.Common.{◌≡◌, ◌<◌, ℕ, None, get_or, length}
use Rattle.rg_queues.proofs.last.make_room.Given as goal

abbrev pub invariant-loop-n : goal.invariant-loop-n
invariant-loop-n l = record {
  same : (n : ℕ) → get_or l.last.items n None ≡ get_or l.fn.last.items n None;
  within : (k : ℕ) → k < l.n-index → get_or l.cowns k 0 < length l.last.items;
}
