use Rattle.std.proofs.Common.{◌≡◌, ◌≤◌, ◌+◌, ◌-◌, ℕ, None, get_or, length}
use Rattle.rg_queues.proofs.last.reach.Given as goal

abbrev pub invariant-loop-last : goal.invariant-loop-last
invariant-loop-last l = record {
  same : (n : ℕ) → get_or l.last.items n None ≡ get_or l.fn.last.items n None;
  grows : length l.fn.last.items ≤ length l.last.items;
}

abbrev pub decreases-loop-last : goal.decreases-loop-last
decreases-loop-last l = (l.cown + 1) - length l.last.items
