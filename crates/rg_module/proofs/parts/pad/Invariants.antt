use Rattle.std.proofs.Common.{ℕ, ◌<◌, ◌≤◌, ◌+◌, ◌-◌, length}
use Rattle.rg_module.specs.Inner.Rows.{IsPadded}
use Rattle.rg_module.proofs.parts.pad.Given as goal

abbrev pub invariant-loop-alloc : goal.invariant-loop-alloc
invariant-loop-alloc l = (n : ℕ) → l.at < n → length l.fn.maps.items ≤ n → IsPadded n l.fn.maps.items l.maps.items

abbrev pub decreases-loop-alloc : goal.decreases-loop-alloc
decreases-loop-alloc l = l.at + 1 - length l.maps.items
