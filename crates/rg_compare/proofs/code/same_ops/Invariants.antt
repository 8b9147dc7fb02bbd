use Rattle.std.proofs.Common.{◌≡◌, ◌-◌, length, take}
use Rattle.rg_compare.proofs.code.same_ops.Given as goal

-- as many, and the same at the places that were compared
abbrev pub invariant-loop-at : goal.invariant-loop-at
invariant-loop-at l = (length l.one.ops ≡ length l.other.ops) × (take l.at l.one.ops ≡ take l.at l.other.ops)

abbrev pub decreases-loop-at : goal.decreases-loop-at
decreases-loop-at l = length l.one.ops - l.at
