use Rattle.std.proofs.Common.{◌≡◌, ◌≤◌, ◌-◌, max, length, drop}
use Rattle.rg_code.specs.Lowering.{slots_of}
use Rattle.rg_lower.proofs.counts.slots_behind.Given as goal

abbrev pub invariant-loop-at : goal.invariant-loop-at
invariant-loop-at l =
    (l.at ≤ length l.code.ops)
    × (max l.most (slots_of l.fn.given (drop l.at l.code.ops)) ≡ slots_of l.fn.given (drop l.fn.from l.code.ops))

abbrev pub decreases-loop-at : goal.decreases-loop-at
decreases-loop-at l = length l.code.ops - l.at
