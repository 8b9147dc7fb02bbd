use Rattle.std.proofs.Common.{◌≡◌, ◌-◌, length, take}
use Rattle.rg_compare.proofs.code.same_words.Given as goal

-- as many, and the same at the places that were compared
abbrev pub invariant-loop-at : goal.invariant-loop-at
invariant-loop-at l = (length l.one ≡ length l.other) × (take l.at l.one ≡ take l.at l.other)

abbrev pub decreases-loop-at : goal.decreases-loop-at
decreases-loop-at l = length l.one - l.at
