use Rattle.std.proofs.Common.{◌≡◌, ◌-◌, length, take}
use Rattle.rg_compare.proofs.code.same_openings.Given as goal

-- as many, and the same at the places that were compared
abbrev pub invariant-loop-class : goal.invariant-loop-class
invariant-loop-class l = (length l.one.openings ≡ length l.other.openings) × (take l.class l.one.openings ≡ take l.class l.other.openings)

abbrev pub decreases-loop-class : goal.decreases-loop-class
decreases-loop-class l = length l.one.openings - l.class
