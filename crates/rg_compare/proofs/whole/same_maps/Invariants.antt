use Rattle.std.proofs.Common.{◌≡◌, ◌-◌, length, take}
use Rattle.rg_compare.proofs.whole.same_maps.Given as goal

-- as many, and the same at the places that were compared
abbrev pub invariant-loop-at : goal.invariant-loop-at
invariant-loop-at l = (length l.one.maps ≡ length l.other.maps) × (take l.at l.one.maps ≡ take l.at l.other.maps)

abbrev pub decreases-loop-at : goal.decreases-loop-at
decreases-loop-at l = length l.one.maps - l.at
