use Rattle.std.proofs.Common.{◌≡◌, ◌-◌, length, take}
use Rattle.rg_compare.proofs.code.same_entries.Given as goal

-- as many, and the same at the places that were compared
abbrev pub invariant-loop-method : goal.invariant-loop-method
invariant-loop-method l = (length l.one.entries ≡ length l.other.entries) × (take l.method l.one.entries ≡ take l.method l.other.entries)

abbrev pub decreases-loop-method : goal.decreases-loop-method
decreases-loop-method l = length l.one.entries - l.method
