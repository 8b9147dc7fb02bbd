use Rattle.std.proofs.Common.{◌≡◌, ◌≤◌, ◌+◌, ◌-◌, ◌++◌, drop, take, length, vec_capacity}
use Rattle.rg_frames.proofs.frames.copy.Given as goal

abbrev pub invariant-copy : goal.invariant-copy
invariant-copy l = (l.k ≤ length l.words) × (l.all.items ≡ take l.at l.fn.all.items ++ (take l.k l.words ++ drop (l.at + l.k) l.fn.all.items))
    × (vec_capacity l.all ≡ vec_capacity l.fn.all)

abbrev pub decreases-copy : goal.decreases-copy
decreases-copy l = length l.words - l.k
