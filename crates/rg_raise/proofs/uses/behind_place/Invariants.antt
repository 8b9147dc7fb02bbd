use Rattle.std.proofs.Common.{◌≡◌, ◌-◌}
use Rattle.rg_raise.specs.Uses.{behind_place}
use Rattle.rg_raise.proofs.uses.behind_place.Given as goal

abbrev pub invariant-loop-at : goal.invariant-loop-at
invariant-loop-at l =
    behind_place l.code.ops (l.stretch.end - l.at) l.at ≡ behind_place l.code.ops (l.stretch.end - l.stretch.from) l.stretch.from

abbrev pub decreases-loop-at : goal.decreases-loop-at
decreases-loop-at l = l.stretch.end - l.at
