use Rattle.std.proofs.Common.{◌≡◌, ◌-◌, [], drop, length}
use Rattle.rg_raise.specs.Fronts.{rows_alone}
use Rattle.rg_raise.proofs.fronts.alone.Given as goal

abbrev pub invariant-loop-at : goal.invariant-loop-at
invariant-loop-at l = rows_alone l.found.items (drop l.at l.rows.items) ≡ rows_alone [] l.rows.items

abbrev pub decreases-loop-at : goal.decreases-loop-at
decreases-loop-at l = length l.rows.items - l.at
