use Rattle.std.proofs.Common.{◌≡◌, ◌+◌, Some, sum_by, take}
use Rattle.rg_regions.specs.Table.{Record, record_at}
use Rattle.rg_trace.specs.Orphans.{FollowsWhite, if_white}
use Rattle.rg_trace.proofs.orphans.chain_orphans.Given as goal

abbrev pub invariant-loop-place : goal.invariant-loop-place
invariant-loop-place g l =
    (r : Record) → record_at l.initial.regions l.key ≡ Some r →
    FollowsWhite l.cells.heap l.cells.marks l.region r.members l.place l.initial.regions l.regions l.head
    × (l.steps ≡ l.initial.steps + sum_by (if_white l.cells.heap l.cells.marks) (take l.place r.members))
