use Rattle.std.proofs.Common.{◌≡◌, ◌+◌}
use Rattle.rg_count.specs.Inner.Counting.{Lowered}
use Rattle.rg_regions.specs.Owned.{Every, FollowsFields}
use Rattle.rg_count.proofs.down.lower_fields.Given as goal

abbrev pub invariant-loop-k : goal.invariant-loop-k
invariant-loop-k g l =
    Lowered l.initial.cells.heap l.region l.slot l.k l.initial.cells l.cells l.initial.zero l.zero
    × FollowsFields l.initial.cells.heap Every l.region l.slot l.k l.initial.regions l.regions l.initial.orphans
    l.orphans
    × (l.steps ≡ l.initial.steps + l.k)
