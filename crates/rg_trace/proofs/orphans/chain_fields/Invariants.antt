use Rattle.std.proofs.Common.{◌≡◌, ◌+◌}
use Rattle.rg_regions.specs.Owned.{FollowsFields}
use Rattle.rg_trace.specs.Orphans.{IsWhite}
use Rattle.rg_trace.proofs.orphans.chain_fields.Given as goal

abbrev pub invariant-loop-k : goal.invariant-loop-k
invariant-loop-k g l =
    FollowsFields l.cells.heap (IsWhite l.cells.marks) l.region l.slot l.k l.initial.regions l.regions l.initial.head
    l.head
    × (l.steps ≡ l.initial.steps + l.k)
