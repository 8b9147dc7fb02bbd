use Rattle.std.proofs.Common.{◌≡◌, Some}
use Rattle.rg_regions.specs.Table.{Record, record_at}
use Rattle.rg_regions.specs.Owned.{FollowsMembers}
use Rattle.rg_regions.proofs.owned.chain_owned.Given as goal

abbrev pub invariant-loop-place : goal.invariant-loop-place
invariant-loop-place l = (r : Record) → record_at l.initial.regions l.key ≡ Some r
    → FollowsMembers l.cells.heap l.region r.members l.place l.initial.regions l.regions l.initial.head l.head
