use Rattle.rg_regions.specs.Owned.{Every, FollowsFields}
use Rattle.rg_regions.proofs.owned.chain_fields.Given as goal

abbrev pub invariant-loop-k : goal.invariant-loop-k
invariant-loop-k l = FollowsFields l.cells.heap Every l.region l.slot l.k l.initial.regions l.regions l.initial.head l.head
