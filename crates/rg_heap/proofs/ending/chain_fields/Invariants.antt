use Rattle.std.proofs.Common.{◌≡◌}
use Rattle.rg_heap.specs.Inner.Chains.{ChainsFields}
use Rattle.rg_heap.proofs.ending.chain_fields.Given as goal

abbrev pub invariant-loop-k : goal.invariant-loop-k
invariant-loop-k l = record {
  records : l.regions.records ≡ l.initial.regions.records;
  chains : ChainsFields l.cells.heap l.frames l.slot l.k l.initial.regions l.initial.head l.regions l.head;
}
