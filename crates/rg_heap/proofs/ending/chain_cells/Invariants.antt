use Rattle.std.proofs.Common.{◌≡◌}
use Rattle.rg_heap.specs.Inner.Chains.{ChainsCells}
use Rattle.rg_heap.proofs.ending.chain_cells.Given as goal

abbrev pub invariant-loop-slot : goal.invariant-loop-slot
invariant-loop-slot l = record {
  records : l.regions.records ≡ l.initial.regions.records;
  chains : ChainsCells l.cells.heap l.frames l.slots l.slot-index l.initial.regions l.regions l.head;
}
