use Rattle.rg_heap.specs.Inner.Chains.{FirstFreed}
use Rattle.rg_heap.proofs.ending.free_cells.Given as goal

abbrev pub invariant-loop-slot : goal.invariant-loop-slot
invariant-loop-slot l = FirstFreed l.initial.cells l.slots l.slot-index l.cells
