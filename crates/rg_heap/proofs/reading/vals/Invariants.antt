use Rattle.std.proofs.Common.{◌≡◌, take, map}
use Rattle.rg_cells.specs.Table.{body_at}
use Rattle.rg_heap.specs.Answers.{val_of}
use Rattle.rg_heap.specs.Reads.{fields_of}
use Rattle.rg_heap.proofs.reading.vals.Given as goal

abbrev pub invariant-loop-k : goal.invariant-loop-k
invariant-loop-k l = l.vals ≡ map (val_of l.cells.heap) (take l.k (fields_of (body_at l.cells.heap l.slot)))
