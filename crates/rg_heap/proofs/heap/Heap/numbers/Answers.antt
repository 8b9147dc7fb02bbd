use Rattle.rg_heap.proofs.Readers.{frozen_held}
use Rattle.rg_heap.proofs.heap.Heap.numbers.Goals as goal

pub overflow_sub-result : goal.overflow_sub-result
overflow_sub-result c = rw (c.frozen-frozen.ensures, c.held.ensures) (frozen_held c.self.inside.cells.heap)
