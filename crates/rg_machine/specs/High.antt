-- How many objects were made, and how many slots ever held, behind an instruction (docs/architecture.md, "The machine").
use Rattle.std.specs.Prelude.{◌≡◌, ◌+◌}
use Rattle.rg_cells.specs.Table.{high_of, high_after}
use Rattle.rg_heap.specs.Parts.{Parts}

-- no object was made, and no slot more was ever held
pub record NoneMade (old new : Parts) : Type 0 where
  pub made : new.cells.heap.next ≡ old.cells.heap.next
  pub high : high_of new.cells.heap ≡ high_of old.cells.heap

-- one object was made; one slot more was ever held exactly where all that ever were held an object
pub record OneMade (old new : Parts) : Type 0 where
  pub made : new.cells.heap.next ≡ old.cells.heap.next + 1
  pub high : high_of new.cells.heap ≡ high_after old.cells.heap
