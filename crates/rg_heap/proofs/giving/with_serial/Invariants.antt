use Rattle.std.proofs.Common.{◌≡◌, ℕ, ◌<◌, Some, slice_get}
use Rattle.rg_cells.specs.Table.{HasSerial}
use Rattle.rg_heap.proofs.giving.with_serial.Given as goal

abbrev pub invariant-loop-slot : goal.invariant-loop-slot
invariant-loop-slot l = (i s : ℕ) → i < l.slot-index → slice_get l.slots i ≡ Some s → HasSerial l.cells.heap s l.serial → ⊥
