use Rattle.std.proofs.Common.{take}
use Rattle.rg_move.specs.Counted.{led_by, Grown}
use Rattle.rg_move.proofs.counting.count_members.Given as goal

abbrev pub invariant-loop-slot : goal.invariant-loop-slot
invariant-loop-slot l = Grown l.region l.initial.cells (led_by l.initial.cells.heap (take l.slot-index l.members))
    l.cells
