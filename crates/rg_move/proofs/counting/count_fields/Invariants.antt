use Rattle.rg_cells.specs.Table.{body_at}
use Rattle.rg_move.specs.Counted.{Grown}
use Rattle.rg_move.specs.Inner.Moves.{led_first}
use Rattle.rg_move.proofs.counting.count_fields.Given as goal

abbrev pub invariant-loop-k : goal.invariant-loop-k
invariant-loop-k l = Grown l.region l.initial.cells (λ x. led_first x (body_at l.initial.cells.heap l.slot) l.k) l.cells
