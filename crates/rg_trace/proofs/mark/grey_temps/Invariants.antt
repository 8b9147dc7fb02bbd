use Rattle.std.proofs.Common.{◌≡◌, ◌+◌, sum_by, take}
use Rattle.rg_cells.specs.Table.{width, body_at}
use Rattle.rg_trace.specs.Inner.Marking.{ScannedTemps}
use Rattle.rg_trace.proofs.mark.grey_temps.Given as goal

abbrev pub invariant-loop-temp : goal.invariant-loop-temp
invariant-loop-temp g l =
    ScannedTemps l.initial.cells.heap l.region l.temps l.temp-index l.initial.cells l.cells l.initial.head l.head
    × (l.steps ≡ l.initial.steps + sum_by (λ t. width (body_at l.initial.cells.heap t)) (take l.temp-index l.temps))
