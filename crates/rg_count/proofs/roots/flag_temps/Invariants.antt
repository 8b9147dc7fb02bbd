use Rattle.std.proofs.Common.{◌≡◌, ◌+◌, sum_by, take}
use Rattle.rg_cells.specs.Table.{width, body_at}
use Rattle.rg_count.specs.Inner.Flags.{Flagged, InTemps}
use Rattle.rg_count.proofs.roots.flag_temps.Given as goal

abbrev pub invariant-loop-temp : goal.invariant-loop-temp
invariant-loop-temp g l =
    Flagged l.initial.cells.heap l.region (InTemps l.initial.cells.heap l.temps l.temp-index) l.initial.cells l.cells
    × (l.steps ≡ l.initial.steps + sum_by (λ t. width (body_at l.initial.cells.heap t)) (take l.temp-index l.temps))
