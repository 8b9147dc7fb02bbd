use Rattle.std.proofs.Common.{◌≤◌, ◌+◌, sum_by, take}
use Rattle.rg_cells.specs.Table.{body_at, width}
use Rattle.rg_copy.specs.Inner.Moves.{TempsMarked}
use Rattle.rg_copy.proofs.forward.forward_marked.Given as goal

abbrev pub invariant-loop-temp : goal.invariant-loop-temp
invariant-loop-temp g l =
    TempsMarked l.initial.cells l.region l.temps l.temp-index l.cells
    × (l.steps ≤ l.initial.steps + sum_by (λ s. width (body_at l.initial.cells.heap s)) (take l.temp-index l.temps))
