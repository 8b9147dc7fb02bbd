use Rattle.std.proofs.Common.{◌≡◌, ◌+◌}
use Rattle.rg_cells.specs.Table.{field_at}
use Rattle.rg_trace.specs.Inner.Marking.{Scanned}
use Rattle.rg_trace.proofs.mark.grey_fields.Given as goal

abbrev pub invariant-loop-k : goal.invariant-loop-k
invariant-loop-k g l =
    Scanned l.initial.cells.heap l.region (λ k. field_at l.initial.cells.heap l.slot k) l.k l.initial.cells l.cells
    l.initial.head l.head
    × (l.steps ≡ l.initial.steps + l.k)
