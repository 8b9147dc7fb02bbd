use Rattle.std.proofs.Common.{◌≡◌, ◌+◌, sum_by}
use Rattle.rg_cells.specs.Table.{width, body_at}
use Rattle.rg_trace.specs.Marking.{black_fields}
use Rattle.rg_trace.specs.Inner.Marking.{MarkingGoes, pending}
use Rattle.rg_trace.proofs.mark.mark_region.Given as goal

abbrev pub invariant-grey : goal.invariant-grey
invariant-grey g l =
    MarkingGoes l.fn.cells.heap l.region (record { bridge = l.fn.bridge; slots = l.slots; temps = l.temps }) l.fn.cells
    l.cells l.head
    × (l.steps ≡ l.fn.steps + sum_by (λ t. width (body_at l.fn.cells.heap t)) l.temps + black_fields l.fn.cells.heap
    l.region l.cells.marks)

abbrev pub decreases-grey : goal.decreases-grey
decreases-grey g l = pending l.fn.cells.heap l.region l.cells.marks
