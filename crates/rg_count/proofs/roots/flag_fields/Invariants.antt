use Rattle.std.proofs.Common.{◌≡◌, ◌+◌}
use Rattle.rg_cells.specs.Table.{field_at}
use Rattle.rg_count.specs.Inner.Flags.{Flagged, Among}
use Rattle.rg_count.proofs.roots.flag_fields.Given as goal

abbrev pub invariant-loop-k : goal.invariant-loop-k
invariant-loop-k g l =
    Flagged l.initial.cells.heap l.region (Among (λ k. field_at l.initial.cells.heap l.slot k) l.k) l.initial.cells
    l.cells
    × (l.steps ≡ l.initial.steps + l.k)
