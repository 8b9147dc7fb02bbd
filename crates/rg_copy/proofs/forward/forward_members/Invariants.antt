use Rattle.std.proofs.Common.{◌≤◌, ◌+◌, sum_by, take}
use Rattle.rg_cells.specs.Table.{body_at, width}
use Rattle.rg_copy.specs.Inner.Moves.{MembersForwarded}
use Rattle.rg_copy.proofs.forward.forward_members.Given as goal

abbrev pub invariant-loop-slot : goal.invariant-loop-slot
invariant-loop-slot g l =
    MembersForwarded l.initial.cells l.region l.members l.slot-index l.cells
    × (l.steps ≤ l.initial.steps + sum_by (λ s. width (body_at l.initial.cells.heap s)) (take l.slot-index l.members))
