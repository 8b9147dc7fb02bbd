use Rattle.std.proofs.Common.{◌+◌, ◌≤◌, sum_by}
use Rattle.rg_cells.specs.Table.{width, body_at}
use Rattle.rg_regions.specs.Reach.{region_size}
use Rattle.rg_count.specs.Inner.Counting.{Down}
use Rattle.rg_count.proofs.down.count_down.Given as goal

abbrev pub invariant-down : goal.invariant-down
invariant-down g l =
    Down l.fn.cells.heap l.region (record { bridge = l.roots.bridge; slots = l.roots.slots.now; temps = l.roots.temps.now }) l.fn.cells
    l.fn.regions l.initial.left
    (l.fn.steps + sum_by (λ t. width (body_at l.fn.cells.heap t)) l.roots.temps.now) l.cells l.regions l.zero l.orphans l.left
    l.steps
    × (region_size l.fn.cells.heap l.region ≤ l.initial.left)

abbrev pub decreases-down : goal.decreases-down
decreases-down g l = l.left
