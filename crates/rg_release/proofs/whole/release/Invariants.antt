use Rattle.std.proofs.Common.{ℕ, List, Some, count_by, is_some}
use Rattle.rg_regions.specs.Table.{Chained}
use Rattle.rg_release.specs.Released.{Unowned}
use Rattle.rg_release.specs.Inner.Turns.{Releasing}
use Rattle.rg_release.proofs.whole.release.Given as goal

abbrev pub invariant-next : goal.invariant-next
invariant-next l = (tops : List ℕ) → Chained l.fn.regions.links (Some l.head) tops → Unowned l.fn.cells.heap l.fn.regions tops
    → (keys : List ℕ) × Chained l.regions.links l.next keys × Releasing l.fn.cells l.fn.regions tops l.cells l.regions keys

abbrev pub decreases-next : goal.decreases-next
decreases-next l = count_by is_some l.regions.records
