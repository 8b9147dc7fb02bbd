use Rattle.std.proofs.Common.{ℕ, List, count_by, is_some}
use Rattle.rg_regions.specs.Table.{Chained}
use Rattle.rg_move.specs.Inner.Freezes.{Freezing}
use Rattle.rg_move.proofs.freezing.freeze.Given as goal

abbrev pub invariant-next : goal.invariant-next
invariant-next l = (keys : List ℕ)
    × Chained l.regions.links l.next keys × Freezing l.fn.cells l.fn.regions l.fn.key l.cells l.regions keys

abbrev pub decreases-next : goal.decreases-next
decreases-next l = count_by is_some l.regions.records
