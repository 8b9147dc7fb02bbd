-- Cells that get another label, one by one (docs/architecture.md, "Freeze and merge").
use Rattle.std.specs.Prelude.{◌≡◌, ◌≢◌, ℕ, ◌<◌, List, slice_index}
use Rattle.rg_base.specs.declared.object.Label.{Label}
use Rattle.rg_cells.specs.Table.{Table, high_of}
use Rattle.rg_regions.specs.Same.{IsSameCell}
use Rattle.rg_move.specs.Frozen.{IsLabelled}

-- the first of some cells have the label, and all others stay
pub record LabelledFirst (l : Label) (old : Table) (members : List ℕ) (i : ℕ) (new : Table) : Type 0 where
  pub done : (j : ℕ) → j < i → IsLabelled l old new (slice_index members j)
  pub others : (s : ℕ) → ((j : ℕ) → j < i → slice_index members j ≢ s) → IsSameCell old new s
  pub serials : new.heap.next ≡ old.heap.next
  pub high : high_of new.heap ≡ high_of old.heap
