use Rattle.std.proofs.Common.{ℕ, List, drop, sum_by}
use Rattle.rg_cown.specs.declared.cargo.CargoCell.{CargoCell}
use Rattle.rg_cown.specs.Cargo.{entries_of, entries}
use Rattle.rg_image.specs.Inner.Entries.{Adds}
use Rattle.rg_image.proofs.entries.count_all.Given as goal

abbrev pub invariant-loop-cell : goal.invariant-loop-cell
invariant-loop-cell l = (all : List ℕ)
    → Adds l.counts.items all (λ r. sum_by (λ (c : CargoCell). entries_of l.cells r c.label c.fields) (drop l.cell-index l.cells))
    → Adds l.fn.counts.items all (λ r. entries l.cells r)
