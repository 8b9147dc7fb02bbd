use Rattle.std.proofs.Common.{ℕ, List, drop}
use Rattle.rg_cown.specs.Cargo.{entries_of}
use Rattle.rg_image.specs.Inner.Entries.{Adds}
use Rattle.rg_image.proofs.entries.count_fields.Given as goal

abbrev pub invariant-loop-k : goal.invariant-loop-k
invariant-loop-k l = (all : List ℕ) → Adds l.counts.items all (λ r. entries_of l.cells r l.own (drop l.k l.fields))
    → Adds l.fn.counts.items all (λ r. entries_of l.cells r l.own l.fields)
