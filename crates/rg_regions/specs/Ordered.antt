-- The members of a region are put in order (docs/architecture.md, "Regions").
use Rattle.std.specs.Prelude.{◌≡◌, ℕ, List, Some}
use Rattle.std.specs.List.Sorted.{IsPermutation, IsNonDecreasing}
use Rattle.rg_regions.specs.Table.{Record, RegionTable, record_at, changed as with_record}

-- a region has other members
abbrev pub with_members : List ℕ → Record → Record
with_members members r = record r { members = members }

-- The members of a region are those that it had, in an order in which none is above the next, and nothing else changes.
pub record Orders (old new : RegionTable) (key : ℕ) : Type 0 where
  pub members : List ℕ
  pub rise : IsNonDecreasing members
  pub same : (r : Record) → record_at old key ≡ Some r → IsPermutation r.members members
  pub changed : new ≡ with_record old key (with_members members)
