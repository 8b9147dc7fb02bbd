-- The regions that the white members of a region own, chained through the links of the region table
-- (docs/architecture.md, "Mark and sweep").
use Rattle.std.specs.Prelude.{◌≡◌, ℕ, ◌==◌, if◌then◌else◌, List, [], Option, slice_index}
use Rattle.rg_cells.specs.Table.{Heap, body_at, width}
use Rattle.rg_regions.specs.Table.{RegionTable}
use Rattle.rg_regions.specs.Owned.{ChainsOwned}

abbrev pub IsWhite : List ℕ → (slot : ℕ) → Type 0
IsWhite marks s = slice_index marks s ≡ 0

-- the number of fields of the cell at a slot, where it is white
abbrev pub if_white : Heap → List ℕ → ℕ → ℕ
if_white h marks s = if slice_index marks s == 0 then width (body_at h s) else 0

-- all fields of the white ones among so many members were followed
pub record FollowsWhite (h : Heap) (marks : List ℕ) (r : ℕ) (members : List ℕ) (i : ℕ) (old new : RegionTable)
    (result : Option ℕ) : Type 0
  where
    pub records : new.records ≡ old.records
    pub orphans : ChainsOwned h (IsWhite marks) r members [] old i 0 new result
