-- What stays as it was, and slots that can be written one by one (docs/architecture.md, "Regions").
use Rattle.std.specs.Prelude.{◌≡◌, ◌≢◌, ℕ, ◌<◌, List, length, slice_index}
use Rattle.rg_cells.specs.Table.{Heap, Table, IsHeld, body_at, mark_at, link_at as cell_link_at}
use Rattle.rg_regions.specs.Reach.{LiesIn}
use Rattle.rg_regions.specs.Table.{RegionTable, record_at, link_at}

-- a slot has the body, the mark and the link that it had
abbrev pub IsSameCell : (old new : Table) → (slot : ℕ) → Type 0
IsSameCell old new s =
    (body_at new.heap s ≡ body_at old.heap s) × (mark_at new s ≡ mark_at old s)
    × (cell_link_at new s ≡ cell_link_at old s)

-- cells of other regions keep their links
abbrev pub LinksStay : Heap → (region : ℕ) → (old new : Table) → Type 0
LinksStay h r old new = (s : ℕ) → (LiesIn h r s → ⊥) → cell_link_at new s ≡ cell_link_at old s

-- a key has the record and the link that it had
abbrev pub IsSameRegion : (old new : RegionTable) → (key : ℕ) → Type 0
IsSameRegion old new key = (record_at new key ≡ record_at old key) × (link_at new key ≡ link_at old key)

-- a cell is held at each of some slots, and they differ
abbrev pub AllHeld : Heap → List ℕ → Type 0
AllHeld h slots = (j : ℕ) → j < length slots → IsHeld h (slice_index slots j)

abbrev pub AllDiffer : List ℕ → Type 0
AllDiffer slots = (a b : ℕ) → a < b → b < length slots → slice_index slots a ≢ slice_index slots b
