-- The cells of a region that counting frees: those to which nothing but spent cells leads (docs/architecture.md, "Regions").
use Rattle.std.specs.Prelude.{◌≡◌, ℕ, ◌<◌, List, Some, slice_get}
use Rattle.rg_base.specs.declared.value.Word.TheVariants.{Slot}
use Rattle.rg_cells.specs.Table.{Heap, field_at}
use Rattle.rg_regions.specs.Reach.{LiesIn, Roots, Stands}

-- A list of cells of a region, without repeats: none of them is a root, and each cell of the region with a field that leads
-- to a cell of the list stands earlier in it.
pub record IsSpentOrder (h : Heap) (r : ℕ) (roots : Roots) (order : List ℕ) : Type 0 where
  pub lie : (i s : ℕ) → slice_get order i ≡ Some s → LiesIn h r s
  pub once : (i j s : ℕ) → slice_get order i ≡ Some s → slice_get order j ≡ Some s → i ≡ j
  pub no_root : (i s : ℕ) → slice_get order i ≡ Some s → Stands h roots s → ⊥
  pub earlier : (i s p k : ℕ) →
      slice_get order i ≡ Some s → LiesIn h r p → field_at h p k ≡ Some (Slot s) → (j : ℕ) × (j < i) × (slice_get order j ≡ Some p)

-- a cell that stands in such a list; cycles never do
abbrev pub Spent : Heap → (region : ℕ) → Roots → (slot : ℕ) → Type 0
Spent h r roots s = (order : List ℕ) × IsSpentOrder h r roots order × ((i : ℕ) × (slice_get order i ≡ Some s))
