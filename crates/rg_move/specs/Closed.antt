-- What freeze and merge ask for (docs/architecture.md, "Freeze and merge").
use Rattle.std.specs.Prelude.{◌≡◌, ◌≢◌, ℕ, Some}
use Rattle.rg_base.specs.declared.value.Word.TheVariants.{Slot}
use Rattle.rg_cells.specs.Table.{Heap, field_at}
use Rattle.rg_regions.specs.Table.{RegionTable, HasNumber}
use Rattle.rg_regions.specs.Reach.{LiesIn}
use Rattle.rg_regions.specs.Grove.{Below}

-- The region of a key is in the table, it isn't region 0, and no field of another region's cell leads into it.
pub record Closed (h : Heap) (t : RegionTable) (key : ℕ) : Type 0 where
  pub number : ℕ
  pub has : HasNumber t key number
  pub not_first : number ≢ 0
  pub alone : (p s k to : ℕ) → p ≢ number → LiesIn h p s → field_at h s k ≡ Some (Slot to) → LiesIn h number to → ⊥

-- a region is that of a key, or beneath it
abbrev pub BelowKey : Heap → RegionTable → (key region : ℕ) → Type 0
BelowKey h t key q = (top : ℕ) × HasNumber t key top × Below h t top q
