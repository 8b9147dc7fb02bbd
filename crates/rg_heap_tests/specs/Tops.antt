-- What a test of regions a thousand deep builds (docs/architecture.md, "Tests").
use Rattle.std.specs.Prelude.{◌≡◌, ◌≢◌, ℕ, Some, None}
use Rattle.rg_base.specs.declared.value.Word.{Word}
use Rattle.rg_base.specs.declared.value.Word.TheVariants.{Slot}
use Rattle.rg_cells.specs.Table.{Table, field_at}
use Rattle.rg_regions.specs.Table.{RegionTable, link_at, HasNumber, IsBridge}
use Rattle.rg_regions.specs.Reach.{LiesIn}

-- the region of a number has that key and that bridge, no link, and no field of another region's cell leads into it
pub record IsTop (c : Table) (t : RegionTable) (number key slot : ℕ) : Type 0 where
  pub has : HasNumber t key number
  pub lies : LiesIn c.heap number slot
  pub bridge : IsBridge t number slot
  pub unlinked : link_at t key ≡ None
  pub alone : (p s k to : ℕ) → p ≢ number → LiesIn c.heap p s → field_at c.heap s k ≡ Some (Slot to) → LiesIn c.heap number to → ⊥

-- the region of a key has a number above 0, that bridge and no owner
abbrev pub IsAbove : Table → RegionTable → (key slot : ℕ) → Type 0
IsAbove c t key slot = (n : ℕ) × (n ≢ 0) × IsTop c t n key slot

-- a word leads to the bridge of such a region, but for region 0, or to no cell
abbrev pub LeadsToTop : Table → RegionTable → Word → Type 0
LeadsToTop c t w = (slot : ℕ) → w ≡ Slot slot → (number : ℕ) × (key : ℕ) × (number ≢ 0) × IsTop c t number key slot
