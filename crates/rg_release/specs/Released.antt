-- What a release asks for, which cells and regions go, and what stays (docs/architecture.md, "Release").
use Rattle.std.specs.Prelude.{◌≡◌, ◌≢◌, ℕ, List, Some, None}
use Rattle.rg_base.specs.declared.value.Word.TheVariants.{Slot}
use Rattle.rg_cells.specs.Table.{Heap, Table, body_at, field_at}
use Rattle.rg_regions.specs.Table.{RegionTable, record_at, HasNumber, Has, Chained}
use Rattle.rg_regions.specs.Reach.{LiesIn}
use Rattle.rg_regions.specs.Grove.{Below}
use Rattle.rg_regions.specs.Same.{IsSameCell, IsSameRegion}

-- The regions of some keys are in the table, none of them is region 0, and no field of another region's cell leads into one.
pub record Unowned (h : Heap) (t : RegionTable) (keys : List ℕ) : Type 0 where
  pub there : (key : ℕ) → Has keys key → (n : ℕ) × HasNumber t key n
  pub not_first : (key : ℕ) → Has keys key → HasNumber t key 0 → ⊥
  pub alone : (key q p s k to : ℕ) → Has keys key → HasNumber t key q →
      p ≢ q → LiesIn h p s → field_at h s k ≡ Some (Slot to) → LiesIn h q to → ⊥

-- a region is that of one of some keys, or beneath it
pub record BelowOne (h : Heap) (t : RegionTable) (keys : List ℕ) (q : ℕ) : Type 0 where
  pub key : ℕ
  pub top : ℕ
  pub one : Has keys key
  pub has : HasNumber t key top
  pub below : Below h t top q

-- what holds of the keys that are chained from a head
abbrev pub OnChain : RegionTable → (head : ℕ) → (List ℕ → Type 0) → Type 0
OnChain t head P = (keys : List ℕ) → Chained t.links (Some head) keys → P keys

-- the cells of these regions and of those beneath are freed
abbrev pub CellsGo : (old : Table) → RegionTable → (new : Table) → (keys : List ℕ) → Type 0
CellsGo old t new keys = (q s : ℕ) → BelowOne old.heap t keys q → LiesIn old.heap q s → body_at new.heap s ≡ None

-- every slot without a cell of such a region stays
abbrev pub CellsStay : (old : Table) → RegionTable → (new : Table) → (keys : List ℕ) → Type 0
CellsStay old t new keys = (s : ℕ) → ((q : ℕ) → BelowOne old.heap t keys q → LiesIn old.heap q s → ⊥) → IsSameCell old new s

-- the records of these regions and of those beneath are gone
abbrev pub RecordsGo : Heap → (old new : RegionTable) → (keys : List ℕ) → Type 0
RecordsGo h old new keys = (key q : ℕ) → BelowOne h old keys q → HasNumber old key q → record_at new key ≡ None

-- every key without such a region stays
abbrev pub RecordsStay : Heap → (old new : RegionTable) → (keys : List ℕ) → Type 0
RecordsStay h old new keys = (key : ℕ) → ((q : ℕ) → BelowOne h old keys q → HasNumber old key q → ⊥) → IsSameRegion old new key
