-- A word of a region's cell leads into another region, which becomes the head of a chain (docs/architecture.md,
-- "Regions").
use Rattle.std.specs.Prelude.{◌≡◌, ◌≢◌, ℕ, ◌⊎◌, ◌<◌, List, length, Option, Some, slice_index, slice_set}
use Rattle.rg_base.specs.declared.value.Word.{Word}
use Rattle.rg_base.specs.declared.value.Word.TheVariants.{Slot}
use Rattle.rg_cells.specs.Table.{Heap, field_at, IsHeld}
use Rattle.rg_regions.specs.Table.{RegionTable, HasNumber, InTable}
use Rattle.rg_regions.specs.Reach.{LiesIn}

-- every region that has a cell is in the table
abbrev pub AllInTable : Heap → RegionTable → Type 0
AllInTable h t = (q s : ℕ) → LiesIn h q s → InTable t q

-- the fields of a region's cells lead to held cells
abbrev pub LeadsToHeld : Heap → (region : ℕ) → Type 0
LeadsToHeld h r = (p k s : ℕ) → LiesIn h r p → field_at h p k ≡ Some (Slot s) → IsHeld h s

-- into each other region at most one field of a region's cells leads
abbrev pub LeadsOnce : Heap → (region : ℕ) → Type 0
LeadsOnce h r = (q s k to s₂ k₂ to₂ : ℕ) → q ≢ r → LiesIn h r s → field_at h s k ≡ Some (Slot to) → LiesIn h q to →
    LiesIn h r s₂ → field_at h s₂ k₂ ≡ Some (Slot to₂) → LiesIn h q to₂ → (s ≡ s₂) × (k ≡ k₂)

-- the members of a region are cells of it, each once, and into each other region at most one of their fields leads
pub record OwnsOnce (h : Heap) (r : ℕ) (members : List ℕ) : Type 0 where
  pub one : LeadsOnce h r
  pub lie : (j : ℕ) → j < length members → LiesIn h r (slice_index members j)
  pub once : (a b : ℕ) → a < length members → b < length members → slice_index members a ≡ slice_index members b → a ≡ b

-- the region of a number becomes the head of the chain
pub record PutFirst (old : RegionTable) (number : ℕ) (head result : Option ℕ) (new : RegionTable) : Type 0 where
  pub key : ℕ
  pub is : result ≡ Some key
  pub has : HasNumber old key number
  pub only : (k : ℕ) → HasNumber old k number → k ≡ key
  pub within : key < length old.links
  pub new_is : new ≡ record old { links = slice_set old.links key head }

-- a word leads into no other region, and nothing changes
pub record StaysWithin (h : Heap) (r : ℕ) (w : Word) (head result : Option ℕ) (old new : RegionTable) : Type 0 where
  pub none : (to q : ℕ) → w ≡ Slot to → LiesIn h q to → q ≢ r → ⊥
  pub same : new ≡ old
  pub head_is : result ≡ head

-- a word leads into another region, which becomes the head of the chain
pub record LeadsOut (h : Heap) (r : ℕ) (w : Word) (head result : Option ℕ) (old new : RegionTable) : Type 0 where
  pub to : ℕ
  pub number : ℕ
  pub leads : w ≡ Slot to
  pub lies : LiesIn h number to
  pub other : number ≢ r
  pub chains : PutFirst old number head result new

-- a word of a region's cell was followed
abbrev pub Follows : Heap → ℕ → Word → (head result : Option ℕ) → (old new : RegionTable) → Type 0
Follows h r w head result old new = StaysWithin h r w head result old new ⊎ LeadsOut h r w head result old new
