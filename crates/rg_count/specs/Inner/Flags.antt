-- A root is flagged by a link to itself (docs/architecture.md, "Counting").
use Rattle.std.specs.Prelude.{◌≡◌, ℕ, ◌<◌, ◌⊎◌, List, Option, Some, None, slice_get, slice_set, length}
use Rattle.rg_base.specs.declared.value.Word.{Word}
use Rattle.rg_base.specs.declared.value.Word.TheVariants.{Slot}
use Rattle.rg_cells.specs.Table.{Heap, Table, field_at, link_at}
use Rattle.rg_regions.specs.Same.{LinksStay}
use Rattle.rg_regions.specs.Reach.{LiesIn, Roots, Stands}

-- the first of some members link to no cell, and other links stay
pub record Cleared (members : List ℕ) (n : ℕ) (old new : Table) : Type 0 where
  pub heap : new.heap ≡ old.heap
  pub marks : new.marks ≡ old.marks
  pub none : (i s : ℕ) → i < n → slice_get members i ≡ Some s → link_at new s ≡ None
  pub others : (s : ℕ) → ((i : ℕ) → slice_get members i ≡ Some s → ⊥) → link_at new s ≡ link_at old s

-- a word leads to no cell of the region, and nothing changes
pub record Ignores (r : ℕ) (w : Word) (old new : Table) : Type 0 where
  pub none : (s : ℕ) → w ≡ Slot s → LiesIn old.heap r s → ⊥
  pub same : new ≡ old

-- a word leads to a cell of the region, which links to itself from then on
pub record Sets (r : ℕ) (w : Word) (old new : Table) : Type 0 where
  pub slot : ℕ
  pub leads : w ≡ Slot slot
  pub lies : LiesIn old.heap r slot
  pub within : slot < length old.links
  pub new_is : new ≡ record old { links = slice_set old.links slot (Some slot) }

abbrev pub Flags : ℕ → Word → (old new : Table) → Type 0
Flags r w old new = Ignores r w old new ⊎ Sets r w old new

-- Cells of the region with a property, and no other cells, link to themselves from then on.
pub record Flagged (h : Heap) (r : ℕ) (P : ℕ → Type 0) (old new : Table) : Type 0 where
  pub heap : new.heap ≡ h
  pub marks : new.marks ≡ old.marks
  pub links : LinksStay h r old new
  pub found : (s : ℕ) → P s → LiesIn h r s → link_at new s ≡ Some s
  pub only : (s : ℕ) → (link_at new s ≡ link_at old s) ⊎ (P s × (link_at new s ≡ Some s))

-- a slot stands among the first so many words
abbrev pub Among : (ℕ → Option Word) → ℕ → ℕ → Type 0
Among word n s = (k : ℕ) × (k < n) × (word k ≡ Some (Slot s))

-- a slot stands in a field of the first so many temporaries
abbrev pub InTemps : Heap → List ℕ → ℕ → ℕ → Type 0
InTemps h temps n s = (i k temp : ℕ) × (i < n) × (slice_get temps i ≡ Some temp) × (field_at h temp k ≡ Some (Slot s))

-- the cells of a region link to themselves exactly where they are roots
pub record Rooted (h : Heap) (r : ℕ) (roots : Roots) (t : Table) : Type 0 where
  pub all : (s : ℕ) → LiesIn h r s → Stands h roots s → link_at t s ≡ Some s
  pub only : (s : ℕ) → LiesIn h r s → link_at t s ≡ Some s → Stands h roots s
