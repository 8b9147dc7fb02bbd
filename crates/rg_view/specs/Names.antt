-- Which regions and which cells go (docs/architecture.md, "The machine that frees").
use Rattle.std.specs.Prelude.{◌≡◌, ℕ, true, List, Option, Some}
use Rattle.rg_base.specs.declared.object.Label.TheVariants.{Temp}
use Rattle.rg_rules.specs.Regions.{among}
use Rattle.rg_cells.specs.Table.{Heap, label_at}

-- a list names exactly some regions
pub record Names (regions : List ℕ) (Region : ℕ → Type 0) : Type 0 where
  pub all : (q : ℕ) → Region q → among regions q ≡ true
  pub only : (q : ℕ) → among regions q ≡ true → Region q

-- some cells are exactly the temporaries of a window, if one is named
pub record AreTemps (h : Heap) (temps : Option ℕ) (Cell : ℕ → Type 0) : Type 0 where
  pub all : (s n : ℕ) → label_at h s ≡ Some (Temp n) → temps ≡ Some n → Cell s
  pub only : (s : ℕ) → Cell s → (n : ℕ) × (label_at h s ≡ Some (Temp n)) × (temps ≡ Some n)
