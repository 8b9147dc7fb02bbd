-- The cells of a region that its roots reach: what a collection by mark and sweep keeps (docs/architecture.md, "Regions").
use Rattle.std.specs.Prelude.{◌≡◌, ℕ, zero, suc, ◌≤◌, ◌==◌, Bool, false, cond, List, Option, Some, None, slice_get}
use Rattle.rg_base.specs.declared.object.Label.{Label}
use Rattle.rg_base.specs.declared.object.Label.TheVariants.{Region, Temp, Frozen}
use Rattle.rg_cells.specs.declared.cell.Body.{Body}
use Rattle.rg_base.specs.declared.value.Word.{Word}
use Rattle.rg_base.specs.declared.value.Word.TheVariants.{Slot}
use Rattle.rg_cells.specs.Table.{Heap, label_at, field_at, total}

-- the cell at a slot is labelled with a region
abbrev pub LiesIn : Heap → (region slot : ℕ) → Type 0
LiesIn h r s = label_at h s ≡ Some (Region r)

-- where the roots of a region are looked for: its bridge, the slots of frames, and temporaries
pub record Roots : Type 0 where
  pub bridge : Option ℕ
  pub slots : List Word
  pub temps : List ℕ

-- A slot is the bridge, stands in the slots, or stands in a field of a temporary; a cell of the region there is a root.
pub data Stands (h : Heap) (roots : Roots) (s : ℕ) : Type 0 where
  is_bridge : roots.bridge ≡ Some s → Stands h roots s
  in_slots : (k : ℕ) → slice_get roots.slots k ≡ Some (Slot s) → Stands h roots s
  in_temps : (i k temp : ℕ) → slice_get roots.temps i ≡ Some temp → field_at h temp k ≡ Some (Slot s) → Stands h roots s

-- a cell at the end of a path of so many links from a root, through fields between cells of the region
abbrev pub Walk : Heap → (region : ℕ) → Roots → (links slot : ℕ) → Type 0
Walk h r roots zero s = LiesIn h r s × Stands h roots s
Walk h r roots (suc n) s = LiesIn h r s × ((p k : ℕ) × Walk h r roots n p × (field_at h p k ≡ Some (Slot s)))

-- whether a label is that of a region
abbrev pub is_region : ℕ → Label → Bool
is_region r (Region q) = r == q
is_region r (Temp n) = false
is_region r Frozen = false

-- whether a body belongs to a region
abbrev pub belongs : ℕ → Option Body → Bool
belongs r None = false
belongs r (Some b) = is_region r b.label

-- the number of cells of a region
abbrev pub region_size : Heap → ℕ → ℕ
region_size h r = total (λ b. cond (belongs r b) 1 0) h.slots

-- what the roots of a region reach, by at most as many links as it has cells
abbrev pub Reach : Heap → (region : ℕ) → Roots → (slot : ℕ) → Type 0
Reach h r roots s = (n : ℕ) × (n ≤ region_size h r) × Walk h r roots n s

-- a cell isn't in reach
abbrev pub OutOfReach : Heap → (region : ℕ) → Roots → (slot : ℕ) → Type 0
OutOfReach h r roots s = Reach h r roots s → ⊥
