-- What marking asks for and leaves: white cells have the mark 0, black ones 2 (docs/architecture.md, "Mark and sweep").
use Rattle.std.specs.Prelude.{◌≡◌, ℕ, zero, suc, ◌+◌, ◌<◌, cond, List, [], ◌∷◌, Option, Some}
use Rattle.rg_cells.specs.declared.cell.Body.{Body}
use Rattle.rg_base.specs.declared.value.Word.TheVariants.{Slot}
use Rattle.rg_cells.specs.Table.{Heap, Table, field_at, body_in, width, mark_at, link_at}
use Rattle.rg_regions.specs.Reach.{LiesIn, Roots, Reach, belongs}

-- no cell of a region has a mark
abbrev pub AllWhite : Table → (region : ℕ) → Type 0
AllWhite c r = (s : ℕ) → LiesIn c.heap r s → mark_at c s ≡ 0

-- the weight, where the mark is black
abbrev pub if_black : ℕ → ℕ → ℕ
if_black w zero = 0
if_black w (suc zero) = 0
if_black w (suc (suc n)) = w

-- the slots together, each weighed with its mark
abbrev pub weighed : (Option Body → ℕ → ℕ) → List (Option (Option Body)) → List ℕ → ℕ
weighed f [] ms = 0
weighed f (x ∷ xs) [] = f (body_in x) 0 + weighed f xs []
weighed f (x ∷ xs) (m ∷ ms) = f (body_in x) m + weighed f xs ms

-- the fields of the black cells of a region
abbrev pub black_fields : Heap → ℕ → List ℕ → ℕ
black_fields h r marks = weighed (λ b m. cond (belongs r b) (if_black (width b) m) 0) h.slots marks

-- a region is marked: the cells in reach are black, its other cells are white, and no other mark or link changed
pub record Marked (h : Heap) (r : ℕ) (roots : Roots) (old new : Table) : Type 0 where
  pub heap : new.heap ≡ h
  pub reached : (s : ℕ) → Reach h r roots s → 1 < mark_at new s
  pub only : (s : ℕ) → LiesIn h r s → 0 < mark_at new s → Reach h r roots s
  pub closed : (s k to : ℕ) → LiesIn h r s → 1 < mark_at new s → field_at h s k ≡ Some (Slot to) → LiesIn h r to
      → 1 < mark_at new to
  pub outside : (s : ℕ) → (LiesIn h r s → ⊥) → (mark_at new s ≡ mark_at old s) × (link_at new s ≡ link_at old s)
