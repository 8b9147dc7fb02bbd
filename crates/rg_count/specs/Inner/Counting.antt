-- Counting down: the invariant of deferred counting (docs/architecture.md, "Counting").
use Rattle.std.specs.Prelude.{◌≡◌, ◌≢◌, ℕ, ◌+◌, ◌-◌, ◌<◌, ◌⊎◌, ⊤, cond, List, [], ◌∷◌, ◌++◌, Option, Some, None}
use Rattle.std.specs.Prelude.{count_by, drop, sum_by, slice_get, slice_set, length}
use Rattle.rg_cells.specs.declared.cell.Body.{Body}
use Rattle.rg_base.specs.declared.value.Word.{Word}
use Rattle.rg_base.specs.declared.value.Word.TheVariants.{Slot}
use Rattle.rg_cells.specs.Table.{Heap, Table, body_at, field_at, mark_at, link_at, width}
use Rattle.rg_regions.specs.Table.{RegionTable, Has, Chained}
use Rattle.rg_regions.specs.Reach.{LiesIn, Roots, Stands, belongs}
use Rattle.rg_regions.specs.Grove.{leads_to, referrers}
use Rattle.rg_regions.specs.Owned.{Every, ChainsOwned}

-- the fields of a body
abbrev pub words_of : Option Body → List Word
words_of None = []
words_of (Some b) = b.fields

-- how many fields of a body lead to a slot, where the body belongs to the region
abbrev pub weight : (region slot : ℕ) → Option Body → ℕ
weight r s b = cond (belongs r b) (count_by (leads_to s) (words_of b)) 0

-- how many fields of these cells lead to a slot
abbrev pub paid : Heap → (region slot : ℕ) → List ℕ → ℕ
paid h r s done = sum_by (λ p. weight r s (body_at h p)) done

-- how many of a cell's fields from a place on lead to a slot
abbrev pub owed : Heap → (from place slot : ℕ) → ℕ
owed h p k s = count_by (leads_to s) (drop k (words_of (body_at h p)))

abbrev pub nothing : ℕ → ℕ
nothing s = 0

-- Cells that are done, the last one first: each is no root, and the cells of the region that lead to it were done
-- before it.
abbrev pub Spends : Heap → ℕ → Roots → List ℕ → Type 0
Spends h r roots [] = ⊤
Spends h r roots (s ∷ done) =
    LiesIn h r s × (Stands h roots s → ⊥) × (Has done s → ⊥)
    × ((p k : ℕ) → LiesIn h r p → field_at h p k ≡ Some (Slot s) → Has done p) × Spends h r roots done

-- the same cells in the order in which they were done
abbrev pub in_turn : List ℕ → List ℕ
in_turn [] = []
in_turn (s ∷ done) = in_turn done ++ s ∷ []

-- The mark of a cell is the number of its referrers without those that are done; of the cell that is at work the rest
-- is owed. The cells without a count that are no roots are done, or stand in the zero list. Roots link to themselves.
pub record Counts (h : Heap) (r : ℕ) (roots : Roots) (first : Table) (rest : ℕ → ℕ) (done zeros : List ℕ) (t : Table)
    (head : Option ℕ) : Type 0 where
  pub heap : t.heap ≡ h
  pub sum : (x : ℕ) → LiesIn h r x → mark_at t x + paid h r x done ≡ referrers h r x + rest x
  pub spends : Spends h r roots done
  pub chain : Chained t.links head zeros
  pub zero_lies : (x : ℕ) → Has zeros x → LiesIn h r x
  pub zero_mark : (x : ℕ) → Has zeros x → mark_at t x ≡ 0
  pub zero_root : (x : ℕ) → Has zeros x → Stands h roots x → ⊥
  pub zero_done : (x : ℕ) → Has zeros x → Has done x → ⊥
  pub done_mark : (x : ℕ) → Has done x → mark_at t x ≡ 0
  pub all : (x : ℕ) → LiesIn h r x → mark_at t x ≡ 0 → (Stands h roots x → ⊥) → Has done x ⊎ Has zeros x
  pub rooted : (x : ℕ) → LiesIn h r x → Stands h roots x → link_at t x ≡ Some x
  pub only : (x : ℕ) → LiesIn h r x → link_at t x ≡ Some x → Stands h roots x
  pub outside : (x : ℕ) → (LiesIn h r x → ⊥) → (mark_at t x ≡ mark_at first x) × (link_at t x ≡ link_at first x)

-- a word leads to no cell of the region, and nothing changes
pub record Passes (r : ℕ) (w : Word) (head result : Option ℕ) (old new : Table) : Type 0 where
  pub none : (s : ℕ) → w ≡ Slot s → LiesIn old.heap r s → ⊥
  pub same : new ≡ old
  pub head_is : result ≡ head

-- a word leads to a cell of the region, whose count falls, and which is left where it is
pub record Leaves (r : ℕ) (w : Word) (head result : Option ℕ) (old new : Table) : Type 0 where
  pub slot : ℕ
  pub leads : w ≡ Slot slot
  pub lies : LiesIn old.heap r slot
  pub within : slot < length old.marks
  pub stays : (mark_at old slot - 1 ≢ 0) ⊎ (link_at old slot ≡ Some slot)
  pub new_is : new ≡ record old { marks = slice_set old.marks slot (mark_at old slot - 1) }
  pub head_is : result ≡ head

-- a word leads to a cell of the region whose count falls to 0, and which is put on the zero list
pub record Falls (r : ℕ) (w : Word) (head result : Option ℕ) (old new : Table) : Type 0 where
  pub slot : ℕ
  pub leads : w ≡ Slot slot
  pub lies : LiesIn old.heap r slot
  pub within : slot < length old.marks
  pub in_links : slot < length old.links
  pub last : mark_at old slot - 1 ≡ 0
  pub no_root : link_at old slot ≢ Some slot
  pub new_is : new ≡ record old {
    marks = slice_set old.marks slot (mark_at old slot - 1);
    links = slice_set old.links slot head;
  }
  pub head_is : result ≡ Some slot

abbrev pub Lowers : ℕ → Word → (head result : Option ℕ) → (old new : Table) → Type 0
Lowers r w head result old new = Passes r w head result old new ⊎ Leaves r w head result old new
    ⊎ Falls r w head result old new

-- so many fields of the cell that is at work were looked at
pub record Lowered (h : Heap) (r slot k : ℕ) (old new : Table) (head result : Option ℕ) : Type 0 where
  pub heap : new.heap ≡ h
  pub counts : (roots : Roots) (first : Table) (done zeros : List ℕ)
      → Counts h r roots first (owed h slot 0) done zeros old head →
      (now : List ℕ) × Counts h r roots first (owed h slot k) done now new result

-- the cell at work may be counted down: its fields are counted
pub record IsReady (h : Heap) (r slot : ℕ) (t : Table) (head : Option ℕ) : Type 0 where
  pub roots : Roots
  pub first : Table
  pub done : List ℕ
  pub zeros : List ℕ
  pub is : Counts h r roots first (owed h slot 0) done zeros t head

-- Of the first so many members those without a count that are no roots stand in the zero list.
pub record Listed (members : List ℕ) (n : ℕ) (old new : Table) (head : Option ℕ) : Type 0 where
  pub zeros : List ℕ
  pub heap : new.heap ≡ old.heap
  pub marks : new.marks ≡ old.marks
  pub chain : Chained new.links head zeros
  pub each : (x : ℕ) → Has zeros x → (i : ℕ) × (i < n) × (slice_get members i ≡ Some x) × (mark_at old x ≡ 0)
      × (link_at old x ≢ Some x)
  pub all : (i x : ℕ) → i < n → slice_get members i ≡ Some x → mark_at old x ≡ 0 → link_at old x ≢ Some x → Has zeros x
  pub same : (x : ℕ) → (Has zeros x → ⊥) → link_at new x ≡ link_at old x
  pub off : (x : ℕ) → Has zeros x → link_at new x ≢ Some x

-- The counting down of a region goes on: what was done, the zero list, the regions without an owner, and how many cells
-- are left at most.
pub record Down (h : Heap) (r : ℕ) (roots : Roots) (first : Table) (before : RegionTable) (most start : ℕ) (t : Table)
    (regions : RegionTable) (zero orphans : Option ℕ) (left steps : ℕ) : Type 0 where
  pub done : List ℕ
  pub zeros : List ℕ
  pub counts : Counts h r roots first nothing done zeros t zero
  pub owned : ChainsOwned h Every r (in_turn done) [] before (length (in_turn done)) 0 regions orphans
  pub bound : left + length done ≡ most
  pub cost : steps ≡ start + sum_by (λ p. width (body_at h p)) done

-- A region is counted down: no zero is left.
pub record CountedDown (h : Heap) (r : ℕ) (roots : Roots) (first : Table) (before : RegionTable) (start : ℕ) (t : Table)
    (regions : RegionTable) (orphans : Option ℕ) (steps : ℕ) : Type 0 where
  pub done : List ℕ
  pub counts : Counts h r roots first nothing done [] t None
  pub owned : ChainsOwned h Every r (in_turn done) [] before (length (in_turn done)) 0 regions orphans
  pub cost : steps ≡ start + sum_by (λ p. width (body_at h p)) done
