-- The forest of the regions as the running machine keeps it; labels decide, not declared types (docs/architecture.md, "Regions").
use Rattle.std.specs.Prelude.{◌≡◌, ◌≢◌, ℕ, ◌⊎◌, ◌==◌, Bool, false, cond, List, Option, Some, None, slice_get, count_by}
use Rattle.rg_base.specs.declared.object.Label.TheVariants.{Frozen}
use Rattle.rg_base.specs.declared.words.Manager.TheVariants.{Count}
use Rattle.rg_cells.specs.declared.cell.Body.{Body}
use Rattle.rg_base.specs.declared.value.Word.{Word}
use Rattle.rg_base.specs.declared.value.Word.TheVariants.{Nil, Int, Bool as Truth, Slot}
use Rattle.rg_cells.specs.Table.{Heap, Table, label_at, field_at, mark_at, total}
use Rattle.rg_regions.specs.Table.{Record, RegionTable, record_at, HasNumber, InTable, IsBridge}
use Rattle.rg_regions.specs.Reach.{LiesIn, belongs}

-- a field of a cell of the one region leads to a cell of another
pub record Parent (h : Heap) (parent child : ℕ) : Type 0 where
  pub differ : parent ≢ child
  pub from : ℕ
  pub field : ℕ
  pub to : ℕ
  pub lies : LiesIn h parent from
  pub leads : field_at h from field ≡ Some (Slot to)
  pub child_has : LiesIn h child to

-- a chain of parents leads from the one region down to the other, by one link or more
pub data Above (h : Heap) : ℕ → ℕ → Type 0 where
  direct : {p r : ℕ} → Parent h p r → Above h p r
  further : {p q r : ℕ} → Above h p q → Parent h q r → Above h p r

-- the region itself, and the regions of the table beneath it
abbrev pub Below : Heap → RegionTable → (top region : ℕ) → Type 0
Below h t top r = (r ≡ top) ⊎ (InTable t r × Above h top r)

-- whether a word leads to a slot
abbrev pub leads_to : ℕ → Word → Bool
leads_to s Nil = false
leads_to s (Int i) = false
leads_to s (Truth b) = false
leads_to s (Slot x) = s == x

-- the number of fields of the cells of a region that lead to a slot
abbrev pub referrers : Heap → (region slot : ℕ) → ℕ
referrers h r s = total (λ b. cond (belongs r b) (led b) 0) h.slots
  where
    led : Option Body → ℕ
    led None = 0
    led (Some b) = count_by (leads_to s) b.fields

-- the members of a region are the held cells that are labelled with it, each once
pub record Members (h : Heap) (r : ℕ) (members : List ℕ) : Type 0 where
  pub lie : (i s : ℕ) → slice_get members i ≡ Some s → LiesIn h r s
  pub all : (s : ℕ) → LiesIn h r s → (i : ℕ) × (slice_get members i ≡ Some s)
  pub once : (i j s : ℕ) → slice_get members i ≡ Some s → slice_get members j ≡ Some s → i ≡ j

-- The forest as the table and the labels keep it, between any two calls of the heap. A field "of a region" is one of a held
-- cell that is labelled with it.
pub record Grove (c : Table) (t : RegionTable) : Type 0 where
  -- one number, one key
  pub numbers : (key other n : ℕ) → HasNumber t key n → HasNumber t other n → key ≡ other
  -- members are the cells of the region, a bridge is one of them, and no cell is labelled with a region outside the table
  pub members : (key : ℕ) (r : Record) → record_at t key ≡ Some r → Members c.heap r.number r.members
  pub bridges : (key s : ℕ) (r : Record) → record_at t key ≡ Some r → r.bridge ≡ Some s → LiesIn c.heap r.number s
  pub labels : (r s : ℕ) → LiesIn c.heap r s → InTable t r
  -- frozen cells lead to frozen cells alone
  pub frozen : (s k to : ℕ) → label_at c.heap s ≡ Some Frozen → field_at c.heap s k ≡ Some (Slot to) → label_at c.heap to ≡ Some Frozen
  -- cells of a region lead to frozen cells, to cells of the region, and to bridges of other regions
  pub fields : (r s k to : ℕ) → LiesIn c.heap r s → field_at c.heap s k ≡ Some (Slot to) →
      (label_at c.heap to ≡ Some Frozen) ⊎ LiesIn c.heap r to ⊎ ((q : ℕ) × (q ≢ r) × LiesIn c.heap q to × IsBridge t q to)
  -- into one region at most one field of the other regions leads, and into region 0 none
  pub one_in : (q p s k to p₂ s₂ k₂ to₂ : ℕ) →
      p ≢ q → LiesIn c.heap p s → field_at c.heap s k ≡ Some (Slot to) → LiesIn c.heap q to →
      p₂ ≢ q → LiesIn c.heap p₂ s₂ → field_at c.heap s₂ k₂ ≡ Some (Slot to₂) → LiesIn c.heap q to₂ → (s ≡ s₂) × (k ≡ k₂)
  pub none_into_first : (p s k to : ℕ) →
      p ≢ 0 → LiesIn c.heap p s → field_at c.heap s k ≡ Some (Slot to) → LiesIn c.heap 0 to → ⊥
  -- no chain of parents comes back to its start
  pub no_cycle : (r : ℕ) → Above c.heap r r → ⊥
  -- the mark of a cell of a counting region is the number of fields of the region that lead to it, and every other mark is 0
  pub counts : (key s : ℕ) (r : Record) →
      record_at t key ≡ Some r → r.manager ≡ Count → LiesIn c.heap r.number s → mark_at c s ≡ referrers c.heap r.number s
  pub unmarked : (s : ℕ) →
      ((key : ℕ) (r : Record) → record_at t key ≡ Some r → r.manager ≡ Count → LiesIn c.heap r.number s → ⊥) → mark_at c s ≡ 0
