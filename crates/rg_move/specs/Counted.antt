-- The fields of cells that are counted in the marks of a region (docs/architecture.md, "Freeze and merge").
use Rattle.std.specs.Prelude.{◌≡◌, ℕ, ◌+◌, ◌<◌, ◌^◌, List, Some, None, Option, cond, sum_by, count_by}
use Rattle.rg_base.specs.declared.words.Manager.{Manager}
use Rattle.rg_base.specs.declared.words.Manager.TheVariants.{Count}
use Rattle.rg_cells.specs.declared.cell.Body.{Body}
use Rattle.rg_cells.specs.Table.{Heap, Table, body_at, mark_at}
use Rattle.rg_regions.specs.Reach.{LiesIn, belongs}
use Rattle.rg_regions.specs.Grove.{leads_to}

-- the number of the fields of a body that lead to a slot
abbrev pub led : (slot : ℕ) → Option Body → ℕ
led x None = 0
led x (Some b) = count_by (leads_to x) b.fields

-- the number of the fields of some cells that lead to a slot
abbrev pub led_by : Heap → (slots : List ℕ) → (slot : ℕ) → ℕ
led_by h slots x = sum_by (λ s. led x (body_at h s)) slots

-- the mark of each cell of a region has grown, and nothing else changed
pub record Grown (r : ℕ) (old : Table) (by : ℕ → ℕ) (new : Table) : Type 0 where
  pub heap : new.heap ≡ old.heap
  pub links : new.links ≡ old.links
  pub marks : (x : ℕ) → mark_at new x ≡ mark_at old x + cond (belongs r (body_at old.heap x)) (by x) 0

-- there is room in the marks of a region's cells for what is counted
abbrev pub HasRoomFor : (r : ℕ) → Table → (by : ℕ → ℕ) → Type 0
HasRoomFor r t by = (x : ℕ) → LiesIn t.heap r x → 0 < by x → mark_at t x + by x < 2 ^ 64

-- the fields of some cells were counted where a manager counts, and else nothing changed
pub record Counts (m : Manager) (r : ℕ) (old : Table) (members : List ℕ) (new : Table) : Type 0 where
  pub counted : m ≡ Count → Grown r old (led_by old.heap members) new
  pub same : (m ≡ Count → ⊥) → new ≡ old
