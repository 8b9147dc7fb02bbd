-- How marks follow a field that is about to be written (docs/architecture.md, "The heap").
use Rattle.std.specs.Prelude.{◌≡◌, ℕ, ◌+◌, ◌⊎◌, cond, Some, option_map}
use Rattle.rg_base.specs.declared.value.Word.{Word}
use Rattle.rg_base.specs.declared.value.Word.TheVariants.{Slot}
use Rattle.rg_cells.specs.Table.{Heap, Table, field_at, mark_at}
use Rattle.rg_base.specs.declared.words.Manager.TheVariants.{Count}
use Rattle.rg_regions.specs.Table.{Record, RegionTable, HasNumber, record_at}
use Rattle.rg_regions.specs.Reach.{LiesIn}
use Rattle.rg_regions.specs.Grove.{leads_to}
use Rattle.rg_heap.specs.Writes.{Stays, IsCounting}
use Rattle.rg_heap.specs.Ends.{IsTemp}

-- the cell at a slot lies in the region of a key, where the word may stand in a field, or it is a temporary
abbrev pub MayWrite : Heap → RegionTable → (key slot : ℕ) → Word → Type 0
MayWrite h t key slot w = ((n : ℕ) × HasNumber t key n × LiesIn h n slot × Stays h n w) ⊎ IsTemp h slot

-- the region of a key counts
abbrev pub Counts : RegionTable → (key : ℕ) → Type 0
Counts t key = option_map (λ (r : Record). r.manager) (record_at t key) ≡ Some Count

-- one where a word leads to a slot
abbrev pub leads_once : ℕ → Word → ℕ
leads_once s w = cond (leads_to s w) 1 0

-- a word leads to no object
abbrev pub LeadsNowhere : Word → Type 0
LeadsNowhere w = (s : ℕ) → w ≡ Slot s → ⊥

-- the marks are those behind the write; bodies are as they were
pub record Recounts (c : Table) (t : RegionTable) (cells : Table) (slot k : ℕ) (w : Word) : Type 0 where
  pub heap : cells.heap ≡ c.heap
  pub recounted : (r s : ℕ) (old : Word) → field_at c.heap slot k ≡ Some old → LiesIn c.heap r slot → IsCounting t r → LiesIn c.heap r s →
      mark_at cells s + leads_once s old ≡ mark_at c s + leads_once s w
  pub uncounted : (s : ℕ) → ((r : ℕ) → LiesIn c.heap r slot → IsCounting t r → LiesIn c.heap r s → ⊥) → mark_at cells s ≡ mark_at c s
