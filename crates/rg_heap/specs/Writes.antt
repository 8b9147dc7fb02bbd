-- What may be written into a field, and what a write does to marks (docs/architecture.md, "The heap").
use Rattle.std.specs.Prelude.{◌≡◌, ◌≢◌, ℕ, ◌⊎◌, cond, Some}
use Rattle.rg_base.specs.declared.words.Manager.TheVariants.{Count}
use Rattle.rg_base.specs.declared.object.Label.TheVariants.{Frozen}
use Rattle.rg_base.specs.declared.value.Word.{Word}
use Rattle.rg_base.specs.declared.value.Word.TheVariants.{Slot}
use Rattle.rg_cells.specs.Table.{Heap, body_at, label_at, field_at}
use Rattle.rg_regions.specs.Table.{Record, RegionTable, record_at, HasNumber, IsBridge}
use Rattle.rg_regions.specs.Reach.{LiesIn, belongs}
use Rattle.rg_regions.specs.Grove.{Above, leads_to}
use Rattle.rg_frames.specs.declared.rows.Window.{Window}
use Rattle.rg_frames.specs.Stack.{Stack, IsTop}

-- a word that isn't a reference, or that leads to a frozen cell or into the region
abbrev pub Stays : Heap → (region : ℕ) → Word → Type 0
Stays h r w = (to : ℕ) → w ≡ Slot to → (label_at h to ≡ Some Frozen) ⊎ LiesIn h r to

-- a slot is the bridge of a region, not region 0, into which no field of another region's cell leads
pub record Ownerless (h : Heap) (t : RegionTable) (region slot : ℕ) : Type 0 where
  pub lies : LiesIn h region slot
  pub bridge : IsBridge t region slot
  pub not_first : region ≢ 0
  pub alone : (p s k to : ℕ) → p ≢ region → LiesIn h p s → field_at h s k ≡ Some (Slot to) → LiesIn h region to → ⊥

-- a word that isn't a reference, or that leads to the bridge of another region without an owner, not above this one
abbrev pub Comes : Heap → RegionTable → (region : ℕ) → Word → Type 0
Comes h t r w = (to : ℕ) → w ≡ Slot to → (q : ℕ) × Ownerless h t q to × (q ≢ r) × (Above h q r → ⊥)

-- the cell at a slot lies in the active region, where this holds of the region's number
abbrev pub InActive : Heap → RegionTable → Stack → (slot : ℕ) → ((number : ℕ) → Type 0) → Type 0
InActive h t v slot P = (w : Window) × (n : ℕ) × IsTop v w × HasNumber t w.region n × LiesIn h n slot × P n

-- a field doesn't lead into the region
abbrev pub LeadsOut : Heap → (slot k region : ℕ) → Type 0
LeadsOut h slot k r = (to : ℕ) → field_at h slot k ≡ Some (Slot to) → LiesIn h r to → ⊥

-- one where a word leads to a slot that lies in a region
abbrev pub counted : Heap → (region : ℕ) → Word → (slot : ℕ) → ℕ
counted h r w s = cond (leads_to s w) (cond (belongs r (body_at h s)) 1 0) 0

-- a region of the table counts the fields that lead to its cells
abbrev pub IsCounting : RegionTable → (region : ℕ) → Type 0
IsCounting t r = (key : ℕ) × (rec : Record) × (record_at t key ≡ Some rec) × (rec.number ≡ r) × (rec.manager ≡ Count)
