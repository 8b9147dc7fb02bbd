-- What a collection of one region asks for, and what it leaves, whatever it frees (docs/architecture.md, "Regions").
use Rattle.std.specs.Prelude.{◌≡◌, ◌≢◌, ℕ, List, Option, Some, None, slice_get, slice_index_or, cond}
use Rattle.rg_base.specs.declared.value.Word.{Word}
use Rattle.rg_base.specs.declared.value.Word.TheVariants.{Slot}
use Rattle.rg_base.specs.declared.words.Manager.{Manager}
use Rattle.rg_cells.specs.Table.{Heap, IsHeld, field_at, width, total}
use Rattle.rg_regions.specs.Table.{Record, RegionTable, record_at, HasNumber, Has, Chained}
use Rattle.rg_regions.specs.Reach.{LiesIn, Roots, belongs}

-- the roots of a region
abbrev pub roots_of : Option ℕ → List Word → List ℕ → Roots
roots_of bridge slots temps = record { bridge = bridge; slots = slots; temps = temps }

-- the region of a key is there, with that manager
abbrev pub HasManager : RegionTable → (key : ℕ) → Manager → Type 0
HasManager t key m = (r : Record) × (record_at t key ≡ Some r) × (r.manager ≡ m)

-- what holds of the region of a key
abbrev pub OfRegion : RegionTable → (key : ℕ) → (Record → Type 0) → Type 0
OfRegion t key P = (r : Record) → record_at t key ≡ Some r → P r

-- words lead to held cells; temporaries are held, and their fields lead to held cells
abbrev pub WordsLeadToHeld : Heap → List Word → Type 0
WordsLeadToHeld h words = (k s : ℕ) → slice_get words k ≡ Some (Slot s) → IsHeld h s

abbrev pub AllHeld : Heap → List ℕ → Type 0
AllHeld h temps = (i t : ℕ) → slice_get temps i ≡ Some t → IsHeld h t

abbrev pub TempsLeadToHeld : Heap → List ℕ → Type 0
TempsLeadToHeld h temps = (i t k s : ℕ) → slice_get temps i ≡ Some t → field_at h t k ≡ Some (Slot s) → IsHeld h s

-- a region lost its owner: a cell that was freed has a field that leads into it
pub record Lost (h : Heap) (r : ℕ) (freed : ℕ → Type 0) (q : ℕ) : Type 0 where
  pub slot : ℕ
  pub field : ℕ
  pub to : ℕ
  pub from : LiesIn h r slot
  pub gone : freed slot
  pub leads : field_at h slot field ≡ Some (Slot to)
  pub lies : LiesIn h q to
  pub other : q ≢ r

-- exactly the regions that lost their owner are chained, each once; links of other keys stay
pub record Orphaning (h : Heap) (t : RegionTable) (r : ℕ) (freed : ℕ → Type 0) (links : List (Option ℕ))
    (orphans : Option ℕ)
    (keys : List ℕ) : Type 0 where
  pub chain : Chained links orphans keys
  pub each : (k : ℕ) → Has keys k → (q : ℕ) × HasNumber t k q × Lost h r freed q
  pub all : (q k : ℕ) → Lost h r freed q → HasNumber t k q → Has keys k
  pub apart : (k : ℕ) → (Has keys k → ⊥) → slice_index_or links k None ≡ slice_index_or t.links k None

abbrev pub ChainsOrphans : Heap → RegionTable → ℕ → (freed : ℕ → Type 0) → List (Option ℕ) → Option ℕ → Type 0
ChainsOrphans h t r freed links orphans = (keys : List ℕ) × Orphaning h t r freed links orphans keys

-- the number of fields of a region's cells
abbrev pub region_fields : Heap → (region : ℕ) → ℕ
region_fields h r = total (λ b. cond (belongs r b) (width b) 0) h.slots
