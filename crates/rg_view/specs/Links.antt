-- Regions to which fields lead, as the machine's store shows them (docs/architecture.md, "The machine that frees").
use Rattle.std.specs.Prelude.{◌≡◌, ℕ, true, List, Some, slice_get}
use Rattle.rg_base.specs.declared.object.Label.TheVariants.{Region}
use Rattle.rg_base.specs.declared.object.Seen.{Seen}
use Rattle.rg_base.specs.declared.value.Val.TheVariants.{Obj}
use Rattle.rg_base.specs.declared.value.Val.{Val}
use Rattle.rg_stack.specs.Machine.{Machine}
use Rattle.rg_stack.specs.Needs.{is_top_temp, closed_into}
use Rattle.rg_rules.specs.Regions.{region_at, among}
use Rattle.rg_cells.specs.Table.{Heap}
use Rattle.rg_regions.specs.Table.{RegionTable}
use Rattle.rg_regions.specs.Grove.{Below}

-- a field of an object of the one region leads into the other
pub record Link (store : List Seen) (region to : ℕ) : Type 0 where
  pub object : ℕ
  pub holder : Seen
  pub there : slice_get store object ≡ Some holder
  pub lies : holder.label ≡ Region region
  pub field : ℕ
  pub address : ℕ
  pub value : slice_get holder.fields field ≡ Some (Obj address)
  pub leads : region_at store address ≡ Some to

-- links lead to a region from one of these, or it is one of these
pub data Reached (store : List Seen) (tops : List ℕ) : ℕ → Type 0 where
  first : {r : ℕ} → among tops r ≡ true → Reached store tops r
  next : {p r : ℕ} → Reached store tops p → Link store p r → Reached store tops r

-- a list names exactly the regions that links reach from some
pub record Spans (store : List Seen) (tops regions : List ℕ) : Type 0 where
  pub start : (r : ℕ) → among tops r ≡ true → among regions r ≡ true
  pub along : (p r : ℕ) → among regions p ≡ true → Link store p r → among regions r ≡ true
  pub only : (r : ℕ) → among regions r ≡ true → Reached store tops r

-- a region is one of these, or beneath one
abbrev pub BelowSome : Heap → RegionTable → (tops : List ℕ) → (region : ℕ) → Type 0
BelowSome h t tops r = (top : ℕ) × (among tops top ≡ true) × Below h t top r

-- a closed region into which a field of one of the topmost window's temporaries leads
pub record ByTemp (m : Machine) (region : ℕ) : Type 0 where
  pub object : ℕ
  pub holder : Seen
  pub there : slice_get m.store object ≡ Some holder
  pub temp : is_top_temp m holder.label ≡ true
  pub field : ℕ
  pub value : Val
  pub stands : slice_get holder.fields field ≡ Some value
  pub leads : closed_into m value ≡ Some region
