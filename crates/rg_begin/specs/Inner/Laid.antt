-- The heap on which a behaviour begins, while its contents come (docs/architecture.md, "How a behaviour begins").
use Rattle.std.specs.Prelude.{◌≡◌, ℕ, List, ◌∷◌, ◌++◌, map, take, drop, Some, slice_get}
use Rattle.rg_base.specs.declared.object.Label.TheVariants.{Region}
use Rattle.rg_base.specs.declared.object.Seen.{Seen}
use Rattle.rg_base.specs.declared.words.Manager.TheVariants.{Arena}
use Rattle.rg_base.specs.declared.value.Val.{Val}
use Rattle.rg_base.specs.declared.value.Val.TheVariants.{Nil, Obj}
use Rattle.rg_cells.specs.Table.{HasSerial}
use Rattle.rg_regions.specs.Table.{HasNumber}
use Rattle.rg_frames.specs.declared.rows.Window.{Window}
use Rattle.rg_frames.specs.Stack.{Stack, IsTop}
use Rattle.rg_cown.specs.Cargo.{SoundCargo}
use Rattle.rg_heap.specs.Parts.{Parts}
use Rattle.rg_opening.specs.declared.given.Given.{Given}
use Rattle.rg_opening.specs.declared.given.Given.TheVariants.{Start, Held}
use Rattle.rg_opening.specs.Opening.{field_values, content_objects, content_managers}
use Rattle.rg_view.specs.Numbers.{Numbers, HasBridges}
use Rattle.rg_view.specs.View.{store_of, managers_of}

-- the value of a field before its content comes
abbrev pub start_value : Given → Val
start_value (Start v) = v
start_value (Held c) = Nil

-- the behaviour's object, when the contents of its first fields have come
abbrev pub object_with : (class : ℕ) → List Given → (many : ℕ) → Seen
object_with class given k = record {
  class = class;
  fields = field_values 1 (take k given) ++ map start_value (drop k given);
  label = Region 0;
}

-- what a field begins with may come: a content is sound, and a value leads nowhere
abbrev pub MayCome : Given → Type 0
MayCome (Start v) = (a : ℕ) → v ≡ Obj a → ⊥
MayCome (Held c) = SoundCargo c

abbrev pub AllMayCome : List Given → Type 0
AllMayCome given = (k : ℕ) (g : Given) → slice_get given k ≡ Some g → MayCome g

-- The behaviour's object stands at a slot, in region 0, which is that of the topmost window; and the contents of its first fields have come.
pub record Laid (p : Parts) (v : Stack) (slot class : ℕ) (given : List Given) (k : ℕ) : Type 0 where
  pub numbers : Numbers p.regions
  pub bridges : HasBridges p.regions
  pub window : Window
  pub top : IsTop v window
  pub region : HasNumber p.regions window.region 0
  pub first : HasSerial p.cells.heap slot 0
  pub store : store_of p.cells.heap ≡ object_with class given k ∷ content_objects 1 1 (take k given)
  pub managers : managers_of p.regions ≡ Arena ∷ content_managers (take k given)
