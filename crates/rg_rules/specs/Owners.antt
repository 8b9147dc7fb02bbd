-- Where owner references stand, the forest of the regions, and the regions that are live (docs/language.md, "Steps").
use Rattle.std.specs.Prelude.{◌≡◌, ℕ, Bool as Truth, false, List, [], ◌∷◌, ◌++◌, length, map, filter_map, Option, Some, None, option_and_then}
use Rattle.std.specs.Prelude.{slice_get}
use Rattle.rg_base.specs.declared.object.Label.{Label}
use Rattle.rg_base.specs.declared.object.Label.TheVariants.{Region, Temp, Frozen}
use Rattle.rg_base.specs.declared.object.Seen.{Seen}
use Rattle.rg_base.specs.declared.object.Place.{Place}
use Rattle.rg_base.specs.declared.object.Place.TheVariants.{Var, Field}
use Rattle.rg_tree.specs.Tree.{Field as FieldOfClass, Class}
use Rattle.rg_rules.specs.Types.{fields_of}
use Rattle.rg_rules.specs.State.{Local, Frame, Window, State, frame_at}
use Rattle.rg_rules.specs.Regions.{region_at, owned, owned_as, led_from, among, joined_with, beneath}

-- the address to which the owner reference in a variable leads, where it has one
abbrev pub owned_by_local : Local → Option ℕ
owned_by_local l = owned l.ty l.value

-- the address to which an owner reference in a field of an object leads, whatever the object's label
abbrev pub owned_by_slot : List Class → Seen → (field : ℕ) → Option ℕ
owned_by_slot classes o k =
    option_and_then (λ (f : FieldOfClass). option_and_then (owned_as classes f) (slice_get o.fields k)) (slice_get (fields_of classes o.class) k)

-- the address to which the owner reference in a field of an object leads; a frozen object has none
abbrev pub owned_by_field : List Class → Seen → (field : ℕ) → Option ℕ
owned_by_field classes o k = elim (o.label) [ Region r ↦ owned_by_slot classes o k | Temp n ↦ owned_by_slot classes o k | Frozen ↦ None ]

-- the address to which the owner reference in a field of the object at an address leads
abbrev pub owned_in_field : List Class → List Seen → (object field : ℕ) → Option ℕ
owned_in_field classes store a k = option_and_then (λ (o : Seen). owned_by_field classes o k) (slice_get store a)

-- the address to which the owner reference in a variable of the frame of a number leads
abbrev pub owned_in_frame : List Frame → (frame slot : ℕ) → Option ℕ
owned_in_frame frames n i = option_and_then owned_by_local (option_and_then (λ (f : Frame). slice_get f.locals i) (frame_at frames n))

-- the address to which the owner reference at a place leads
abbrev pub owned_at : List Class → List Seen → List Frame → Place → Option ℕ
owned_at classes store frames (Var n i) = owned_in_frame frames n i
owned_at classes store frames (Field a k) = owned_in_field classes store a k

-- the region into which the owner reference at a place leads
abbrev pub leads_into : List Class → List Seen → List Frame → Place → Option ℕ
leads_into classes store frames p = option_and_then (region_at store) (owned_at classes store frames p)

-- an object of the one region holds an owner reference into the other
pub record Parent (classes : List Class) (store : List Seen) (parent child : ℕ) : Type 0 where
  pub object : ℕ
  pub field : ℕ
  pub lies : region_at store object ≡ Some parent
  pub leads : option_and_then (region_at store) (owned_in_field classes store object field) ≡ Some child

-- a chain of parents leads from the one region down to the other
pub data Above (classes : List Class) (store : List Seen) : ℕ → ℕ → Type 0 where
  direct : {p r : ℕ} → Parent classes store p r → Above classes store p r
  further : {p q r : ℕ} → Above classes store p q → Parent classes store q r → Above classes store p r

-- no two owner references lead into one region, none leads into region 0, and no chain of parents comes back to its start
pub record Forest (classes : List Class) (store : List Seen) (frames : List Frame) : Type 0 where
  pub one_owner : (p q : Place) (r : ℕ) → leads_into classes store frames p ≡ Some r → leads_into classes store frames q ≡ Some r → p ≡ q
  pub none_into_first : (p : Place) → ¬ (leads_into classes store frames p ≡ Some 0)
  pub no_cycle : (r : ℕ) → ¬ Above classes store r r

-- the regions into which owner references in variables lead
abbrev pub led_from_locals : List Seen → List Local → List ℕ
led_from_locals store locals = filter_map (region_at store) (filter_map owned_by_local locals)

-- the regions into which owner references in the variables of frames lead
abbrev pub led_from_frames : List Seen → List Frame → List ℕ
led_from_frames store [] = []
led_from_frames store (f ∷ fs) = led_from_locals store f.locals ++ led_from_frames store fs

-- whether a label is that of a temporary of one of these windows
abbrev pub is_temp_of : List Window → Label → Truth
is_temp_of ws (Region r) = false
is_temp_of ws (Temp n) = among (map (λ (w : Window). w.number) ws) n
is_temp_of ws Frozen = false

-- the open regions, and those into which an owner reference in a variable or in a temporary of an open window leads
abbrev pub first_live : List Class → State → List ℕ
first_live classes s =
    map (λ (w : Window). w.region) s.windows ++ led_from_frames s.store s.frames ++ led_from classes s.store (is_temp_of s.windows) s.store

-- the live regions, each once: those and what owner references lead to from them, by at most as many links as regions were made
abbrev pub live : List Class → State → List ℕ
live classes s = beneath classes s.store (length s.managers) (joined_with [] (first_live classes s))
