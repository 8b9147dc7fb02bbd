-- The parts of the invariant but for the frames, as tests.
use Rattle.std.proofs.Common.{ℕ, zero, suc, ◌==◌, nat_lt, Bool as Truth, true, false, not, ◌&&◌, ◌||◌, List, [], ◌∷◌, ◌++◌, length, map, filter}
use Rattle.std.proofs.Common.{flat_map, find, Option, Some, None, is_some, option_and_then, option_map, slice_get}
use Rattle.std.specs.List.{list_all}
use Rattle.rg_base.specs.declared.words.Cap.{Cap}
use Rattle.rg_base.specs.declared.words.Cap.TheVariants.{Mut, Tmp, Paused, Imm, Iso}
use Rattle.rg_base.specs.declared.ty.Ty.{Ty}
use Rattle.rg_base.specs.declared.ty.Ty.TheVariants.{Int, Bool, Ref}
use Rattle.rg_base.specs.declared.object.Label.{Label}
use Rattle.rg_base.specs.declared.object.Label.TheVariants.{Region, Temp, Frozen}
use Rattle.rg_base.specs.declared.object.Place.{Place}
use Rattle.rg_base.specs.declared.object.Place.TheVariants.{Var, Field}
use Rattle.rg_base.specs.declared.object.Seen.{Seen}
use Rattle.rg_base.specs.declared.value.Val.{Val}
use Rattle.rg_base.specs.declared.value.Val.TheVariants.{Nil, Int as IntVal, Bool as BoolVal, Obj}
use Rattle.rg_tree.specs.Tree.{Field as FieldOfClass, Class}
use Rattle.rg_rules.specs.Types.{type_of}
use Rattle.rg_rules.specs.State.{Local, Frame, Window, State}
use Rattle.rg_rules.specs.Values.{same_truth}
use Rattle.rg_rules.specs.Owners.{leads_into}
use Rattle.rg_sound.specs.Objects.{fields_in}
use Rattle.rg_sound.specs.Windows.{windows_of, windows_from}

-- Labels and values

abbrev pub same_label : Label → Label → Truth
same_label (Region a) (Region b) = a == b
same_label (Region a) (Temp b) = false
same_label (Region a) Frozen = false
same_label (Temp a) (Region b) = false
same_label (Temp a) (Temp b) = a == b
same_label (Temp a) Frozen = false
same_label Frozen (Region b) = false
same_label Frozen (Temp b) = false
same_label Frozen Frozen = true

abbrev is_region : Label → Truth
is_region (Region a) = true
is_region (Temp a) = false
is_region Frozen = false

abbrev is_temp : Label → Truth
is_temp (Region a) = false
is_temp (Temp a) = true
is_temp Frozen = false

abbrev is_open : List Window → Label → Truth
is_open [] l = false
is_open (w ∷ ws) l = same_label l (Region w.region) || same_label l (Temp w.number) || is_open ws l

abbrev label_fits : List Window → Cap → Label → Truth
label_fits [] Mut l = false
label_fits (w ∷ ws) Mut l = same_label l (Region w.region)
label_fits [] Tmp l = false
label_fits (w ∷ ws) Tmp l = same_label l (Temp w.number)
label_fits ws Paused l = same_label l Frozen || is_open ws l
label_fits ws Imm l = same_label l Frozen
label_fits ws Iso l = is_region l

abbrev leads : List Seen → ℕ → ℕ → (Label → Truth) → Truth
leads store a class fits = elim (slice_get store a) [ None ↦ false | Some o ↦ o.class == class && fits o.label ]

abbrev meets_by : List Seen → (Cap → Label → Truth) → Ty → Val → Truth
meets_by store fits Int (IntVal z) = true
meets_by store fits Int v = false
meets_by store fits Bool (BoolVal b) = true
meets_by store fits Bool v = false
meets_by store fits (Ref cap c) Nil = true
meets_by store fits (Ref cap c) (IntVal z) = false
meets_by store fits (Ref cap c) (BoolVal b) = false
meets_by store fits (Ref cap c) (Obj a) = leads store a c (fits cap)

-- The values

abbrev locals_meet : List Seen → List Window → (n i : ℕ) → List Local → Truth
locals_meet store ws n i [] = true
locals_meet store ws n i (l ∷ ls) = meets_by store (label_fits (windows_of n i ws)) l.ty l.value && locals_meet store ws n (suc i) ls

abbrev pub values_fit : List Seen → List Window → List Frame → Truth
values_fit store ws [] = true
values_fit store ws (f ∷ fs) = locals_meet store ws (length fs) 0 f.locals && values_fit store ws fs

-- The objects

abbrev region_field_fits : ℕ → Cap → Label → Truth
region_field_fits r Mut l = same_label l (Region r)
region_field_fits r Tmp l = false
region_field_fits r Paused l = false
region_field_fits r Imm l = same_label l Frozen
region_field_fits r Iso l = is_region l

abbrev ended_field_fits : Cap → Label → Truth
ended_field_fits Mut l = true
ended_field_fits Tmp l = true
ended_field_fits Paused l = true
ended_field_fits Imm l = true
ended_field_fits Iso l = is_region l

abbrev temp_field_fits : List Window → Cap → Label → Truth
temp_field_fits [] cap l = ended_field_fits cap l
temp_field_fits (w ∷ ws) cap l = label_fits (w ∷ ws) cap l

abbrev field_fits : List Window → Label → Cap → Label → Truth
field_fits ws (Region r) cap l = region_field_fits r cap l
field_fits ws (Temp n) cap l = temp_field_fits (windows_from n ws) cap l
field_fits ws Frozen cap l = same_label l Frozen

abbrev fields_meet : List Class → List Seen → (Cap → Label → Truth) → List FieldOfClass → List Val → Truth
fields_meet classes store fits [] [] = true
fields_meet classes store fits [] (v ∷ vs) = false
fields_meet classes store fits (f ∷ fs) [] = false
fields_meet classes store fits (f ∷ fs) (v ∷ vs) = meets_by store fits (type_of classes f.ty) v && fields_meet classes store fits fs vs

abbrev pub object_fits : List Class → List Seen → List Window → Seen → Truth
object_fits classes store ws o = elim (slice_get classes o.class) [
  | None ↦ false
  | Some c ↦ same_truth (is_temp o.label) c.is_tmp && fields_meet classes store (field_fits ws o.label) (fields_in classes c o) o.fields
]

-- The open regions and the forest: the places of owner references, with the regions that they lead into

abbrev pub same_place : Place → Place → Truth
same_place (Var n i) (Var m j) = n == m && i == j
same_place (Var n i) (Field a k) = false
same_place (Field a k) (Var m j) = false
same_place (Field a k) (Field b j) = a == b && k == j

abbrev local_places : ℕ → ℕ → List Local → List Place
local_places n i [] = []
local_places n i (l ∷ ls) = Var n i ∷ local_places n (suc i) ls

abbrev frame_places : List Frame → List Place
frame_places [] = []
frame_places (f ∷ fs) = local_places (length fs) 0 f.locals ++ frame_places fs

abbrev slot_places : ℕ → ℕ → List Val → List Place
slot_places a k [] = []
slot_places a k (v ∷ vs) = Field a k ∷ slot_places a (suc k) vs

abbrev store_places : ℕ → List Seen → List Place
store_places a [] = []
store_places a (o ∷ os) = slot_places a 0 o.fields ++ store_places (suc a) os

-- a place with the region that the owner reference there leads into
abbrev owner_at : List Class → State → Place → List (Place × ℕ)
owner_at classes s p = elim (leads_into classes s.store s.frames p) [ None ↦ [] | Some r ↦ (p, r) ∷ [] ]

abbrev pub owners : List Class → State → List (Place × ℕ)
owners classes s = flat_map (owner_at classes s) (frame_places s.frames ++ store_places 0 s.store)

-- the places of the owner references into a region
abbrev places_into : List (Place × ℕ) → ℕ → List Place
places_into os r = map (λ (o : Place × ℕ). o.0) (filter (λ (o : Place × ℕ). o.1 == r) os)

abbrev is_near : List Seen → Window → Window → Place → Truth
is_near store w v (Var n i) = nat_lt n w.base_frame || (n == w.base_frame && nat_lt i w.base_place)
is_near store w v (Field a k) = elim (slice_get store a) [
  | None ↦ false
  | Some o ↦
      same_label o.label (Region v.region) || same_label o.label (Temp v.number)
]

abbrev only_place : List Place → Option Place → Truth
only_place [] o = false
only_place (p ∷ []) None = false
only_place (p ∷ []) (Some q) = same_place p q
only_place (p ∷ q ∷ ps) o = false

abbrev is_owned : List (Place × ℕ) → List Seen → Window → Window → Truth
is_owned os store w v = only_place (places_into os w.region) w.owner && elim (w.owner) [ None ↦ false | Some p ↦ is_near store w v p ]

abbrev pub lowest_alone : List Window → Truth
lowest_alone [] = false
lowest_alone (w ∷ []) = w.number == 0 && w.base_frame == 0 && w.base_place == 0
lowest_alone (w ∷ v ∷ ws) = false

abbrev pub all_owned : List (Place × ℕ) → List Seen → List Window → Truth
all_owned os store [] = false
all_owned os store (w ∷ []) = w.region == 0 && not (is_some w.owner)
all_owned os store (w ∷ v ∷ ws) = is_owned os store w v && all_owned os store (v ∷ ws)

abbrev pub none_again : List ℕ → Truth
none_again [] = true
none_again (n ∷ ns) = not (is_some (find (λ m. m == n) ns)) && none_again ns

abbrev label_of_place : List Seen → Place → Option ℕ
label_of_place store (Var n i) = None
label_of_place store (Field a k) = option_and_then (λ (o : Seen). elim (o.label) [ Region r ↦ Some r | Temp n ↦ None | Frozen ↦ None ])
    (slice_get store a)

abbrev parent_of : List (Place × ℕ) → List Seen → ℕ → Option ℕ
parent_of os store r = option_and_then (label_of_place store) (option_map (λ (o : Place × ℕ). o.0) (find (λ (o : Place × ℕ). o.1 == r) os))

-- whether the chain of parents from a region, of so many links, doesn't come back to it
abbrev climbs : List (Place × ℕ) → List Seen → ℕ → ℕ → Option ℕ → Truth
climbs os store zero start at = true
climbs os store (suc k) start None = true
climbs os store (suc k) start (Some r) = not (r == start) && climbs os store k start (parent_of os store r)

abbrev pub is_forest : List (Place × ℕ) → List Seen → ℕ → Truth
is_forest os store regions =
    none_again (map (λ (o : Place × ℕ). o.1) os) && not (is_some (find (λ (o : Place × ℕ). o.1 == 0) os))
    && list_all (λ (o : Place × ℕ). climbs os store regions o.1 (parent_of os store o.1)) os

-- The numbers

abbrev label_given : ℕ → ℕ → Label → Truth
label_given regions windows (Region r) = nat_lt r regions
label_given regions windows (Temp n) = nat_lt n windows
label_given regions windows Frozen = true

abbrev rising : List Window → Truth
rising [] = true
rising (w ∷ []) = true
rising (w ∷ v ∷ ws) = nat_lt v.number w.number && rising (v ∷ ws)

abbrev pub numbers_fit : State → Truth
numbers_fit s =
    list_all (λ (o : Seen). label_given (length s.managers) s.windows_made o.label) s.store
    && list_all (λ (w : Window). nat_lt w.region (length s.managers) && nat_lt w.number s.windows_made) s.windows && rising s.windows
