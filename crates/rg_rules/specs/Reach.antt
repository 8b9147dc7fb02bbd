-- The objects of the active region that are in reach of its roots: what a collection keeps of it (docs/language.md, "Steps").
use Rattle.std.specs.Prelude.{ℕ, zero, suc, Bool as Truth, false, ◌==◌, nat_lt, if◌then◌else◌, List, [], ◌∷◌, ◌++◌, length, drop, map, filter}
use Rattle.std.specs.Prelude.{count_by, filter_map, flat_map, Option, Some, None, option_map, option_and_then, option_to_list, slice_get}
use Rattle.rg_base.specs.declared.object.Label.{Label}
use Rattle.rg_base.specs.declared.object.Label.TheVariants.{Region, Temp, Frozen}
use Rattle.rg_base.specs.declared.object.Seen.{Seen}
use Rattle.rg_base.specs.declared.object.Place.{Place}
use Rattle.rg_base.specs.declared.object.Place.TheVariants.{Var, Field}
use Rattle.rg_base.specs.declared.value.Val.{Val}
use Rattle.rg_rules.specs.State.{Local, Frame, Window, State, frame_at, active}
use Rattle.rg_rules.specs.Regions.{region_of, region_at, address, joined_with}

-- the value at a place
abbrev pub value_at : List Seen → List Frame → Place → Option Val
value_at store frames (Var n i) =
    option_map (λ (l : Local). l.value) (option_and_then (λ (f : Frame). slice_get f.locals i) (frame_at frames n))
value_at store frames (Field a k) = option_and_then (λ (o : Seen). slice_get o.fields k) (slice_get store a)

-- the variables from a base on: all of higher frames, and those of the base's own frame that weren't there before
abbrev pub locals_from : (base_frame base_place : ℕ) → List Frame → List Local
locals_from n k [] = []
locals_from n k (f ∷ fs) =
    if nat_lt n (length fs) then f.locals ++ locals_from n k fs else (if n == length fs then drop k f.locals else [])

-- the addresses to which values lead
abbrev pub addresses : List Val → List ℕ
addresses vs = filter_map address vs

-- whether a label is that of a window's temporaries
abbrev pub is_temp : (window : ℕ) → Label → Truth
is_temp n (Region r) = false
is_temp n (Temp m) = n == m
is_temp n Frozen = false

-- the addresses to which fields of a window's temporaries lead
abbrev pub led_from_temps : (window : ℕ) → List Seen → List ℕ
led_from_temps n [] = []
led_from_temps n (o ∷ os) = if is_temp n o.label then addresses o.fields ++ led_from_temps n os else led_from_temps n os

-- where the topmost window's owner, its variables and its temporaries lead
abbrev pub starts : List Seen → List Frame → List Window → List ℕ
starts store frames [] = []
starts store frames (w ∷ ws) = option_to_list (option_and_then address (option_and_then (value_at store frames) w.owner))
    ++ addresses (map (λ (l : Local). l.value) (locals_from w.base_frame w.base_place frames))
    ++ led_from_temps w.number store

-- whether it is that region
abbrev pub is_region : ℕ → Option ℕ → Truth
is_region r None = false
is_region r (Some q) = r == q

-- those of these addresses at which an object of a region lies
abbrev pub inside : (region : ℕ) → List Seen → List ℕ → List ℕ
inside r store found = filter (λ a. is_region r (region_at store a)) found

-- the addresses to which the fields of the object at an address lead
abbrev pub led_from_object : List Seen → ℕ → List ℕ
led_from_object store a = elim (slice_get store a) [ None ↦ [] | Some o ↦ addresses o.fields ]

-- these objects of a region, and those of it to which fields lead from them, by at most so many links
abbrev pub reached : (region : ℕ) → List Seen → (links : ℕ) → List ℕ → List ℕ
reached r store zero found = found
reached r store (suc k) found = reached r store k (joined_with found (inside r store (flat_map (led_from_object store) found)))

-- the number of objects of a region
abbrev pub size_of : (region : ℕ) → List Seen → ℕ
size_of r store = count_by (λ (o : Seen). is_region r (region_of o.label)) store

-- the objects of a region that these addresses reach, each once, by at most as many links as it has objects
abbrev pub reach_of : (region : ℕ) → List Seen → List ℕ → List ℕ
reach_of r store roots = reached r store (size_of r store) (joined_with [] (inside r store roots))

-- the objects of the active region that the roots of its window reach
abbrev pub plain_reach : State → List ℕ
plain_reach s = reach_of (active s.windows) s.store (starts s.store s.frames s.windows)
