-- The machine that frees beside the one over a store that only grows: of the objects some are held, and the others gone; what is held is the
-- same, and nothing that stays leads to what is gone (docs/architecture.md, "The machine that frees").
use Rattle.std.specs.Prelude.{◌≡◌, ◌⊎◌, ℕ, ◌==◌, ◌<◌, ◌||◌, nat_lt, Bool as Truth, true, false, if◌then◌else◌, List, [], ◌∷◌, length, Option, Some}
use Rattle.std.specs.Prelude.{None}
use Rattle.std.specs.Prelude.{option_map, slice_get}
use Rattle.std.specs.List.{list_any}
use Rattle.rg_base.specs.declared.object.Label.{Label}
use Rattle.rg_base.specs.declared.object.Label.TheVariants.{Region, Temp, Frozen}
use Rattle.rg_base.specs.declared.object.Place.{Place}
use Rattle.rg_base.specs.declared.object.Place.TheVariants as place
use Rattle.rg_base.specs.declared.object.Seen.{Seen}
use Rattle.rg_base.specs.declared.value.Val.{Val}
use Rattle.rg_base.specs.declared.value.Val.TheVariants.{Nil, Int, Bool, Obj}
use Rattle.rg_stack.specs.Machine.{Frame, Window, Machine}
use Rattle.rg_stack.specs.Labels.{is_open, has_window, label_of, is_into, is_outside}
use Rattle.rg_held.specs.Gone.{gone}

-- whether a value leads to an object whose address passes a test, if it leads to one
abbrev pub leads_to : (ℕ → Truth) → Val → Truth
leads_to test Nil = true
leads_to test (Int z) = true
leads_to test (Bool b) = true
leads_to test (Obj a) = test a

-- all values do
abbrev pub AllLead : (ℕ → Truth) → List Val → Type 0
AllLead test [] = Unit {0}
AllLead test (v ∷ vs) = (leads_to test v ≡ true) × AllLead test vs

-- a slot that leads into a region; the topmost frame is 0
pub record SlotInto (m : Machine) (r : ℕ) : Type 0 where
  pub frame : ℕ
  pub slot : ℕ
  pub holder : Frame
  pub value : Val
  pub holder_there : slice_get m.frames frame ≡ Some holder
  pub value_there : slice_get holder.slots slot ≡ Some value
  pub into : is_into m.store r value ≡ true

-- a field from outside a region that leads into it
pub record FieldInto (m : Machine) (r : ℕ) : Type 0 where
  pub object : ℕ
  pub field : ℕ
  pub holder : Seen
  pub value : Val
  pub holder_there : slice_get m.store object ≡ Some holder
  pub value_there : slice_get holder.fields field ≡ Some value
  pub outside : is_outside m.windows r holder.label ≡ true
  pub into : is_into m.store r value ≡ true

-- a region has its owner reference in a slot, or in a field of an object that is held
abbrev pub Placed : (held : ℕ → Truth) → Machine → (r : ℕ) → Type 0
Placed held m r = SlotInto m r ⊎ ((f : FieldInto m r) × (held f.object ≡ true))

-- whether a region is closed, or opened above another one, which is open too
abbrev pub is_shut_or_above : List Window → (region under : ℕ) → Truth
is_shut_or_above [] q p = true
is_shut_or_above (w ∷ ws) q p = if w.region == q then is_open ws p else is_shut_or_above ws q p

-- whether a field of an object of a region may lead to an object with a label: one of the same region, of a closed one, or of one that was
-- opened above it, or a frozen one
abbrev pub may_lead : List Window → (region : ℕ) → Label → Truth
may_lead ws p (Region q) = (q == p) || is_shut_or_above ws q p
may_lead ws p (Temp n) = false
may_lead ws p Frozen = true

-- windows differ in their regions and in their numbers
abbrev pub Differ : List Window → Type 0
Differ [] = Unit {0}
Differ (w ∷ ws) = (is_open ws w.region ≡ false) × (has_window ws w.number ≡ false) × Differ ws

-- a window is open
abbrev pub SomeWindow : List Window → Type 0
SomeWindow [] = ⊥
SomeWindow (w ∷ ws) = Unit {0}

-- what always holds of the machine over the growing store
pub record Tidy (m : Machine) : Type 0 where
  pub some_window : SomeWindow m.windows
  pub differ : Differ m.windows
  -- numbers of windows and of regions are those that were given
  pub numbers : (n : ℕ) → has_window m.windows n ≡ true → n < m.windows_made
  pub regions : (r : ℕ) → is_open m.windows r ≡ true → r < length m.managers
  pub labels : (a : ℕ) (o : Seen) (r : ℕ) → slice_get m.store a ≡ Some o → o.label ≡ Region r → r < length m.managers
  -- fields lead to objects that were made
  pub fields : (a : ℕ) (o : Seen) (k : ℕ) (v : Val) → slice_get m.store a ≡ Some o → slice_get o.fields k ≡ Some v
      → leads_to (λ b. nat_lt b (length m.store)) v ≡ true
  -- fields of a region's objects lead where they may
  pub inside : (a : ℕ) (o : Seen) (p k : ℕ) (v : Val) (l : Label) → slice_get m.store a ≡ Some o → o.label ≡ Region p
      → slice_get o.fields k ≡ Some v → label_of m.store v ≡ Some l → may_lead m.windows p l ≡ true

-- whether a label is that of an open region or of a window's temporary
abbrev pub is_of : List Window → Label → Truth
is_of ws (Region r) = is_open ws r
is_of ws (Temp n) = has_window ws n
is_of ws Frozen = false

-- the object in which a window's owner reference stands, if it is in one, is held, and one of the windows beneath
abbrev pub OwnerHeld : (held : ℕ → Truth) → List Seen → List Window → Option Place → Type 0
OwnerHeld held store ws None = Unit {0}
OwnerHeld held store ws (Some (place.Var n s)) = Unit {0}
OwnerHeld held store ws (Some (place.Field a k)) = (held a ≡ true) × ((o : Seen) × (slice_get store a ≡ Some o) × (is_of ws o.label ≡ true))

-- so is that of each
abbrev pub OwnersHeld : (held : ℕ → Truth) → List Seen → List Window → Type 0
OwnersHeld held store [] = Unit {0}
OwnersHeld held store (w ∷ ws) = OwnerHeld held store ws w.owner × OwnersHeld held store ws

-- The machine that frees beside the other one, with the same stack, where some values on the stack count as owners: behind what takes an
-- owner reference from its place that is all of them, else none.
pub record Part (held : ℕ → Truth) (owners : List Val) (f m : Machine) (stack : List Val) : Type 0 where
  pub frames : f.frames ≡ m.frames
  pub windows : f.windows ≡ m.windows
  pub windows_made : f.windows_made ≡ m.windows_made
  pub at : f.at ≡ m.at
  -- as many regions and objects were made; an open region, and one of which an object is held, has the same manager
  pub managers_made : length f.managers ≡ length m.managers
  pub open_managers : (r : ℕ) → is_open m.windows r ≡ true → slice_get f.managers r ≡ slice_get m.managers r
  pub held_managers : (a : ℕ) (o : Seen) (r : ℕ) → held a ≡ true → slice_get m.store a ≡ Some o → o.label ≡ Region r
      → slice_get f.managers r ≡ slice_get m.managers r
  pub objects_made : length f.store ≡ length m.store
  -- an object that is held is the same in both, and any other is gone
  pub there : (a : ℕ) → held a ≡ true → a < length m.store
  pub same : (a : ℕ) → held a ≡ true → slice_get f.store a ≡ slice_get m.store a
  pub others : (a : ℕ) → held a ≡ false → slice_get f.store a ≡ option_map (λ (o : Seen). gone) (slice_get m.store a)
  -- a temporary that is held is one of an open window
  pub temps : (a : ℕ) (o : Seen) (n : ℕ) → held a ≡ true → slice_get m.store a ≡ Some o → o.label ≡ Temp n → has_window m.windows n ≡ true
  -- and one that isn't held is one of a window that was opened and has ended
  pub lost_temps : (a : ℕ) (o : Seen) (n : ℕ) → held a ≡ false → slice_get m.store a ≡ Some o → o.label ≡ Temp n
      → (n < m.windows_made) × (has_window m.windows n ≡ false)
  -- slots, the stack and what is held lead to what is held
  pub slots : (n : ℕ) (h : Frame) (s : ℕ) (v : Val) → slice_get m.frames n ≡ Some h → slice_get h.slots s ≡ Some v → leads_to held v ≡ true
  pub on_stack : AllLead held stack
  pub fields : (a : ℕ) (o : Seen) (k : ℕ) (v : Val) → held a ≡ true → slice_get m.store a ≡ Some o → slice_get o.fields k ≡ Some v
      → leads_to held v ≡ true
  -- a closed region of which an object is held has its owner reference
  pub owned : (a : ℕ) (o : Seen) (r : ℕ) → held a ≡ true → slice_get m.store a ≡ Some o → o.label ≡ Region r → is_open m.windows r ≡ false
      → Placed held m r ⊎ (list_any (is_into m.store r) owners ≡ true)
  pub window_owners : OwnersHeld held m.store m.windows
  pub tidy : Tidy m
