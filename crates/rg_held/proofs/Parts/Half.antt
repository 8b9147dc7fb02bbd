-- The machine that frees beside the other one, whatever is known of temporaries that aren't held: so the two are while a window ends.
use Rattle.std.proofs.Common.{◌≡◌, ◌⊎◌, ℕ, ◌<◌, true, false, Bool as Truth, List, length, Some, option_map, slice_get}
use Rattle.std.specs.Prelude.{nat_lt}
use Rattle.std.specs.List.{list_any}
use Rattle.rg_base.specs.declared.object.Label.{Label}
use Rattle.rg_base.specs.declared.object.Label.TheVariants.{Region, Temp}
use Rattle.rg_base.specs.declared.object.Seen.{Seen}
use Rattle.rg_base.specs.declared.value.Val.{Val}
use Rattle.rg_stack.specs.Machine.{Frame, Machine}
use Rattle.rg_stack.specs.Labels.{has_window, is_into, is_open, label_of}
use Rattle.rg_held.specs.Gone.{gone}
use Rattle.rg_held.specs.Part.{AllLead, OwnersHeld, Part, Placed, Tidy, leads_to, may_lead}

-- a temporary that isn't held is one of a window that was opened and has ended
abbrev pub Lost : (held : ℕ → Truth) → Machine → Type 0
Lost held m = (a : ℕ) (o : Seen) (n : ℕ) → held a ≡ false → slice_get m.store a ≡ Some o → o.label ≡ Temp n
    → (n < m.windows_made) × (has_window m.windows n ≡ false)

-- what the two share, but for objects
pub record Around (f m : Machine) : Type 0 where
  pub frames : f.frames ≡ m.frames
  pub windows : f.windows ≡ m.windows
  pub windows_made : f.windows_made ≡ m.windows_made
  pub at : f.at ≡ m.at
  -- as many regions were made, and an open one has the same manager
  pub managers_made : length f.managers ≡ length m.managers
  pub open_managers : (r : ℕ) → is_open m.windows r ≡ true → slice_get f.managers r ≡ slice_get m.managers r

pub record Half (held : ℕ → Truth) (owners : List Val) (f m : Machine) (stack : List Val) : Type 0 where
  pub around : Around f m
  -- a region of which an object is held has the same manager, and as many objects were made
  pub held_managers : (a : ℕ) (o : Seen) (r : ℕ) → held a ≡ true → slice_get m.store a ≡ Some o → o.label ≡ Region r
      → slice_get f.managers r ≡ slice_get m.managers r
  pub objects_made : length f.store ≡ length m.store
  -- an object that is held is the same in both, and any other is gone
  pub there : (a : ℕ) → held a ≡ true → a < length m.store
  pub same : (a : ℕ) → held a ≡ true → slice_get f.store a ≡ slice_get m.store a
  pub others : (a : ℕ) → held a ≡ false → slice_get f.store a ≡ option_map (λ (o : Seen). gone) (slice_get m.store a)
  -- a temporary that is held is one of an open window
  pub temps : (a : ℕ) (o : Seen) (n : ℕ) → held a ≡ true → slice_get m.store a ≡ Some o → o.label ≡ Temp n → has_window m.windows n ≡ true
  -- slots, the stack and what is held lead to what is held
  pub slots : (n : ℕ) (h : Frame) (s : ℕ) (v : Val) → slice_get m.frames n ≡ Some h → slice_get h.slots s ≡ Some v → leads_to held v ≡ true
  pub on_stack : AllLead held stack
  pub fields : (a : ℕ) (o : Seen) (k : ℕ) (v : Val) → held a ≡ true → slice_get m.store a ≡ Some o → slice_get o.fields k ≡ Some v
      → leads_to held v ≡ true
  -- a closed region of which an object is held has its owner reference
  pub owned : (a : ℕ) (o : Seen) (r : ℕ) → held a ≡ true → slice_get m.store a ≡ Some o → o.label ≡ Region r → is_open m.windows r ≡ false
      → Placed held m r ⊎ (list_any (is_into m.store r) owners ≡ true)
  pub window_owners : OwnersHeld held m.store m.windows
  pub tidy : Tidy m

-- other objects leave it
pub around-objects : (held : ℕ → Truth) (owners : List Val) (f m : Machine) (stack : List Val) → Part held owners f m stack
    → (sf sm : List Seen) → Around (record f { store = sf }) (record m { store = sm })
around-objects held owners f m stack p sf sm = record {
  frames = p.frames;
  windows = p.windows;
  windows_made = p.windows_made;
  at = p.at;
  managers_made = p.managers_made;
  open_managers = p.open_managers;
}

-- so does what always holds, but for what it says of objects
pub tidy-objects : (m : Machine) (store : List Seen) → Tidy m
    → ((a : ℕ) (o : Seen) (r : ℕ) → slice_get store a ≡ Some o → o.label ≡ Region r → r < length m.managers)
    → ((a : ℕ) (o : Seen) (k : ℕ) (v : Val) → slice_get store a ≡ Some o → slice_get o.fields k ≡ Some v
    → leads_to (λ b. nat_lt b (length store)) v ≡ true)
    → ((a : ℕ) (o : Seen) (p k : ℕ) (v : Val) (l : Label) → slice_get store a ≡ Some o → o.label ≡ Region p
    → slice_get o.fields k ≡ Some v → label_of store v ≡ Some l → may_lead m.windows p l ≡ true)
    → Tidy (record m { store = store })
tidy-objects m store t labels fields inside = record {
  some_window = t.some_window;
  differ = t.differ;
  numbers = t.numbers;
  regions = t.regions;
  labels = labels;
  fields = fields;
  inside = inside;
}

-- with that, all is known
pub whole : (held : ℕ → Truth) (owners : List Val) (f m : Machine) (stack : List Val) → Half held owners f m stack → Lost held m
    → Part held owners f m stack
whole held owners f m stack p lost = record {
  frames = p.around.frames;
  windows = p.around.windows;
  windows_made = p.around.windows_made;
  at = p.around.at;
  managers_made = p.around.managers_made;
  open_managers = p.around.open_managers;
  held_managers = p.held_managers;
  objects_made = p.objects_made;
  there = p.there;
  same = p.same;
  others = p.others;
  temps = p.temps;
  lost_temps = lost;
  slots = p.slots;
  on_stack = p.on_stack;
  fields = p.fields;
  owned = p.owned;
  window_owners = p.window_owners;
  tidy = p.tidy;
}
