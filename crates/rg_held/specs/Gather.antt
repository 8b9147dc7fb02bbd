-- What a collection of the active region keeps, and what goes with the objects that it doesn't: the closed regions that these owned, and all
-- beneath them (docs/architecture.md, "The machine that frees").
use Rattle.std.specs.Prelude.{◌≡◌, ℕ, ◌≤◌, Bool as Truth, true, false, List, [], ◌∷◌, length, drop, Some, None, option_map, slice_get}
use Rattle.rg_base.specs.declared.object.Label.TheVariants.{Region, Temp}
use Rattle.rg_base.specs.declared.object.Seen.{Seen}
use Rattle.rg_base.specs.declared.value.Val.{Val}
use Rattle.rg_base.specs.declared.value.Val.TheVariants.{Nil, Obj}
use Rattle.rg_rules.specs.Acceptance.{Accepted}
use Rattle.rg_rules.specs.Regions.{region_at}
use Rattle.rg_rules.specs.State.{State}
use Rattle.rg_tree.specs.Tree.{Tree}
use Rattle.rg_sound.specs.Fit.{Fit}
use Rattle.rg_code.specs.Code.{Code}
use Rattle.rg_stack.specs.Machine.{Frame, Window, Machine, place_of}
use Rattle.rg_stack.specs.Tops.{top_region, top_window}
use Rattle.rg_stack.specs.Places.{top_base, value_at}
use Rattle.rg_stack.specs.Shows.{Shows}
use Rattle.rg_held.specs.Gone.{gone}
use Rattle.rg_held.specs.Part.{Part}

-- the value of the topmost window's owner reference; the lowest window has none
abbrev pub bridge_value : Machine → List Window → Val
bridge_value m [] = Nil
bridge_value m (w ∷ ws) = elim w.owner [ None ↦ Nil | Some p ↦ value_at m p ]

-- a value that leads into the active region leads to an object that is kept
abbrev pub KeepsOf : (kept : ℕ → Truth) → Machine → Val → Type 0
KeepsOf kept m v = (a : ℕ) → v ≡ Obj a → region_at m.store a ≡ Some (top_region m.windows) → kept a ≡ true

-- Of the objects that are held those of the active region are kept to which its bridge leads, a slot from the topmost window's base on, a
-- field of a temporary of that window, or a field of an object of the region that is kept.
pub record Keeps (held kept : ℕ → Truth) (m : Machine) : Type 0 where
  pub bridge : KeepsOf kept m (bridge_value m m.windows)
  pub slots : (n s : ℕ) (h : Frame) (v : Val) → slice_get m.frames n ≡ Some h → slice_get h.slots s ≡ Some v
      → top_base m.windows ≤ place_of (drop n m.frames) s → KeepsOf kept m v
  pub temps : (a k : ℕ) (o : Seen) (v : Val) → held a ≡ true → slice_get m.store a ≡ Some o → o.label ≡ Temp (top_window m.windows)
      → slice_get o.fields k ≡ Some v → KeepsOf kept m v
  pub fields : (a k : ℕ) (o : Seen) (v : Val) → held a ≡ true → kept a ≡ true → slice_get m.store a ≡ Some o
      → o.label ≡ Region (top_region m.windows) → slice_get o.fields k ≡ Some v → KeepsOf kept m v

-- a field of an object of the one region, which is held, leads into another one
pub record LinkOut (held : ℕ → Truth) (m : Machine) (p q : ℕ) : Type 0 where
  pub object : ℕ
  pub holder : Seen
  pub field : ℕ
  pub address : ℕ
  pub differ : p ≡ q → ⊥
  pub here : held object ≡ true
  pub there : slice_get m.store object ≡ Some holder
  pub lies : holder.label ≡ Region p
  pub value : slice_get holder.fields field ≡ Some (Obj address)
  pub leads : region_at m.store address ≡ Some q

-- a region loses its owner with an object of the active region that isn't kept, or is beneath one that does
pub data Loses (held kept : ℕ → Truth) (m : Machine) : ℕ → Type 0 where
  first : {q : ℕ} → (l : LinkOut held m (top_region m.windows) q) → kept l.object ≡ false → Loses held kept m q
  further : {p q : ℕ} → Loses held kept m p → LinkOut held m p q → Loses held kept m q

-- Of the machine that frees some objects of the active region go, and with them all objects of the regions that lose their owners; all else
-- stays, but that a region that is lost may have another manager.
pub record Gathered (held kept : ℕ → Truth) (f after m : Machine) : Type 0 where
  pub frames : after.frames ≡ f.frames
  pub windows : after.windows ≡ f.windows
  pub windows_made : after.windows_made ≡ f.windows_made
  pub at : after.at ≡ f.at
  pub managers_made : length after.managers ≡ length f.managers
  pub managers : (r : ℕ) → (Loses held kept m r → ⊥) → slice_get after.managers r ≡ slice_get f.managers r
  pub objects_made : length after.store ≡ length f.store
  pub fewer : (a : ℕ) → kept a ≡ true → held a ≡ true
  pub same : (a : ℕ) → kept a ≡ true → slice_get after.store a ≡ slice_get f.store a
  pub others : (a : ℕ) → kept a ≡ false → slice_get after.store a ≡ option_map (λ (o : Seen). gone) (slice_get f.store a)
  pub lost : (a q : ℕ) (o : Seen) → held a ≡ true → slice_get m.store a ≡ Some o → o.label ≡ Region q → Loses held kept m q → kept a ≡ false
  pub stays : (a : ℕ) (o : Seen) → held a ≡ true → slice_get m.store a ≡ Some o → (o.label ≡ Region (top_region m.windows) → ⊥)
      → ((q : ℕ) → o.label ≡ Region q → Loses held kept m q → ⊥) → kept a ≡ true

-- where a step begins or has ended, a collection leaves the machine that frees beside the other one; what is kept and what goes is read
-- off the machine that frees
abbrev pub GathersFit : Type 0
GathersFit = (t : Tree) (code : Code) (p : State) (held kept : ℕ → Truth) (f after m : Machine) → Accepted t → Fit t p
    → Shows t.classes code m p → Part held [] f m [] → Keeps held kept f → Gathered held kept f after f
    → Part kept [] after m []
