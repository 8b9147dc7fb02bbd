-- What leaving a window with another bridge asks for, and what it leaves (docs/architecture.md, "The heap").
use Rattle.std.specs.Prelude.{◌≡◌, ℕ, ◌+◌, ◌⊎◌, length, Option, Some, None, Result, Ok, Err}
use Rattle.rg_base.specs.declared.object.Place.{Place}
use Rattle.rg_base.specs.declared.object.Place.TheVariants.{Var, Field}
use Rattle.rg_base.specs.declared.outcome.Trap.{Trap}
use Rattle.rg_base.specs.declared.outcome.Trap.TheVariants as traps
use Rattle.rg_base.specs.declared.value.Word.{Word}
use Rattle.rg_base.specs.declared.value.Word.TheVariants.{Nil, Int, Bool as Truth, Slot}
use Rattle.rg_cells.specs.Table.{Heap, HasSerial, field_at, with_field}
use Rattle.rg_regions.specs.Table.{HasNumber, IsBridge, changed, with_bridge}
use Rattle.rg_regions.specs.Reach.{LiesIn}
use Rattle.rg_regions.specs.Grove.{Grove}
use Rattle.rg_frames.specs.Stack.{Stack}
use Rattle.rg_frames.specs.Changes.{InTop, closed, with_slot, without_temps}
use Rattle.rg_heap.specs.Parts.{Parts, OnTop}
use Rattle.rg_heap.specs.Writes.{InActive}
use Rattle.rg_heap.specs.Ends.{GoesAlong, IsTopTemp, Released}

-- the frames once the top window is gone
abbrev pub beneath : Stack → Stack
beneath v = closed (without_temps v)

-- a cell of the active region, or a temporary of the top window
abbrev pub IsNear : Parts → Stack → (slot : ℕ) → Type 0
IsNear p v s = InActive p.cells.heap p.regions v s (λ n. Unit {0}) ⊎ IsTopTemp v s

-- A field leads to the bridge of the region of a key; its object, which has the serial, is a cell of the region beneath or
-- a temporary of the window beneath.
pub record OwnedByField (p : Parts) (v : Stack) (key serial k : ℕ) : Type 0 where
  pub holder : ℕ
  pub has : HasSerial p.cells.heap holder serial
  pub near : IsNear p (beneath v) holder
  pub region : ℕ
  pub number : HasNumber p.regions key region
  pub to : ℕ
  pub leads : field_at p.cells.heap holder k ≡ Some (Slot to)
  pub bridge : IsBridge p.regions region to

-- the owner of the region of a key is a variable of the top frame, or such a field
abbrev pub IsOwner : Parts → Stack → (key : ℕ) → Option Place → Type 0
IsOwner p v key None = ⊥
IsOwner p v key (Some (Var frame s)) = (frame + 1 ≡ length v.frames) × InTop v s
IsOwner p v key (Some (Field serial k)) = OwnedByField p v key serial k

-- a field of the cell at a slot is an owner's place
abbrev pub IsPlace : Heap → Option Place → (slot k : ℕ) → Type 0
IsPlace h None s k = ⊥
IsPlace h (Some (Var frame x)) s k = ⊥
IsPlace h (Some (Field serial x)) s k = HasSerial h s serial × (k ≡ x)

-- nil, or a cell of the active region
abbrev pub CanBecome : Parts → Stack → Word → Type 0
CanBecome p v Nil = Unit {0}
CanBecome p v (Int i) = ⊥
CanBecome p v (Truth b) = ⊥
CanBecome p v (Slot s) = InActive p.cells.heap p.regions v s (λ n. Unit {0})

-- but for an owner's place and for fields of the top window's temporaries no field of a cell outside a region leads into it
abbrev pub OwnerAlone : Heap → Stack → (region : ℕ) → Option Place → Type 0
OwnerAlone h v r owner =
    (s k to : ℕ) → (LiesIn h r s → ⊥) → (IsTopTemp v s → ⊥) → field_at h s k ≡ Some (Slot to) → LiesIn h r to → IsPlace h owner s k

-- What it asks for beside what leaving asks for.
pub record CanGive (p : Parts) (v : Stack) (at : Word) : Type 0 where
  pub owner : OnTop v (λ w. IsOwner p v w.region w.owner)
  pub becomes : CanBecome p v at
  pub alone : OnTop v (λ w. (n : ℕ) → HasNumber p.regions w.region n → OwnerAlone p.cells.heap v n w.owner)

-- what is answered: at nil that it is nil
abbrev pub GivenOrNil : Word → Result (Unit {0}) Trap → Type 0
GivenOrNil Nil result = result ≡ Err traps.Nil
GivenOrNil (Int i) result = ⊥
GivenOrNil (Truth b) result = ⊥
GivenOrNil (Slot s) result = result ≡ Ok tt

-- a word is written at an owner's place, a slot of the top frame or a field of the object that has the serial
abbrev pub Puts : Option Place → Word → (old new : Heap) → (before after : Stack) → Type 0
Puts None w old new before after = ⊥
Puts (Some (Var frame s)) w old new before after = (new ≡ old) × (after ≡ with_slot before s w)
Puts (Some (Field serial k)) w old new before after =
    (after ≡ before) × ((holder : ℕ) × HasSerial old holder serial × (new ≡ with_field old holder k w))

-- Between the heap before and the one behind there is what leaving leaves; there the top window's region gets the bridge,
-- the owner's place leads to it, and nothing else changes.
pub record Gives (old new : Parts) (before after : Stack) (slot : ℕ) : Type 0 where
  pub mid : Parts
  pub forest : Grove mid.cells mid.regions
  pub released : Released old mid (GoesAlong old before) (IsTopTemp before)
  pub bridged : OnTop before (λ w. new.regions ≡ changed mid.regions w.region (with_bridge slot))
  pub written : OnTop before (λ w. Puts w.owner (Slot slot) mid.cells.heap new.cells.heap (beneath before) after)
