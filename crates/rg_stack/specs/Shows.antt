-- The stack machine shows a state of the machine that never frees (docs/architecture.md, "The stack machine"), over a store that only
-- grows: a slot of the store is a serial, and the key of a region its number.
use Rattle.std.specs.Prelude.{◌≡◌, ℕ, ◌+◌, ◌-◌, List, [], ◌∷◌, ◌++◌, map, zero, suc, length, replicate, reverse}
use Rattle.rg_base.specs.declared.value.Val.TheVariants.{Nil}
use Rattle.rg_tree.specs.Tree.{Class}
use Rattle.rg_rules.specs.State.{Local, State, Frame as Body, Window as Opened}
use Rattle.rg_sound.specs.Held.{NoneStale, LiveFit}
use Rattle.rg_code.specs.Code.{Code}
use Rattle.rg_code.specs.Places.{scope_of, Level, Lies}
use Rattle.rg_stack.specs.Machine.{Machine, Frame, Window}

-- a frame shows the variables of a body: each slot shows its variable, and those behind are nil
abbrev pub ShowsFrame : Frame → Body → Type 0
ShowsFrame f b = f.slots ≡ map (λ (l : Local). l.value) b.locals ++ replicate (length f.slots - length b.locals) Nil

-- there are as many frames, and each shows its body's variables
abbrev pub ShowsFrames : List Frame → List Body → Type 0
ShowsFrames [] [] = Unit {0}
ShowsFrames [] (b ∷ bs) = ⊥
ShowsFrames (f ∷ fs) [] = ⊥
ShowsFrames (f ∷ fs) (b ∷ bs) = ShowsFrame f b × ShowsFrames fs bs

-- how many slots frames have, the lowest first
abbrev pub sizes_of : List Frame → List ℕ
sizes_of fs = reverse (map (λ (f : Frame). length f.slots) fs)

-- the place of a slot of the frame of a number among the slots of all frames, which have so many
abbrev pub place_among : (sizes : List ℕ) → (number place : ℕ) → ℕ
place_among [] n i = i
place_among (k ∷ ks) zero i = i
place_among (k ∷ ks) (suc n) i = k + place_among ks n i

-- a window agrees with one of the plain state: its base is the slot of that one's
pub record ShowsWindow (sizes : List ℕ) (w : Window) (p : Opened) : Type 0 where
  pub number : w.number ≡ p.number
  pub region : w.region ≡ p.region
  pub owner : w.owner ≡ p.owner
  pub base : w.base ≡ place_among sizes p.base_frame p.base_place

-- there are as many windows, and they agree
abbrev pub ShowsWindows : (sizes : List ℕ) → List Window → List Opened → Type 0
ShowsWindows sizes [] [] = Unit {0}
ShowsWindows sizes [] (p ∷ ps) = ⊥
ShowsWindows sizes (w ∷ ws) [] = ⊥
ShowsWindows sizes (w ∷ ws) (p ∷ ps) = ShowsWindow sizes w p × ShowsWindows sizes ws ps

-- the frames as the code sees them
abbrev pub levels_of : List Frame → List Body → List Level
levels_of [] bs = []
levels_of (f ∷ fs) [] = []
levels_of (f ∷ fs) (b ∷ bs) = record { scope = scope_of b.locals; slots = length f.slots; target = b.target; back = f.back } ∷ levels_of fs bs

-- A machine shows a state, for the code of a program. The temporaries of a window are the objects that have its number, and the table
-- of regions is the list of live ones: both are read off the store.
pub record Shows (classes : List Class) (code : Code) (m : Machine) (p : State) : Type 0 where
  -- there are as many frames; slots show variables, and those behind them are nil
  pub slots : ShowsFrames m.frames p.frames
  -- windows agree in number, region and owner, and a base is the slot of that base
  pub windows : ShowsWindows (sizes_of m.frames) m.windows p.windows
  -- the machine's place in the code, and those to which frames go back, are those of the items
  pub places : Lies classes code.ops (levels_of m.frames p.frames) p.items m.at
  -- as many windows were made
  pub windows_made : m.windows_made ≡ p.windows_made
  -- as many regions were made, with the same managers
  pub managers : m.managers ≡ p.managers
  -- as many objects were made, and each has the class, the label and the fields of that of its serial
  pub store : m.store ≡ p.store
  -- references in variables and in held objects lead to held objects
  pub none_stale : NoneStale classes p
  -- the live regions are region 0 and those that have an owner reference in a variable or in a held object, each exactly one
  pub live_regions : LiveFit classes p
