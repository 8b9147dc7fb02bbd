-- What the calls of the stacks ask for and do (docs/architecture.md, "Frames").
use Rattle.std.specs.Prelude.{◌≡◌, ℕ, ◌+◌, ◌-◌, ◌<◌, ◌≤◌, List, [], ◌∷◌, ◌++◌, Some, None, length, drop, take, replicate}
use Rattle.std.specs.Prelude.{slice_get, slice_set}
use Rattle.rg_base.specs.declared.object.Place.{Place}
use Rattle.rg_base.specs.declared.value.Word.{Word}
use Rattle.rg_base.specs.declared.value.Word.TheVariants.{Nil}
use Rattle.rg_frames.specs.declared.rows.Frame.{Frame}
use Rattle.rg_frames.specs.declared.rows.Window.{Window}
use Rattle.rg_frames.specs.Stack.{Stack, IsTop, mark}

-- main's frame and window 0 were made
abbrev pub Begun : Stack → Type 0
Begun v = (0 < length v.frames) × (0 < length v.windows)

-- a slot of the top frame
abbrev pub InTop : Stack → ℕ → Type 0
InTop v s = v.first + s < length v.slots

-- the frame on top, with the place that its return goes to, is this one
abbrev pub IsTopFrame : Stack → Frame → Type 0
IsTopFrame v f = slice_get v.frames (length v.frames - 1) ≡ Some f

-- the top window's base isn't behind a place
abbrev pub BaseUpTo : Stack → ℕ → Type 0
BaseUpTo v place = (w : Window) × IsTop v w × (w.base ≤ place)

-- a place among the slots from the top window's base
abbrev pub IsShown : Stack → ℕ → Type 0
IsShown v k = (w : Window) × IsTop v w × (k < length (drop w.base v.slots))

-- the temporaries of each window are a stretch of all: a window has a mark where its own begin, the next mark is their end, marks don't
-- fall, and none is above the number of temporaries
pub record MarksLie (v : Stack) : Type 0 where
  pub as_many : length v.marks ≡ length v.windows
  pub rise : (j k m n : ℕ) → j ≤ k → slice_get v.marks j ≡ Some m → slice_get v.marks k ≡ Some n → m ≤ n
  pub within : (k n : ℕ) → slice_get v.marks k ≡ Some n → n ≤ length v.temps

-- each window's base is no lower than the one's beneath, and none is above the number of slots
pub record BasesRise (most : ℕ) (ws : List Window) : Type 0 where
  pub rise : (j k : ℕ) (v w : Window) → j ≤ k → slice_get ws j ≡ Some v → slice_get ws k ≡ Some w → v.base ≤ w.base
  pub within : (k : ℕ) (w : Window) → slice_get ws k ≡ Some w → w.base ≤ most

-- there is room for one more frame, of so many slots
abbrev pub HasRoom : Stack → (slots : ℕ) → Type 0
HasRoom v n = (1 ≤ v.frame_room) × (n ≤ v.slot_room)

-- all as it was, with room for so many more frames and slots
abbrev pub roomed : Stack → (frame_room slot_room : ℕ) → Stack
roomed v frames slots = record v { frame_room = frames; slot_room = slots }

-- main's frame and window 0
abbrev pub begun : (region slots : ℕ) → Stack
begun r n = record {
  slots = replicate n Nil;
  first = 0;
  frames = record { back = 0; below = 0 } ∷ [];
  windows = record { number = 0; region = r; owner = None; base = 0 } ∷ [];
  temps = [];
  marks = 0 ∷ [];
  next = 1;
  frame_room = 0;
  slot_room = 0;
}

-- a slot of the top frame is written
abbrev pub with_slot : Stack → ℕ → Word → Stack
with_slot v s w = record v { slots = slice_set v.slots (v.first + s) w }

-- a slot at a place from a window's base is written
abbrev pub with_shown : Stack → Window → ℕ → Word → Stack
with_shown v top k w = record v { slots = slice_set v.slots (top.base + k) w }

-- the slots of the top frame from one on are nil
abbrev pub ended : Stack → ℕ → Stack
ended v s = record v { slots = take (v.first + s) v.slots ++ replicate (length v.slots - (v.first + s)) Nil }

-- a frame of so many slots, all nil, comes on top
abbrev pub pushed : Stack → (back slots : ℕ) → Stack
pushed v back n = record v {
  slots = v.slots ++ replicate n Nil;
  first = length v.slots;
  frames = v.frames ++ record { back = back; below = v.first } ∷ [];
  frame_room = v.frame_room - 1;
  slot_room = v.slot_room - n;
}

-- a frame of these words comes on top
abbrev pub pushed_of : Stack → (back : ℕ) → List Word → Stack
pushed_of v back words = record v {
  slots = v.slots ++ words;
  first = length v.slots;
  frames = v.frames ++ record { back = back; below = v.first } ∷ [];
  frame_room = v.frame_room - 1;
  slot_room = v.slot_room - length words;
}

-- the top frame goes, with its slots
abbrev pub popped : Stack → Frame → Stack
popped v f = record v {
  slots = take v.first v.slots;
  first = f.below;
  frames = take (length v.frames - 1) v.frames;
  frame_room = v.frame_room + 1;
  slot_room = v.slot_room + (length v.slots - v.first);
}

-- a window with the next number comes on top, without temporaries
abbrev pub opened : Stack → (region : ℕ) → Place → (base : ℕ) → Stack
opened v r owner base = record v {
  windows = v.windows ++ record { number = v.next; region = r; owner = Some owner; base = base } ∷ [];
  marks = v.marks ++ length v.temps ∷ [];
  next = v.next + 1;
}

-- the top window goes, which has no temporaries
abbrev pub closed : Stack → Stack
closed v = record v { windows = take (length v.windows - 1) v.windows; marks = take (length v.marks - 1) v.marks }

-- a temporary comes to the top window
abbrev pub with_temp : Stack → ℕ → Stack
with_temp v slot = record v { temps = v.temps ++ slot ∷ [] }

-- the top window has no temporaries
abbrev pub without_temps : Stack → Stack
without_temps v = record v { temps = take (mark v) v.temps }
