-- How the windows lie over slots and temporaries, and what the fields of `Frames` show (docs/architecture.md, "Frames").
use Rattle.std.specs.Prelude.{◌≡◌, ℕ, suc, ◌≤◌, ◌<◌, ◌+◌, ◌-◌, ◌⊎◌, List, Some, None, length, map, take, slice_get, vec_capacity}
use Rattle.std.specs.declared.vec.Vec.{Vec}
use Rattle.rg_base.specs.declared.value.Word.{Word}
use Rattle.rg_base.specs.declared.value.Word.TheVariants.{Nil}
use Rattle.rg_frames.specs.declared.rows.Frame.{Frame}
use Rattle.rg_frames.specs.declared.rows.Row.{Row}
use Rattle.rg_frames.specs.declared.rows.Window.{Window}
use Rattle.rg_frames.specs.Stack.{Stack}
use Rattle.rg_frames.specs.Changes.{BasesRise}

-- numbers that don't fall, none above a most one
pub record Rises (most : ℕ) (ns : List ℕ) : Type 0 where
  pub rise : (j k m n : ℕ) → j ≤ k → slice_get ns j ≡ Some m → slice_get ns k ≡ Some n → m ≤ n
  pub within : (k n : ℕ) → slice_get ns k ≡ Some n → n ≤ most

-- windows over slots and temporaries, as they lie between all calls
pub record Lies (v : Stack) : Type 0 where
  pub bases : BasesRise (length v.slots) v.windows
  pub marks : Rises (length v.temps) v.marks
  pub as_many : length v.marks ≡ length v.windows

-- the slots from one place up to another are nil
pub record NilFrom (slots : List Word) (from to : ℕ) : Type 0 where
  pub order : from ≤ to
  pub nil : (i : ℕ) (w : Word) → from ≤ i → i < to → slice_get slots i ≡ Some w → w ≡ Nil

-- where there is room for any frame, so many slots go on behind the top one that 256 from its first on are there
abbrev pub GoesOn : (capacity top many : ℕ) → Type 0
GoesOn capacity top many = 0 < capacity → top + 256 ≤ many

-- a place isn't one of those from one place up to another
abbrev pub IsPast : (place from to : ℕ) → Type 0
IsPast place from to = (place < from) ⊎ (to ≤ place)

-- where the slots of the frame beneath the k-th end
abbrev pub end_of : List Frame → (first k : ℕ) → ℕ
end_of frames first k = elim (slice_get frames k) [ None ↦ first | Some f ↦ f.below ]

-- what was never written is nil: the top frame's slots from `live` on, and those of each frame beneath from the place that is
-- kept for it on, up to the first slot of the frame over it
pub record Unwritten (slots : List Word) (first : ℕ) (frames : List Frame) (live : ℕ) (kept : List ℕ) : Type 0 where
  pub top : NilFrom slots live (length slots)
  pub under : (k l : ℕ) → suc k ≡ length kept → slice_get kept k ≡ Some l → NilFrom slots l first
  pub beneath : (k l : ℕ) (f : Frame) → slice_get kept k ≡ Some l → slice_get frames (suc k) ≡ Some f → NilFrom slots l f.below
  pub rise : (j k : ℕ) (f g : Frame) → j ≤ k → slice_get frames j ≡ Some f → slice_get frames k ≡ Some g → f.below ≤ g.below
  pub below : (k : ℕ) (f : Frame) → slice_get frames k ≡ Some f → f.below ≤ first
  pub within : first ≤ length slots
  pub as_many : length kept ≡ length frames

-- the frames that are kept, and what is kept for the frame beneath each
abbrev pub frames_of : List Row → List Frame
frames_of rows = map (λ (r : Row). r.frame) rows

abbrev pub lives_of : List Row → List ℕ
lives_of rows = map (λ (r : Row). r.live) rows

-- what the fields show: the slots end where the top frame does, and those that `near` reads behind it are no room
abbrev pub stack_of : {Z : Type 0} → (slots : Vec Word Z) → (top first : ℕ) → Vec Row Z → Vec Window Z → (temps marks : Vec ℕ Z) → ℕ → Stack
stack_of slots top first rows windows temps marks next = record {
  slots = take top slots.items;
  first = first;
  frames = frames_of rows.items;
  windows = windows.items;
  temps = temps.items;
  marks = marks.items;
  next = next;
  frame_room = vec_capacity rows - length rows.items;
  slot_room = length slots.items - (top + 256);
}
