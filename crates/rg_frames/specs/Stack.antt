-- What callers see of frames, windows and temporaries (docs/architecture.md, "Frames").
use Rattle.std.specs.Prelude.{◌≡◌, ℕ, ◌-◌, Bool, ◌==◌, List, [], Some, length}
use Rattle.std.specs.Prelude.{slice_get, slice_index_or}
use Rattle.rg_base.specs.declared.value.Word.{Word}
use Rattle.rg_frames.specs.declared.rows.Frame.{Frame}
use Rattle.rg_frames.specs.declared.rows.Window.{Window}

-- All slots from main's first, the first slot of the top frame, the frames and windows from main's, the temporaries of all
-- windows, where each window's temporaries begin, the number that the next window gets, and the room for so many more frames
-- and slots.
pub record Stack : Type 0 where
  pub slots : List Word
  pub first : ℕ
  pub frames : List Frame
  pub windows : List Window
  pub temps : List ℕ
  pub marks : List ℕ
  pub next : ℕ
  pub frame_room : ℕ
  pub slot_room : ℕ

-- the window on top is this one
abbrev pub IsTop : Stack → Window → Type 0
IsTop v w = slice_get v.windows (length v.windows - 1) ≡ Some w

-- where the top window's temporaries begin
abbrev pub mark : Stack → ℕ
mark v = slice_index_or v.marks (length v.marks - 1) 0

-- nothing was made yet
pub record IsEmpty (v : Stack) : Type 0 where
  pub slots : v.slots ≡ []
  pub first : v.first ≡ 0
  pub frames : v.frames ≡ []
  pub windows : v.windows ≡ []
  pub temps : v.temps ≡ []
  pub marks : v.marks ≡ []

-- whether a window has a region
abbrev pub has_region : ℕ → Window → Bool
has_region r w = w.region == r
