-- How frames lie over their slots (docs/architecture.md, "Frames").
use Rattle.std.specs.Prelude.{◌≡◌, ◌≤◌, ℕ, List, [], ◌∷◌, reverse, length}
use Rattle.rg_frames.specs.declared.rows.Frame.{Frame as FrameRow}
use Rattle.rg_frames.specs.Stack.{Stack}

-- frames lie over so many slots, the topmost from `first` and the lowest from 0
abbrev pub Nested : (first slots : ℕ) → List FrameRow → Type 0
Nested first slots [] = slots ≡ 0
Nested first slots (f ∷ fs) = (first ≤ slots) × Nested f.below first fs

abbrev pub Lain : Stack → Type 0
Lain v = Nested v.first (length v.slots) (reverse v.frames)
