-- The frames as lists of slots, the top one first (docs/architecture.md, "Frames").
use Rattle.std.specs.Prelude.{ℕ, List, [], ◌∷◌, drop, take, reverse}
use Rattle.rg_base.specs.declared.value.Word.{Word}
use Rattle.rg_frames.specs.declared.rows.Frame.{Frame}
use Rattle.rg_frames.specs.Stack.{Stack}

-- a frame's slots, and where its return goes to
pub record Layer : Type 0 where
  pub slots : List Word
  pub back : ℕ

-- the frames that lie over these slots, the one on top from `first`
abbrev pub layers_from : List Word → (first : ℕ) → List Frame → List Layer
layers_from slots first [] = []
layers_from slots first (f ∷ fs) = record { slots = drop first slots; back = f.back } ∷ layers_from (take first slots) f.below fs

-- the frames, the top one first
abbrev pub layers : Stack → List Layer
layers v = layers_from v.slots v.first (reverse v.frames)
