-- What a push, a pop and a write do to the frames as lists of slots. For callers.
use Rattle.std.proofs.Common.{◌≡◌, ◌+◌, ◌++◌, ◌∷◌, ℕ, [], List, length, take, drop, reverse, set, refl, arith}
use Rattle.std.proofs.lemmas.List.{reverse-append, drop-set-add, take-set-le}
use Rattle.std.proofs.Math.Seq.{drop-append_seam, take-append_seam}
use Rattle.rg_base.specs.declared.value.Word.{Word}
use Rattle.rg_frames.specs.declared.rows.Frame.{Frame}
use Rattle.rg_frames.specs.Layers.{layers_from}

-- a frame that is pushed stands in front of the others
pub layers-push : (slots new : List Word) (first back : ℕ) (frames : List Frame)
    → layers_from (slots ++ new) (length slots) (reverse (frames ++ record { back = back; below = first } ∷ []))
    ≡ record { slots = new; back = back } ∷ layers_from slots first (reverse frames)
layers-push slots new first back frames =
    rw (reverse-append frames (record { back = back; below = first } ∷ []), drop-append_seam slots new, take-append_seam slots new) refl

-- a write changes the top frame alone
pub layers-set : (slots : List Word) (first s : ℕ) (w : Word) (f : Frame) (fs : List Frame)
    → layers_from (set slots (first + s) w) first (f ∷ fs)
    ≡ record { slots = set (drop first slots) s w; back = f.back } ∷ layers_from (take first slots) f.below fs
layers-set slots first s w f fs = rw (drop-set-add first slots s w, take-set-le first slots (first + s) w (omega arith)) refl
