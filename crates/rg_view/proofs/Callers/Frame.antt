-- Frames as the machine sees them: a slot that is read or written, slots that end, frames that come and go, and places.
use Rattle.std.proofs.Common.{◌≡◌, ◌≤◌, ◌<◌, ℕ, zero, suc, ◌+◌, ◌-◌, List, [], ◌∷◌, ◌++◌, Some, length, take, drop, map, replicate, reverse}
use Rattle.std.proofs.Common.{unwrap_or, slice_get, slice_set, length-append, refl, sym, ap, ◌∙◌, arith, subst}
use Rattle.std.proofs.lemmas.List.{take_more, map-set, length-take-le, length-drop, map-append, take-map, drop-take, reverse-append}
use Rattle.std.proofs.lemmas.List.{length-map, length-reverse, take-append-le, drop-append-le}
use Rattle.std.proofs.lemmas.Option.{slice_get_past, slice_get_within, slice_get-map, get_or_from_slice_get}
use Rattle.std.proofs.Math.Seq.{take-length}
use Rattle.rg_base.specs.declared.value.Val.{Val}
use Rattle.rg_base.specs.declared.value.Val.TheVariants as val
use Rattle.rg_base.specs.declared.value.Word.{Word}
use Rattle.rg_base.specs.declared.value.Word.TheVariants.{Nil}
use Rattle.rg_cells.specs.Table.{Heap}
use Rattle.rg_frames.specs.declared.rows.Frame.{Frame as FrameRow}
use Rattle.rg_frames.specs.Layers.{layers_from}
use Rattle.rg_frames.specs.Stack.{Stack}
use Rattle.rg_frames.specs.Changes.{IsTopFrame, with_slot, ended, pushed_of, popped}
use Rattle.rg_frames.proofs.Layered.{layers-push, layers-set}
use Rattle.rg_stack.specs.Machine.{Frame, top_slots, with_slots, ended_slots, slots_below, place_of}
use Rattle.rg_stack.specs.Tops.{frame_number}
use Rattle.rg_heap.specs.Answers.{val_of}
use Rattle.rg_view.specs.View.{frame_of, frames_of}
use Rattle.rg_view.specs.Lain.{Nested, Lain}

-- a list is its front and its last element
pub front-last : {A : Type 0} → (xs : List A) (x : A) → slice_get xs (length xs - 1) ≡ Some x → xs ≡ take (length xs - 1) xs ++ x ∷ []
front-last xs x e =
    let within = slice_get_within xs (length xs - 1) x e in
    let all : length xs - 1 + 1 ≡ length xs = omega (arith, within) in
    sym (take-length xs) ∙ ap (λ n. take n xs) (sym all) ∙ take_more xs (length xs - 1) x within
    ∙ ap (λ y. take (length xs - 1) xs ++ y ∷ []) (get_or_from_slice_get xs (length xs - 1) x x e)

-- the last element is the first of the reversed list
pub last-reverse : {A : Type 0} → (xs : List A) (x : A) → slice_get xs (length xs - 1) ≡ Some x → reverse xs ≡ x ∷ reverse (take (length xs - 1) xs)
last-reverse xs x e = ap reverse (front-last xs x e) ∙ reverse-append (take (length xs - 1) xs) (x ∷ [])

module _ (heap : Heap) where
  -- the frames that lie over slots
  abbrev pub frames_from : List Word → (first : ℕ) → List FrameRow → List Frame
  frames_from slots first fs = map (frame_of heap) (layers_from slots first fs)

  -- a frame in front of others
  abbrev framed : List Val → ℕ → List Frame → List Frame
  framed vs back fs = record { slots = vs; back = back } ∷ fs

  drop-none : {A : Type 0} → (n : ℕ) → drop {A = A} n [] ≡ []
  drop-none zero = refl
  drop-none (suc n) = refl

  no-slots : (first : ℕ) (slots : List Word) → length slots ≡ 0 → [] ≡ map (val_of heap) (drop first slots)
  no-slots first [] e = sym (ap (map (val_of heap)) (drop-none first))
  no-slots first (w ∷ ws) e = absurd cc

  -- the slots of the topmost frame
  pub top-slots : (slots : List Word) (first : ℕ) (fs : List FrameRow) → Nested first (length slots) fs
      → top_slots (frames_from slots first fs) ≡ map (val_of heap) (drop first slots)
  top-slots slots first [] h = no-slots first slots h
  top-slots slots first (f ∷ fs) h = refl

  slice_get-drop : {A : Type 0} → (n k : ℕ) (xs : List A) → slice_get (drop n xs) k ≡ slice_get xs (n + k)
  slice_get-drop zero k xs = let e : k ≡ 0 + k = omega arith in ap (slice_get xs) e
  slice_get-drop (suc n) k [] = refl
  slice_get-drop (suc n) k (x ∷ xs) = let e : suc (n + k) ≡ suc n + k = omega arith in slice_get-drop n k xs ∙ ap (slice_get (x ∷ xs)) e

  -- a slot of the topmost frame is read
  pub slot-there : (slots : List Word) (first s : ℕ) (fs : List FrameRow) (w : Word) → Nested first (length slots) fs
      → slice_get slots (first + s) ≡ Some w
      → unwrap_or (slice_get (top_slots (frames_from slots first fs)) s) val.Nil ≡ (val_of heap) w
  slot-there slots first s fs w h e =
      rw (top-slots slots first fs h, slice_get-map (val_of heap) (drop first slots) s, slice_get-drop first s slots, e) refl

  -- past the slots of the topmost frame there is nil
  pub slot-past : (slots : List Word) (first s : ℕ) (fs : List FrameRow) → Nested first (length slots) fs → length slots - first ≤ s
      → unwrap_or (slice_get (top_slots (frames_from slots first fs)) s) val.Nil ≡ val.Nil
  slot-past slots first s fs h past =
      let dropped = length-drop first slots in
      rw (
        top-slots slots first fs h,
        slice_get-map (val_of heap) (drop first slots) s,
        slice_get_past (drop first slots) s
            (omega (arith, dropped, past)),
      ) refl

  -- a slot of the topmost frame is written
  pub set-slot : (slots : List Word) (first s : ℕ) (w : Word) (fs : List FrameRow)
      → frames_from (slice_set slots (first + s) w) first fs
      ≡ with_slots (slice_set (top_slots (frames_from slots first fs)) s ((val_of heap) w)) (frames_from slots first fs)
  set-slot slots first s w [] = refl
  set-slot slots first s w (f ∷ fs) =
      ap (map (frame_of heap)) (layers-set slots first s w f fs)
      ∙ ap (λ vs. framed vs f.back (frames_from (take first slots) f.below fs)) (map-set (val_of heap) (drop first slots) s w)

  pub map-nil : (n : ℕ) → map (val_of heap) (replicate n Nil) ≡ replicate n val.Nil
  map-nil zero = refl
  map-nil (suc n) = ap (λ vs. val.Nil ∷ vs) (map-nil n)

  take-take : (n m : ℕ) (xs : List Word) → n ≤ m → take n (take m xs) ≡ take n xs
  take-take zero m xs le = refl
  take-take (suc n) zero xs le = absurd (omega (arith, le))
  take-take (suc n) (suc m) [] le = refl
  take-take (suc n) (suc m) (x ∷ xs) le = ap (λ ys. x ∷ ys) (take-take n m xs (omega (arith, le)))

  -- the slots of the topmost frame from one on are nil
  pub end-slots : (slots : List Word) (first s : ℕ) (fs : List FrameRow) → first + s ≤ length slots
      → frames_from (take (first + s) slots ++ replicate (length slots - (first + s)) Nil) first fs
      ≡ with_slots (ended_slots s (top_slots (frames_from slots first fs))) (frames_from slots first fs)
  end-slots slots first s [] h = refl
  end-slots slots first s (f ∷ fs) h =
      let n = length slots - (first + s) in
      let taken = length-take-le (first + s) slots h in
      let top : drop first (take (first + s) slots ++ replicate n Nil) ≡ take s (drop first slots) ++ replicate n Nil =
      drop-append-le first (take (first + s) slots) (replicate n Nil) (omega (arith, taken))
      ∙ ap (λ xs. xs ++ replicate n Nil) (drop-take first s slots) in
      let under : take first (take (first + s) slots ++ replicate n Nil) ≡ take first slots =
      take-append-le first (take (first + s) slots) (replicate n Nil) (omega (arith, taken)) ∙ take-take first (first + s) slots (omega arith) in
      let count : n ≡ length (map (val_of heap) (drop first slots)) - s =
      omega (arith, length-map (drop first slots) (val_of heap), length-drop first slots) in
      let ended : map (val_of heap) (take s (drop first slots) ++ replicate n Nil) ≡ ended_slots s (map (val_of heap) (drop first slots)) =
      map-append (val_of heap) (take s (drop first slots)) (replicate n Nil)
      ∙ ap (λ vs. vs ++ map (val_of heap) (replicate n Nil)) (sym (take-map (val_of heap) s (drop first slots)))
      ∙ ap (λ vs. take s (map (val_of heap) (drop first slots)) ++ vs) (map-nil n)
      ∙ ap (λ k. take s (map (val_of heap) (drop first slots)) ++ replicate k val.Nil) count in
      rw (top, under, ended) refl

  -- the slots of all frames together
  pub all-slots : (slots : List Word) (first : ℕ) (fs : List FrameRow) → Nested first (length slots) fs
      → slots_below (frames_from slots first fs) ≡ length slots
  all-slots slots first [] h = sym h
  all-slots slots first (f ∷ fs) h =
      let taken = length-take-le first slots h.0 in
      let P : ℕ → Type 0 = λ n. Nested f.below n fs in
      let below = all-slots (take first slots) f.below fs (subst P (sym taken) h.1) in
      omega (arith, h.0, taken, below, length-map (drop first slots) (val_of heap), length-drop first slots)

  -- the number of slots of the topmost frame
  pub top-size : (slots : List Word) (first : ℕ) (fs : List FrameRow) → Nested first (length slots) fs
      → length (top_slots (frames_from slots first fs)) ≡ length slots - first
  top-size slots first fs h = ap length (top-slots slots first fs h) ∙ length-map (drop first slots) (val_of heap) ∙ length-drop first slots

  -- nothing ends past them
  pub end-past : (slots : List Word) (first s : ℕ) (fs : List FrameRow) → length slots - first ≤ s
      → frames_from slots first fs ≡ with_slots (ended_slots s (top_slots (frames_from slots first fs))) (frames_from slots first fs)
  end-past slots first s [] past = refl
  end-past slots first s (f ∷ fs) past =
      ap (λ vs. framed vs f.back (frames_from (take first slots) f.below fs))
      (stays (map (val_of heap) (drop first slots)) s (omega (arith, length-map (drop first slots) (val_of heap), length-drop first slots, past)))
    where
      stays : (vs : List Val) (n : ℕ) → length vs ≤ n → vs ≡ ended_slots n vs
      stays [] zero le = refl
      stays [] (suc n) le = let e : 0 ≡ 0 - suc n = omega arith in ap (λ k. replicate k val.Nil) e
      stays (v ∷ vs) zero le = absurd (omega (arith, le))
      stays (v ∷ vs) (suc n) le =
          let e : length vs - n ≡ suc (length vs) - suc n = omega arith in
          ap (λ us. v ∷ us) (stays vs n (omega (arith, le)) ∙ ap (λ k. take n vs ++ replicate k val.Nil) e)

  -- the slots of the frames beneath the topmost one
  under : (slots : List Word) (first : ℕ) (f : FrameRow) (fs : List FrameRow) → Nested first (length slots) (f ∷ fs)
      → slots_below (frames_from (take first slots) f.below fs) ≡ first
  under slots first f fs h =
      let taken = length-take-le first slots h.0 in
      let P : ℕ → Type 0 = λ n. Nested f.below n fs in
      all-slots (take first slots) f.below fs (subst P (sym taken) h.1) ∙ taken

  -- the place of a slot of the topmost frame
  pub place-there : (slots : List Word) (first z : ℕ) (fs : List FrameRow) → Nested first (length slots) fs → z < length slots - first
      → place_of (frames_from slots first fs) z ≡ first + z
  place-there slots first z [] h within = absurd (omega (arith, h, within))
  place-there slots first z (f ∷ fs) h within = ap (λ n. n + z) (under slots first f fs h)

  -- a frame comes
  pub pushed-frames : (v : Stack) (back : ℕ) (words : List Word)
      → frames_of heap (pushed_of v back words) ≡ framed (map (val_of heap) words) back (frames_of heap v)
  pushed-frames v back words = ap (map (frame_of heap)) (layers-push v.slots words v.first back v.frames)

  pub pushed-lain : (v : Stack) (back : ℕ) (words : List Word) → Lain v → Lain (pushed_of v back words)
  pushed-lain v back words h =
      rw (reverse-append v.frames (record { back = back; below = v.first } ∷ [])) (omega (arith, length-append v.slots words), h)

  -- a slot of the topmost frame is written
  pub slot-frames : (v : Stack) (s : ℕ) (w : Word)
      → frames_of heap (with_slot v s w) ≡ with_slots (slice_set (top_slots (frames_of heap v)) s (val_of heap w)) (frames_of heap v)
  slot-frames v s w = set-slot v.slots v.first s w (reverse v.frames)

  -- the slots of the topmost frame from one on end
  pub ended-frames : (v : Stack) (s : ℕ) → v.first + s ≤ length v.slots
      → frames_of heap (ended v s) ≡ with_slots (ended_slots s (top_slots (frames_of heap v))) (frames_of heap v)
  ended-frames v s le = end-slots v.slots v.first s (reverse v.frames) le

  pub popped-lain : (v : Stack) (f : FrameRow) → IsTopFrame v f → Lain v → Lain (popped v f)
  popped-lain v f top h =
      let P : List FrameRow → Type 0 = λ fs. Nested v.first (length v.slots) fs in
      let nested = subst P (last-reverse v.frames f top) h in
      let Q : ℕ → Type 0 = λ n. Nested f.below n (reverse (take (length v.frames - 1) v.frames)) in
      subst Q (sym (length-take-le v.first v.slots nested.0)) nested.1

  -- how many frames there are
  layer-count : (slots : List Word) (first : ℕ) (fs : List FrameRow) → length (frames_from slots first fs) ≡ length fs
  layer-count slots first [] = refl
  layer-count slots first (f ∷ fs) = ap suc (layer-count (take first slots) f.below fs)

  pub frame-count : (v : Stack) → length (frames_of heap v) ≡ length v.frames
  frame-count v = layer-count v.slots v.first (reverse v.frames) ∙ length-reverse v.frames

  -- how many are beneath the topmost one
  pub frame-number : (v : Stack) → length v.frames - 1 ≡ frame_number (frames_of heap v)
  frame-number v = ap (λ n. n - 1) (sym (frame-count v)) ∙ beneath (frames_of heap v)
    where
      beneath : (fs : List Frame) → length fs - 1 ≡ frame_number fs
      beneath [] = refl
      beneath (f ∷ fs) = let e : suc (length fs) - 1 ≡ length fs = omega arith in e
