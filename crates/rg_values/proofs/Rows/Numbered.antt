-- A variable of the frame of a number, of which the lowest one has the number 0.
use Rattle.std.proofs.Common.{◌≡◌, ◌≢◌, inl, inr, ◌∙◌, refl, sym, ap, subst, ℕ, zero, suc, ◌≤◌, ◌==◌, Bool as Truth, true, false, if◌then◌else◌}
use Rattle.std.proofs.Common.{List, [], ◌∷◌, ◌++◌, length, map, reverse, slice_get, slice_set, Some, option_map, length-append, arith}
use Rattle.std.proofs.lemmas.Bool.{cases_eq}
use Rattle.std.proofs.lemmas.Bool.Decides.{nat_tests}
use Rattle.std.proofs.lemmas.List.{map-append, map-set, reverse-append}
use Rattle.std.proofs.lemmas.Option.{slice_get-map, same_Some}
use Rattle.rg_base.specs.declared.value.Val.{Val}
use Rattle.rg_tree.specs.Rows.Tables.{Tables}
use Rattle.rg_rules.specs.State.{Frame, set_at, set_in_frame}
use Rattle.rg_values.specs.declared.state.rows.FrameRow.{FrameRow}
use Rattle.rg_values.specs.Kept.{FrameKept, frame_of, kept_frame, target_of}
use Rattle.rg_values.specs.Shown.{locals_of}

-- the frames beneath the topmost one, of which the lowest one stands first
from-bottom : (t : Tables) (b : FrameKept) (bs : List FrameKept) →
    map (frame_of t) (reverse (b ∷ bs)) ≡ map (frame_of t) (reverse bs) ++ frame_of t b ∷ []
from-bottom t b bs = ap (map (frame_of t)) (reverse-append (b ∷ []) bs) ∙ map-append (frame_of t) (reverse bs) (b ∷ [])

module _ (i : ℕ) (v : Val) where
  -- with another value
  abbrev now : Frame → Frame
  now f = record f { locals = set_at i v f.locals }

  set-here : (n : ℕ) (f : Frame) (fs : List Frame) → length fs ≡ n → set_in_frame n i v (f ∷ fs) ≡ now f ∷ fs
  set-here n f fs e =
      let same : (length fs == n) ≡ true = grind (arith, nat_tests) in
      let P : Truth → Type 0 = λ b. ◌≡◌ {A = List Frame} (if b then now f ∷ fs else f ∷ set_in_frame n i v fs) (now f ∷ fs) in
      subst P (sym same) refl

  set-away : (n : ℕ) (f : Frame) (fs : List Frame) → length fs ≢ n → set_in_frame n i v (f ∷ fs) ≡ f ∷ set_in_frame n i v fs
  set-away n f fs e =
      let other : (length fs == n) ≡ false = grind (arith, nat_tests, e) in
      let P : Truth → Type 0 = λ b. ◌≡◌ {A = List Frame} (if b then now f ∷ fs else f ∷ set_in_frame n i v fs) (f ∷ set_in_frame n i v fs) in
      subst P (sym other) refl

  -- past the topmost one
  pub set-past : (n : ℕ) (fs : List Frame) → length fs ≤ n → set_in_frame n i v fs ≡ fs
  set-past n [] past = refl
  set-past n (f ∷ fs) past = set-away n f fs (λ e. omega (arith, e, past)) ∙ ap (λ q. f ∷ q) (set-past n fs (omega (arith, past)))

  set-last : (gs : List Frame) (l : Frame) → set_in_frame 0 i v (gs ++ l ∷ []) ≡ gs ++ now l ∷ []
  set-last [] l = set-here 0 l [] refl
  set-last (g ∷ gs) l =
      set-away 0 g (gs ++ l ∷ []) (λ e. omega (arith, e, length-append gs (l ∷ []))) ∙ ap (λ q. g ∷ q) (set-last gs l)

  set-before-last : (n : ℕ) (gs : List Frame) (l : Frame) → set_in_frame (suc n) i v (gs ++ l ∷ []) ≡ set_in_frame n i v gs ++ l ∷ []
  set-before-last n [] l = set-away (suc n) l [] (λ e. omega (arith, e))
  set-before-last n (g ∷ gs) l =
      let more : length (gs ++ l ∷ []) ≡ suc (length gs) = omega (arith, length-append gs (l ∷ [])) in
      elim (cases_eq (length gs) n) [
        | inl here ↦ set-here (suc n) g (gs ++ l ∷ []) (omega (arith, more, here)) ∙ sym (ap (λ q. q ++ l ∷ []) (set-here n g gs here))
        | inr away ↦
            set-away (suc n) g (gs ++ l ∷ []) (λ e. away (omega (arith, more, e))) ∙ ap (λ q. g ∷ q) (set-before-last n gs l)
            ∙ sym (ap (λ q. q ++ l ∷ []) (set-away n g gs away))
      ]

  set-kept : (t : Tables) (below : List FrameKept) (n : ℕ) (f g : FrameKept) → slice_get below n ≡ Some f →
      frame_of t g ≡ now (frame_of t f) → map (frame_of t) (reverse (slice_set below n g)) ≡ set_in_frame n i v (map (frame_of t) (reverse below))
  set-kept t [] n f g at is = absurd (cc)
  set-kept t (b ∷ bs) zero f g at is =
      let same : b ≡ f = same_Some b f at in
      from-bottom t g bs ∙ ap (λ q. map (frame_of t) (reverse bs) ++ q ∷ []) (is ∙ ap (λ q. now (frame_of t q)) (sym same))
      ∙ sym (set-last (map (frame_of t) (reverse bs)) (frame_of t b)) ∙ ap (set_in_frame 0 i v) (sym (from-bottom t b bs))
  set-kept t (b ∷ bs) (suc n) f g at is =
      from-bottom t b (slice_set bs n g) ∙ ap (λ q. q ++ frame_of t b ∷ []) (set-kept t bs n f g at is)
      ∙ sym (set-before-last n (map (frame_of t) (reverse bs)) (frame_of t b)) ∙ ap (set_in_frame (suc n) i v) (sym (from-bottom t b bs))

  -- the same, of the rows
  pub set-rows : (t : Tables) (below : List FrameRow) (n : ℕ) (f g : FrameRow) → slice_get below n ≡ Some f → g.target ≡ f.target →
      locals_of t g.locals.items ≡ set_at i v (locals_of t f.locals.items) →
      map (frame_of t) (reverse (map kept_frame (slice_set below n g))) ≡ set_in_frame n i v (map (frame_of t) (reverse (map kept_frame below)))
  set-rows t below n f g there target is =
      let frame : frame_of t (kept_frame g) ≡ now (frame_of t (kept_frame f)) =
      ap (λ q. let h : Frame = record { locals = q; target = target_of t g.target } in h) is
      ∙ ap (λ q. let h : Frame = record { locals = set_at i v (locals_of t f.locals.items); target = target_of t q } in h) target in
      ap (λ q. map (frame_of t) (reverse q)) (map-set kept_frame below n g)
      ∙ set-kept t (map kept_frame below) n (kept_frame f) (kept_frame g) (slice_get-map kept_frame below n ∙ ap (option_map kept_frame) there) frame
