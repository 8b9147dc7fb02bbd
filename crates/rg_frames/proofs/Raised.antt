-- What was never written stays nil where a slot of any frame is written.
use Rattle.std.proofs.Common.{◌≡◌, ◌≢◌, ◌≤◌, ℕ, zero, suc, List, [], ◌∷◌, Option, Some, None, length, slice_get, slice_set}
use Rattle.std.proofs.Common.{refl, sym, ap, ◌∙◌, subst, arith, inl, inr}
use Rattle.std.proofs.lemmas.Option.{slice_get_within}
use Rattle.std.proofs.lemmas.List.{length-set}
use Rattle.std.proofs.lemmas.Bool.{cases_lt, cases_eq}
use Rattle.rg_base.specs.declared.value.Word.{Word}
use Rattle.rg_base.specs.declared.value.Word.TheVariants.{Nil}
use Rattle.rg_frames.specs.declared.rows.Frame.{Frame}
use Rattle.rg_frames.specs.Inner.Layout.{NilFrom, Unwritten, IsPast, end_of}
use Rattle.rg_frames.proofs.Unwriting.{got-beside, unwritten-top}

-- where the frame beneath a frame ends, and where the top frame does
pub end_at : (frames : List Frame) (first k : ℕ) (f : Frame) → slice_get frames k ≡ Some f → end_of frames first k ≡ f.below
end_at frames first k f e = ap (λ (o : Option Frame). elim o [ None ↦ first | Some g ↦ g.below ]) e

pub end_top : (frames : List Frame) (first k : ℕ) → length frames ≤ k → end_of frames first k ≡ first
end_top [] first k l = refl
end_top (f ∷ fs) first zero l = absurd (omega (arith, l))
end_top (f ∷ fs) first (suc k) l = end_top fs first k (omega (arith, l))

pub got-written : {X : Type 0} → (xs : List X) (k : ℕ) (y x : X) → slice_get (slice_set xs k y) k ≡ Some x → x ≡ y
got-written [] k y x e = absurd cc
got-written (z ∷ xs) zero y x e = cc
got-written (z ∷ xs) (suc k) y x e = got-written xs k y x e

-- what is nil from a place on is so from a later one
pub narrow : (slots : List Word) (from then to : ℕ) → from ≤ then → then ≤ to → NilFrom slots from to → NilFrom slots then to
narrow slots from then to a b h = record { order = b; nil = λ i w p q e. h.nil i w (omega (arith, a, p)) q e }

-- the top frame's slots are nil from a later place on
pub unwritten-live : (slots : List Word) (first : ℕ) (frames : List Frame) (live then : ℕ) (kept : List ℕ) → live ≤ then → then ≤ length slots
    → Unwritten slots first frames live kept → Unwritten slots first frames then kept
unwritten-live slots first frames live then kept a b h = record {
  top = narrow slots live then (length slots) a b h.top;
  under = h.under;
  beneath = h.beneath;
  rise = h.rise;
  below = h.below;
  within = h.within;
  as_many = h.as_many;
}

-- so are those of a frame beneath
pub unwritten-kept : (slots : List Word) (first : ℕ) (frames : List Frame) (live : ℕ) (kept : List ℕ) (k was then : ℕ)
    → slice_get kept k ≡ Some was → was ≤ then → (was ≤ end_of frames first (suc k) → then ≤ end_of frames first (suc k))
    → Unwritten slots first frames live kept → Unwritten slots first frames live (slice_set kept k then)
unwritten-kept slots first frames live kept k was then g a b h =
    let n : length (slice_set kept k then) ≡ length kept = length-set kept k then in
    record {
      top = h.top;
      under = λ j l e p. elim (cases_eq j k) [
        | inl q ↦
            let t : suc k ≡ length kept = omega (arith, n, e, q) in
            let is : l ≡ then = got-written kept k then l (ap (slice_get (slice_set kept k then)) (sym q) ∙ p) in
            let nil : NilFrom slots was first = h.under k was t g in
            let top : end_of frames first (suc k) ≡ first = end_top frames first (suc k) (omega (arith, t, h.as_many)) in
            rw is (narrow slots was then first a (omega (arith, top, b (omega (arith, top, nil.order)))) nil)
        | inr q ↦ h.under j l (omega (arith, n, e)) (got-beside kept k then j l q p)
      ];
      beneath = λ j l f p r. elim (cases_eq j k) [
        | inl q ↦
            let is : l ≡ then = got-written kept k then l (ap (slice_get (slice_set kept k then)) (sym q) ∙ p) in
            let t : slice_get frames (suc k) ≡ Some f = ap (λ z. slice_get frames (suc z)) (sym q) ∙ r in
            let nil : NilFrom slots was f.below = h.beneath k was f g t in
            let top : end_of frames first (suc k) ≡ f.below = end_at frames first (suc k) f t in
            rw is (narrow slots was then f.below a (omega (arith, top, b (omega (arith, top, nil.order)))) nil)
        | inr q ↦ h.beneath j l f (got-beside kept k then j l q p) r
      ];
      rise = h.rise;
      below = h.below;
      within = h.within;
      as_many = n ∙ h.as_many;
    }

-- what is nil stays so where a place past it is written
pub nil-past : (slots : List Word) (place from to : ℕ) (w : Word) → IsPast place from to → NilFrom slots from to
    → NilFrom (slice_set slots place w) from to
nil-past slots place from to w a h = record {
  order = h.order;
  nil = λ i x p q e. h.nil i x p q (got-beside slots place w i x (λ r. elim a [ inl b ↦ omega (arith, b, r, p) | inr b ↦ omega (arith, b, r, q) ]) e);
}

-- a place is written that is past all that is nil
pub unwritten-past : (slots : List Word) (first : ℕ) (frames : List Frame) (live : ℕ) (kept : List ℕ) (place : ℕ) (w : Word)
    → IsPast place live (length slots) → ((j m : ℕ) → slice_get kept j ≡ Some m → IsPast place m (end_of frames first (suc j)))
    → Unwritten slots first frames live kept → Unwritten (slice_set slots place w) first frames live kept
unwritten-past slots first frames live kept place w a b h =
    let n : length (slice_set slots place w) ≡ length slots = length-set slots place w in
    record {
      top = rw n (nil-past slots place live (length slots) w a h.top);
      under = λ k l e p.
          let top : end_of frames first (suc k) ≡ first = end_top frames first (suc k) (omega (arith, e, h.as_many)) in
          let P : ℕ → Type 0 = λ z. IsPast place l z in
          nil-past slots place l first w (subst P top (b k l p)) (h.under k l e p);
      beneath = λ k l f p q.
          let P : ℕ → Type 0 = λ z. IsPast place l z in
          nil-past slots place l f.below w (subst P (end_at frames first (suc k) f q) (b k l p)) (h.beneath k l f p q);
      rise = h.rise;
      below = h.below;
      within = omega (arith, n, h.within);
      as_many = h.as_many;
    }

-- a place that isn't nil is past what is
past-by : (slots : List Word) (place from to : ℕ) (x : Word) → slice_get slots place ≡ Some x → x ≢ Nil → NilFrom slots from to → IsPast place from to
past-by slots place from to x e d h = elim (cases_lt place from) [
  | inl a ↦ inl a
  | inr a ↦ elim (cases_lt place to) [ inl b ↦ absurd (d (h.nil place x a b e)) | inr b ↦ inr b ]
]

-- what is kept for a frame tells from where on it is nil up to its end
nil-to-end : (slots : List Word) (first : ℕ) (frames : List Frame) (live : ℕ) (kept : List ℕ) (k l : ℕ) → slice_get kept k ≡ Some l
    → Unwritten slots first frames live kept → NilFrom slots l (end_of frames first (suc k))
nil-to-end slots first frames live kept k l p h = by_frame (slice_get frames (suc k)) refl
  where
    by_frame : (o : Option Frame) → slice_get frames (suc k) ≡ o → NilFrom slots l (end_of frames first (suc k))
    by_frame None e =
        let t : length frames ≤ suc k = past frames (suc k) e in
        let s : suc k ≡ length kept = omega (arith, t, slice_get_within kept k l p, h.as_many) in
        rw (end_top frames first (suc k) t) (h.under k l s p)
      where
        past : (fs : List Frame) (j : ℕ) → slice_get fs j ≡ None → length fs ≤ j
        past [] j e = omega arith
        past (f ∷ fs) zero e = absurd cc
        past (f ∷ fs) (suc j) e = omega (arith, past fs j e)
    by_frame (Some f) e = rw (end_at frames first (suc k) f e) (h.beneath k l f p e)

-- a slot that isn't nil is written
pub unwritten-over : (slots : List Word) (first : ℕ) (frames : List Frame) (live : ℕ) (kept : List ℕ) (place : ℕ) (x w : Word)
    → slice_get slots place ≡ Some x → x ≢ Nil → Unwritten slots first frames live kept
    → Unwritten (slice_set slots place w) first frames live kept
unwritten-over slots first frames live kept place x w e d h =
    unwritten-past slots first frames live kept place w (past-by slots place live (length slots) x e d h.top)
    (λ j m p. past-by slots place m (end_of frames first (suc j)) x e d (nil-to-end slots first frames live kept j m p h)) h

-- a slot of the top frame is made nil
pub unwritten-nil : (slots : List Word) (first : ℕ) (frames : List Frame) (live : ℕ) (kept : List ℕ) (place : ℕ) → first ≤ place
    → Unwritten slots first frames live kept → Unwritten (slice_set slots place Nil) first frames live kept
unwritten-nil slots first frames live kept place low h =
    let n : length (slice_set slots place Nil) ≡ length slots = length-set slots place Nil in
    unwritten-top slots (slice_set slots place Nil) first frames live live kept n
    (λ k x p e. got-beside slots place Nil k x (λ q. omega (arith, q, p, low)) e)
    (record {
      order = omega (arith, n, h.top.order);
      nil = λ i x p q e. elim (cases_eq i place) [
        | inl r ↦ got-written slots place Nil x (ap (slice_get (slice_set slots place Nil)) (sym r) ∙ e)
        | inr r ↦ h.top.nil i x p (omega (arith, q, n)) (got-beside slots place Nil i x r e)
      ];
    })
    h
