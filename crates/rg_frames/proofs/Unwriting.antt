-- What was never written stays nil through each change of the frames.
use Rattle.std.proofs.Common.{◌≡◌, ◌≤◌, ◌<◌, ◌+◌, ◌-◌, ◌++◌, ◌∷◌, ℕ, zero, suc, [], Some, List, length, take, drop, replicate, slice_get}
use Rattle.std.proofs.Common.{slice_set, refl, sym, ap, ◌∙◌, arith, length-append, ◌↔◌, Option, None, IsSome, IsNone, get_or, option_to_list}
use Rattle.std.proofs.lemmas.Option.{slice_get_within, slice_get-get_or, same_Some}
use Rattle.std.proofs.Math.Seq.{take-append_seam}
use Rattle.std.proofs.lemmas.List.{length-take-le, length-replicate, take-append-drop, length-set}
use Rattle.rg_base.specs.declared.value.Word.{Word}
use Rattle.rg_base.specs.declared.value.Word.TheVariants.{Nil}
use Rattle.rg_frames.specs.declared.rows.Frame.{Frame}
use Rattle.rg_frames.specs.declared.rows.Window.{Window}
use Rattle.rg_frames.specs.Stack.{Stack, IsTop, mark}
use Rattle.rg_frames.specs.Changes.{ended, popped, pushed, pushed_of}
use Rattle.rg_frames.specs.Inner.Layout.{NilFrom, Unwritten, Lies}
use Rattle.rg_frames.proofs.Rising.{From, old, last, got-append, got-take}

-- an element of a list is an element of a longer one
pub got-longer : {X : Type 0} → (xs ys : List X) (k : ℕ) (x : X) → slice_get xs k ≡ Some x → slice_get (xs ++ ys) k ≡ Some x
got-longer [] ys k x e = absurd cc
got-longer (y ∷ xs) ys zero x e = e
got-longer (y ∷ xs) ys (suc k) x e = got-longer xs ys k x e

-- an element in front of a seam is one of the first list
pub got-front : {X : Type 0} → (xs ys : List X) (k : ℕ) (x : X) → k < length xs → slice_get (xs ++ ys) k ≡ Some x → slice_get xs k ≡ Some x
got-front [] ys k x at e = absurd (omega (arith, at))
got-front (y ∷ xs) ys zero x at e = e
got-front (y ∷ xs) ys (suc k) x at e = got-front xs ys k x (omega (arith, at)) e

-- the element at a seam
pub got-seam : {X : Type 0} → (xs : List X) (y : X) → slice_get (xs ++ y ∷ []) (length xs) ≡ Some y
got-seam [] y = refl
got-seam (x ∷ xs) y = got-seam xs y

-- an element behind a seam is one of the second list
pub got-behind : {X : Type 0} → (xs ys : List X) (k j : ℕ) (x : X) → k ≡ length xs + j → slice_get (xs ++ ys) k ≡ Some x
    → slice_get ys j ≡ Some x
got-behind [] ys k j x at e =
    let p : k ≡ j = omega (arith, at) in
    rw p at e
got-behind (y ∷ xs) ys zero j x at e = absurd (omega (arith, at))
got-behind (y ∷ xs) ys (suc k) j x at e = got-behind xs ys k j x (omega (arith, at)) e

pub nil-of : (n k : ℕ) (w : Word) → slice_get (replicate n Nil) k ≡ Some w → w ≡ Nil
nil-of zero k w e = absurd cc
nil-of (suc n) zero w e = cc
nil-of (suc n) (suc k) w e = nil-of n k w e

-- an element beside a write is as it was
pub got-beside : {X : Type 0} → (xs : List X) (i : ℕ) (y : X) (k : ℕ) (x : X) → (k ≡ i → ⊥) → slice_get (slice_set xs i y) k ≡ Some x
    → slice_get xs k ≡ Some x
got-beside [] i y k x at e = e
got-beside (z ∷ xs) zero y zero x at e = absurd (at refl)
got-beside (z ∷ xs) zero y (suc k) x at e = e
got-beside (z ∷ xs) (suc i) y zero x at e = e
got-beside (z ∷ xs) (suc i) y (suc k) x at e = got-beside xs i y k x (λ q. at (ap suc q)) e

-- what is nil from one place on, one may write as so many nils
pub nils : (slots : List Word) (from n : ℕ) → n + from ≡ length slots → NilFrom slots from (length slots) → drop from slots ≡ replicate n Nil
nils [] zero zero e h = refl
nils [] zero (suc n) e h = absurd (omega (arith, e))
nils [] (suc k) n e h = absurd (omega (arith, h.order))
nils (w ∷ ws) zero zero e h = absurd (omega (arith, e))
nils (w ∷ ws) zero (suc n) e h =
    ap (λ x. x ∷ drop 0 ws) (h.nil 0 w (omega arith) (omega arith) refl)
    ∙ ap (λ xs. Nil ∷ xs) (nils ws 0 n (omega (arith, e)) (record {
      order = omega arith;
      nil = λ i x p q e. h.nil (suc i) x (omega arith) (omega (arith, q)) e;
    }))
nils (w ∷ ws) (suc k) n e h = nils ws k n (omega (arith, e)) (record {
  order = omega (arith, h.order);
  nil = λ i x p q e. h.nil (suc i) x (omega (arith, p)) (omega (arith, q)) e;
})

-- the slots in front of a seam, and behind it nothing but nil
pub all-nils : (slots : List Word) (from : ℕ) → NilFrom slots from (length slots)
    → slots ≡ take from slots ++ replicate (length slots - from) Nil
all-nils slots from h = sym (take-append-drop from slots)
    ∙ ap (λ xs. take from slots ++ xs) (nils slots from (length slots - from) (omega (arith, h.order)) h)

-- other slots, which are the same in front of a place
pub nil-same : (slots new : List Word) (most from to : ℕ) → to ≤ most
    → ((k : ℕ) (w : Word) → k < most → slice_get new k ≡ Some w → slice_get slots k ≡ Some w) → NilFrom slots from to → NilFrom new from to
nil-same slots new most from to le same h = record {
  order = h.order;
  nil = λ i w p q e. h.nil i w p q (same i w (omega (arith, q, le)) e);
}

-- the top frame's slots change
pub unwritten-top : (slots new : List Word) (first : ℕ) (frames : List Frame) (live then : ℕ) (kept : List ℕ)
    → length new ≡ length slots → ((k : ℕ) (w : Word) → k < first → slice_get new k ≡ Some w → slice_get slots k ≡ Some w)
    → NilFrom new then (length new) → Unwritten slots first frames live kept → Unwritten new first frames then kept
unwritten-top slots new first frames live then kept n same nil h = record {
  top = nil;
  under = λ k l e p. nil-same slots new first l first (omega arith) same (h.under k l e p);
  beneath = λ k l f p q. nil-same slots new first l f.below (h.below (suc k) f q) same (h.beneath k l f p q);
  rise = h.rise;
  below = h.below;
  within = omega (arith, n, h.within);
  as_many = h.as_many;
}

-- one slot of the top frame is written
pub unwritten-set : (slots : List Word) (first : ℕ) (frames : List Frame) (live then : ℕ) (kept : List ℕ) (place : ℕ) (w : Word)
    → first ≤ place → live ≤ then → place < then → then ≤ length slots → Unwritten slots first frames live kept
    → Unwritten (slice_set slots place w) first frames then kept
unwritten-set slots first frames live then kept place w a b c d h =
    let n : length (slice_set slots place w) ≡ length slots = length-set slots place w in
    unwritten-top slots (slice_set slots place w) first frames live then kept n
    (λ k x p e. got-beside slots place w k x (λ q. omega (arith, a, p, q)) e)
    (record {
      order = omega (arith, n, d);
      nil = λ i x p q e. h.top.nil i x (omega (arith, b, p)) (omega (arith, q, n))
          (got-beside slots place w i x (λ r. omega (arith, r, p, c)) e);
    })
    h

-- the top frame's slots from one on are made nil
pub unwritten-end : (slots : List Word) (first : ℕ) (frames : List Frame) (live from : ℕ) (kept : List ℕ)
    → first ≤ from → from ≤ length slots → Unwritten slots first frames live kept
    → Unwritten (take from slots ++ replicate (length slots - from) Nil) first frames from kept
unwritten-end slots first frames live from kept a b h =
    let rest : List Word = replicate (length slots - from) Nil in
    let m : length (take from slots) ≡ from = length-take-le from slots b in
    let r : length rest ≡ length slots - from = length-replicate (length slots - from) Nil in
    let n : length (take from slots ++ rest) ≡ length slots = omega (arith, length-append (take from slots) rest, m, r, b) in
    unwritten-top slots (take from slots ++ rest) first frames live from kept n
    (λ k x p e. got-take from slots k x (got-front (take from slots) rest k x (omega (arith, m, p, a)) e))
    (record {
      order = omega (arith, n, b);
      nil = λ i x p q e. nil-of (length slots - from) (i - length (take from slots)) x
          (got-behind (take from slots) rest i (i - length (take from slots)) x (omega (arith, m, p)) e);
    })
    h

push-under : (slots all : List Word) (frames : List Frame) (first live : ℕ) (kept : List ℕ) (k l : ℕ)
    → ((i : ℕ) (w : Word) → i < length slots → slice_get all i ≡ Some w → slice_get slots i ≡ Some w) → k ≡ length kept
    → Unwritten slots first frames live kept → From kept live k l → NilFrom all l (length slots)
push-under slots all frames first live kept k l same e h (old p) = absurd (omega (arith, e, slice_get_within kept k l p))
push-under slots all frames first live kept k l same e h (last p q) =
    rw q (nil-same slots all (length slots) live (length slots) (omega arith) same h.top)

push-beneath : (slots all : List Word) (frames : List Frame) (first live : ℕ) (kept : List ℕ) (new : Frame) (k l : ℕ) (f : Frame)
    → ((i : ℕ) (w : Word) → i < length slots → slice_get all i ≡ Some w → slice_get slots i ≡ Some w) → new.below ≡ first
    → Unwritten slots first frames live kept → From kept live k l → From frames new (suc k) f → NilFrom all l f.below
push-beneath slots all frames first live kept new k l f same b h (old p) (old q) =
    nil-same slots all (length slots) l f.below (omega (arith, h.within, h.below (suc k) f q)) same (h.beneath k l f p q)
push-beneath slots all frames first live kept new k l f same b h (old p) (last e q) =
    rw (q, b) (nil-same slots all (length slots) l first h.within same (h.under k l (e ∙ sym h.as_many) p))
push-beneath slots all frames first live kept new k l f same b h (last d p) (old q) =
    absurd (omega (arith, d, h.as_many, slice_get_within frames (suc k) f q))
push-beneath slots all frames first live kept new k l f same b h (last d p) (last e q) = absurd (omega (arith, d, e, h.as_many))

push-below : (slots : List Word) (first : ℕ) (frames : List Frame) (live : ℕ) (kept : List ℕ) (new : Frame) (k : ℕ) (f : Frame)
    → new.below ≡ first → Unwritten slots first frames live kept → From frames new k f → f.below ≤ length slots
push-below slots first frames live kept new k f b h (old p) = omega (arith, h.below k f p, h.within)
push-below slots first frames live kept new k f b h (last e p) =
    let a : f.below ≡ new.below = ap (λ (x : Frame). x.below) p in
    omega (arith, a, b, h.within)

push-rise : (slots : List Word) (first : ℕ) (frames : List Frame) (live : ℕ) (kept : List ℕ) (new : Frame) (j k : ℕ) (f g : Frame)
    → new.below ≡ first → j ≤ k → Unwritten slots first frames live kept → From frames new j f → From frames new k g → f.below ≤ g.below
push-rise slots first frames live kept new j k f g b at h (old p) (old q) = h.rise j k f g at p q
push-rise slots first frames live kept new j k f g b at h (old p) (last e q) =
    let a : g.below ≡ new.below = ap (λ (x : Frame). x.below) q in
    omega (arith, a, b, h.below j f p)
push-rise slots first frames live kept new j k f g b at h (last e p) (old q) =
    absurd (omega (arith, e, at, slice_get_within frames k g q))
push-rise slots first frames live kept new j k f g b at h (last e p) (last d q) =
    let a : f.below ≡ new.below = ap (λ (x : Frame). x.below) p in
    let c : g.below ≡ new.below = ap (λ (x : Frame). x.below) q in
    omega (arith, a, c)

-- a frame of these words and so many slots more, all nil, comes on top
pub unwritten-push : (slots words : List Word) (n first back : ℕ) (frames : List Frame) (live then : ℕ) (kept : List ℕ)
    → then ≡ length slots + length words → Unwritten slots first frames live kept
    → Unwritten (slots ++ (words ++ replicate n Nil)) (length slots) (frames ++ record { back = back; below = first } ∷ []) then
    (kept ++ live ∷ [])
unwritten-push slots words n first back frames live then kept t h =
    let rest : List Word = replicate n Nil in
    let all : List Word = slots ++ (words ++ rest) in
    let new : Frame = record { back = back; below = first } in
    let many : length all ≡ length slots + (length words + n) =
    omega (arith, length-append slots (words ++ rest), length-append words rest, length-replicate n (Nil)) in
    let same : (k : ℕ) (w : Word) → k < length slots → slice_get all k ≡ Some w → slice_get slots k ≡ Some w =
    λ k w p e. got-front slots (words ++ rest) k w p e in
    record {
      top = record {
        order = omega (arith, t, many);
        nil = λ i x p q e. nil-of n (i - length slots - length words) x
            (got-behind words rest (i - length slots) (i - length slots - length words) x (omega (arith, p, t))
            (got-behind slots (words ++ rest) i (i - length slots) x (omega (arith, p, t)) e));
      };
      under = λ k l e p. push-under slots all frames first live kept k l same
          (omega (arith, e, length-append kept (live ∷ []))) h (got-append kept live k l p);
      beneath = λ k l f p q. push-beneath slots all frames first live kept new k l f same refl h (got-append kept live k l p)
          (got-append frames new (suc k) f q);
      rise = λ j k f g at p q. push-rise slots first frames live kept new j k f g refl at h (got-append frames new j f p)
          (got-append frames new k g q);
      below = λ k f p. push-below slots first frames live kept new k f refl h (got-append frames new k f p);
      within = omega (arith, many);
      as_many = omega (arith, h.as_many, length-append kept (live ∷ []), length-append frames (new ∷ []));
    }

-- the top frame goes
pub unwritten-pop : (slots : List Word) (first : ℕ) (frames : List Frame) (f : Frame) (live then : ℕ) (kept : List ℕ)
    → Unwritten slots first (frames ++ f ∷ []) live (kept ++ then ∷ []) → Unwritten (take first slots) f.below frames then kept
unwritten-pop slots first frames f live then kept h =
    let m : length (take first slots) ≡ first = length-take-le first slots h.within in
    let e : length kept ≡ length frames =
    omega (arith, h.as_many, length-append kept (then ∷ []), length-append frames (f ∷ [])) in
    let top : NilFrom slots then first =
    h.under (length kept) then (omega (arith, length-append kept (then ∷ []))) (got-seam kept then) in
    let most : f.below ≤ first = h.below (length frames) f (got-seam frames f) in
    let same : (k : ℕ) (w : Word) → k < first → slice_get (take first slots) k ≡ Some w → slice_get slots k ≡ Some w =
    λ k w p q. got-take first slots k w q in
    record {
      top = record {
        order = omega (arith, m, top.order);
        nil = λ i w p q r. top.nil i w p (omega (arith, q, m)) (got-take first slots i w r);
      };
      under = λ k l p q. nil-same slots (take first slots) first l f.below most same
          (h.beneath k l f (got-longer kept (then ∷ []) k l q) (rw (p ∙ e) (got-seam frames f)));
      beneath = λ k l g p q. nil-same slots (take first slots) first l g.below
          (h.below (suc k) g (got-longer frames (f ∷ []) (suc k) g q)) same
          (h.beneath k l g (got-longer kept (then ∷ []) k l p) (got-longer frames (f ∷ []) (suc k) g q));
      rise = λ j k a b at p q. h.rise j k a b at (got-longer frames (f ∷ []) j a p) (got-longer frames (f ∷ []) k b q);
      below = λ k a p. h.rise k (length frames) a f (omega (arith, slice_get_within frames k a p))
          (got-longer frames (f ∷ []) k a p) (got-seam frames f);
      within = omega (arith, m, most);
      as_many = e;
    }

-- the same, of fields that are equal to these
pub unwritten-pushed : (slots words all : List Word) (n first back : ℕ) (frames over : List Frame) (live then at : ℕ) (kept more : List ℕ)
    → all ≡ slots ++ (words ++ replicate n Nil) → over ≡ frames ++ record { back = back; below = first } ∷ [] → more ≡ kept ++ live ∷ []
    → at ≡ length slots → then ≡ length slots + length words → Unwritten slots first frames live kept → Unwritten all at over then more
unwritten-pushed slots words all n first back frames over live then at kept more a o m e t h =
    rw (a, o, m, e) (unwritten-push slots words n first back frames live then kept t h)

pub unwritten-popped : (slots : List Word) (first : ℕ) (frames over : List Frame) (f : Frame) (live then : ℕ) (kept more : List ℕ)
    → over ≡ frames ++ f ∷ [] → more ≡ kept ++ then ∷ [] → Unwritten slots first over live more
    → Unwritten (take first slots) f.below frames then kept
unwritten-popped slots first frames over f live then kept more o m h =
    unwritten-pop slots first frames f live then kept (rw (← o, ← m) h)

-- windows lie over other slots, of which there are no fewer
pub lies-slots : (v : Stack) (slots : List Word) (first : ℕ) (frames : List Frame) (a b : ℕ) → length v.slots ≤ length slots → Lies v
    → Lies (record v { slots = slots; first = first; frames = frames; frame_room = a; slot_room = b })
lies-slots v slots first frames a b le h = record {
  bases = record { rise = h.bases.rise; within = λ k w p. omega (arith, le, h.bases.within k w p) };
  marks = h.marks;
  as_many = h.as_many;
}

-- and over fewer, where the top window's base is among them
pub lies-cut : (v : Stack) (slots : List Word) (first : ℕ) (frames : List Frame) (a b : ℕ) (top : Window) → IsTop v top
    → top.base ≤ length slots → Lies v
    → Lies (record v { slots = slots; first = first; frames = frames; frame_room = a; slot_room = b })
lies-cut v slots first frames a b top is le h = record {
  bases = record {
    rise = h.bases.rise;
    within = λ k w p.
        let r : w.base ≤ top.base =
        h.bases.rise k (length v.windows - 1) w top (omega (arith, slice_get_within v.windows k w p)) p is in
        omega (arith, r, le);
  };
  marks = h.marks;
  as_many = h.as_many;
}

-- as many slots
pub ended-long : (slots : List Word) (from : ℕ) → from ≤ length slots
    → length slots ≤ length (take from slots ++ replicate (length slots - from) Nil)
ended-long slots from b = omega (
  arith,
  length-append (take from slots) (replicate (length slots - from) Nil),
  length-take-le from slots b,
  length-replicate (length slots - from) (Nil),
  b,
)

-- what is nil already from a place on needs no change, however far that lies
all-ended : (xs : List Word) (from : ℕ) → ((i : ℕ) (w : Word) → from ≤ i → slice_get xs i ≡ Some w → w ≡ Nil)
    → xs ≡ take from xs ++ replicate (length xs - from) Nil
all-ended [] zero h = refl
all-ended [] (suc n) h = let none : 0 ≡ 0 - suc n = omega arith in ap (λ k. replicate k Nil) none
all-ended (x ∷ xs) zero h =
    let count : length (x ∷ xs) - 0 ≡ suc (length xs) = omega arith in
    let same : length xs - 0 ≡ length xs = omega arith in
    let rest : xs ≡ replicate (length xs) Nil =
    all-ended xs 0 (λ i w p e. h (suc i) w (omega arith) e) ∙ ap (λ n. replicate n Nil) same in
    let first : x ≡ Nil = h 0 x (omega arith) refl in
    ap (λ y. y ∷ xs) first ∙ ap (λ ys. Nil ∷ ys) rest ∙ ap (λ n. replicate n Nil) (sym count)
all-ended (x ∷ xs) (suc n) h =
    let count : length xs - n ≡ length (x ∷ xs) - suc n = omega arith in
    ap (λ ys. x ∷ ys) (all-ended xs n (λ i w p e. h (suc i) w (omega (arith, p)) e))
    ∙ ap (λ k. x ∷ (take n xs ++ replicate k Nil)) count

pub ended-past : (v : Stack) (s live : ℕ) → live ≤ v.first + s → NilFrom v.slots live (length v.slots) → v ≡ ended v s
ended-past v s live a h =
    ap (λ (xs : List Word). record v { slots = xs })
    (all-ended v.slots (v.first + s) (λ i w p e. h.nil i w (omega (arith, a, p)) (slice_get_within v.slots i w e) e))

nil-set : (slots : List Word) (k : ℕ) → ((i : ℕ) (w : Word) → k < i → slice_get slots i ≡ Some w → w ≡ Nil) → (i : ℕ) (w : Word) → k ≤ i
    → slice_get (slice_set slots k Nil) i ≡ Some w → w ≡ Nil
nil-set [] k h i w p e = absurd cc
nil-set (x ∷ xs) zero h zero w p e = cc
nil-set (x ∷ xs) zero h (suc i) w p e = h (suc i) w (omega arith) e
nil-set (x ∷ xs) (suc k) h zero w p e = absurd (omega (arith, p))
nil-set (x ∷ xs) (suc k) h (suc i) w p e = nil-set xs k (λ j y q r. h (suc j) y (omega (arith, q)) r) i w (omega (arith, p)) e

-- one slot more is made nil
pub nil-more : (slots : List Word) (at : ℕ) → 0 < at → NilFrom slots at (length slots)
    → NilFrom (slice_set slots (at - 1) Nil) (at - 1) (length (slice_set slots (at - 1) Nil))
nil-more slots at some h = record {
  order = omega (arith, length-set slots (at - 1) (Nil), h.order);
  nil = λ i w p q e. nil-set slots (at - 1)
      (λ j x r t. h.nil j x (omega (arith, r)) (slice_get_within slots j x t) t) i w p e;
}

pub cleared : (slots new : List Word) (from at : ℕ) → at ≤ from → take from new ≡ take from slots → length new ≡ length slots
    → NilFrom new at (length new) → new ≡ take from slots ++ replicate (length slots - from) Nil
cleared slots new from at b t n h =
    rw (← t, ← n) (all-ended new from (λ i w p e. h.nil i w (omega (arith, b, p)) (slice_get_within new i w e) e))

pub lies-longer : (v : Stack) (slots more : List Word) (first : ℕ) (frames : List Frame) (a b : ℕ) → slots ≡ v.slots ++ more → Lies v
    → Lies (record v { slots = slots; first = first; frames = frames; frame_room = a; slot_room = b })
lies-longer v slots more first frames a b e h = lies-slots v slots first frames a b (rw e (omega (arith, length-append v.slots more))) h

pub lies-set : (v : Stack) (place : ℕ) (w : Word) (first : ℕ) (frames : List Frame) (a b : ℕ) → Lies v
    → Lies (record v { slots = slice_set v.slots place w; first = first; frames = frames; frame_room = a; slot_room = b })
lies-set v place w first frames a b h =
    lies-slots v (slice_set v.slots place w) first frames a b (omega (arith, length-set v.slots place w)) h

-- the frame that stood last
pub pop-top : (frames over : List Frame) (g f : Frame) → over ≡ frames ++ g ∷ [] → slice_get over (length over - 1) ≡ Some f → g ≡ f
pop-top frames over g f e p =
    let n : length over - 1 ≡ length frames = rw e (omega (arith, length-append frames (g ∷ []))) in
    let q : slice_get (frames ++ g ∷ []) (length frames) ≡ Some f = rw (← e, ← n) p in
    last-same (sym (got-seam frames g) ∙ q)
  where
    last-same : Some g ≡ Some f → g ≡ f
    last-same h = cc

pub one-less : {X : Type 0} → (xs over : List X) (y : X) → over ≡ xs ++ y ∷ [] → length xs + 1 ≡ length over
one-less xs over y e = rw e (omega (arith, length-append xs (y ∷ [])))

pub rest-taken : {X : Type 0} → (xs over : List X) (y : X) → over ≡ xs ++ y ∷ [] → xs ≡ take (length over - 1) over
rest-taken xs over y e =
    let n : length over - 1 ≡ length xs = omega (arith, one-less xs over y e) in
    rw (n, e) (sym (take-append_seam xs (y ∷ [])))

pub take-long : (slots : List Word) (first n : ℕ) → first ≤ length slots → n ≤ first → n ≤ length (take first slots)
take-long slots first n a b = omega (arith, length-take-le first slots a, b)

pub is-set : (v : Stack) (slots : List Word) (place : ℕ) (w : Word) (room : ℕ) → slots ≡ slice_set v.slots place w → room ≡ v.slot_room
    → record v { slots = slots; slot_room = room } ≡ record v { slots = slice_set v.slots place w }
is-set v slots place w room p q = rw (p, q) refl

pub is-pushed : (v : Stack) (back n first : ℕ) (slots : List Word) (frames : List Frame) (a b : ℕ) → slots ≡ v.slots ++ replicate n Nil
    → first ≡ length v.slots → frames ≡ v.frames ++ record { back = back; below = v.first } ∷ [] → a ≡ v.frame_room - 1 → b ≡ v.slot_room - n
    → record v { slots = slots; first = first; frames = frames; frame_room = a; slot_room = b } ≡ pushed v back n
is-pushed v back n first slots frames a b p q r s t = rw (p, q, r, s, t) refl

pub is-pushed-of : (v : Stack) (back first : ℕ) (words slots : List Word) (frames : List Frame) (a b : ℕ) → slots ≡ v.slots ++ words
    → first ≡ length v.slots → frames ≡ v.frames ++ record { back = back; below = v.first } ∷ [] → a ≡ v.frame_room - 1
    → b ≡ v.slot_room - length words
    → record v { slots = slots; first = first; frames = frames; frame_room = a; slot_room = b } ≡ pushed_of v back words
is-pushed-of v back first words slots frames a b p q r s t = rw (p, q, r, s, t) refl

pub is-ended : (v : Stack) (slots : List Word) (s room : ℕ) → slots ≡ take (v.first + s) v.slots ++ replicate (length v.slots - (v.first + s)) Nil
    → room ≡ v.slot_room
    → record v { slots = slots; slot_room = room } ≡ ended v s
is-ended v slots s room p q = rw (p, q) refl

pub is-popped : (v : Stack) (slots : List Word) (first : ℕ) (frames : List Frame) (a b : ℕ) (f : Frame) → slots ≡ take v.first v.slots
    → first ≡ f.below → frames ≡ take (length v.frames - 1) v.frames → a ≡ v.frame_room + 1
    → b ≡ v.slot_room + (length v.slots - v.first)
    → record v { slots = slots; first = first; frames = frames; frame_room = a; slot_room = b } ≡ popped v f
is-popped v slots first frames a b f p q r s t = rw (p, q, r, s, t) refl

only : {X : Type 0} → (y : X) (k : ℕ) (x : X) → slice_get (y ∷ []) k ≡ Some x → x ≡ y
only y zero x e = cc
only y (suc k) x e = absurd cc

-- one window, from the first slot on
pub lies-begun : (v : Stack) (w : Window) → v.windows ≡ w ∷ [] → w.base ≡ 0 → v.marks ≡ 0 ∷ [] → Lies v
lies-begun v w e z m = record {
  bases = record {
    rise = λ j k a b at p q.
        let r : a.base ≡ w.base = ap (λ (x : Window). x.base) (only w j a (rw e at p)) in
        omega (arith, r, z);
    within = λ k a p.
        let r : a.base ≡ w.base = ap (λ (x : Window). x.base) (only w k a (rw e at p)) in
        omega (arith, r, z);
  };
  marks = record {
    rise = λ j k a b at p q. omega (arith, only 0 j a (rw m at p));
    within = λ k a p. omega (arith, only 0 k a (rw m at p));
  };
  as_many = rw (m, e) refl;
}

-- where the last mark isn't the number of temporaries, it is below it
pub mark-below : (v : Stack) (t n x : ℕ) → t ≡ length v.temps → n ≡ length v.marks → x ≡ get_or v.marks (n - 1) x → (t ≡ x → ⊥)
    → 0 < length v.marks → Lies v → mark v < length v.temps
mark-below v t n x e f g other some h =
    let at : length v.marks - 1 < length v.marks = omega (arith, some) in
    let got = slice_get-get_or v.marks (length v.marks - 1) 0 at in
    let too = slice_get-get_or v.marks (length v.marks - 1) x at in
    let same : x ≡ get_or v.marks (length v.marks - 1) x = rw (← f) g in
    let is : x ≡ mark v = same ∙ same_Some _ _ (sym too ∙ got) in
    let r : mark v ≤ length v.temps = h.marks.within (length v.marks - 1) (mark v) got in
    let apart : length v.temps ≡ mark v → ⊥ = λ q. other (e ∙ q ∙ sym is) in
    omega (arith, r, apart)

pub none-clause : (v : Stack) (r : Option ℕ) → IsSome r → mark v < length v.temps → IsNone r ↔ (length v.temps ≡ mark v)
none-clause v None s b = absurd cc
none-clause v (Some x) s b = (λ n. absurd cc, λ e. absurd (omega (arith, e, b)))

pub mark-left : (v : Stack) (temps : List ℕ) (r : Option ℕ) → v.temps ≡ temps ++ option_to_list r → mark v < length v.temps
    → mark v ≤ length temps
mark-left v temps None e b = let n = ap length e in omega (arith, n, b, length-append temps [])
mark-left v temps (Some x) e b = let n = ap length e in omega (arith, n, b, length-append temps (x ∷ []))

pub lies-temps : (v : Stack) (temps : List ℕ) → 0 < length v.marks → mark v ≤ length temps → Lies v → Lies (record v { temps = temps })
lies-temps v temps some le h = record {
  bases = h.bases;
  marks = record {
    rise = h.marks.rise;
    within = λ k n p.
        let got = slice_get-get_or v.marks (length v.marks - 1) 0 (omega (arith, some)) in
        let r : n ≤ mark v = h.marks.rise k (length v.marks - 1) n (mark v) (omega (arith, slice_get_within v.marks k n p)) p got in
        omega (arith, r, le);
  };
  as_many = h.as_many;
}
