-- Where windows begin among the slots of all frames, against the place at which one opens or a frame ends.
use Rattle.std.proofs.Common.{◌≡◌, ℕ, ◌+◌, ◌-◌, ◌<◌, ◌≤◌, true, inl, inr, Bool as Truth, if◌then◌else◌, List, [], ◌∷◌, ◌++◌, length, map, replicate}
use Rattle.std.proofs.Common.{reverse, suc, Result, refl, sym, ap, subst, ◌∙◌, arith, length-append}
use Rattle.std.proofs.lemmas.List.{length-map, length-reverse, reverse-append}
use Rattle.std.proofs.Common.{false, true≢false}
use Rattle.std.proofs.lemmas.Bool.{lt-ltb, le-leb, leb-true, leb-false}
use Rattle.std.specs.Prelude.{nat_lt, nat_le}
use Rattle.rg_base.specs.declared.value.Val.{Val}
use Rattle.rg_base.specs.declared.value.Val.TheVariants as val
use Rattle.rg_base.specs.declared.outcome.Trap.{Trap}
use Rattle.rg_tree.specs.Tree.{Class}
use Rattle.rg_rules.specs.State.{Local, State, Frame as Body, Window as Opened}
use Rattle.rg_sound.specs.Windows.{covers}
use Rattle.rg_sound.proofs.Base.{Based}
use Rattle.rg_sound.proofs.Owners.Window.{covers-not}
use Rattle.rg_code.specs.Code.{Code}
use Rattle.rg_stack.specs.Machine.{Machine, Frame, Window, top_slots, slots_below, place_of}
use Rattle.rg_stack.specs.Effects.{Walked, Stuck, begins_by, opens_at}
use Rattle.rg_stack.specs.Places.{top_base}
use Rattle.rg_stack.specs.Shows.{ShowsFrame, ShowsFrames, ShowsWindows, place_among, sizes_of}
use Rattle.rg_stack.proofs.Callers.Frame.{place_below}
use Rattle.rg_stack.proofs.Walks.End.{EndsAs}

-- the number of all slots of frames that have so many
abbrev pub total : List ℕ → ℕ
total [] = 0
total (x ∷ xs) = x + total xs

pub total-append : (xs : List ℕ) (y : ℕ) → total (xs ++ y ∷ []) ≡ total xs + y
total-append [] y = omega arith
total-append (x ∷ xs) y = ap (λ n. x + n) (total-append xs y) ∙ omega arith

pub sizes-length : (fs : List Frame) → length (sizes_of fs) ≡ length fs
sizes-length fs = length-reverse (map (λ (f : Frame). length f.slots) fs) ∙ length-map fs (λ (f : Frame). length f.slots)

pub sizes-more : (f : Frame) (fs : List Frame) → sizes_of (f ∷ fs) ≡ sizes_of fs ++ length f.slots ∷ []
sizes-more f fs = reverse-append (length f.slots ∷ []) (map (λ (f : Frame). length f.slots) fs)

pub total_of : (fs : List Frame) → total (sizes_of fs) ≡ slots_below fs
total_of [] = refl
total_of (f ∷ fs) = ap total (sizes-more f fs)
    ∙ total-append (sizes_of fs) (length f.slots) ∙ ap (λ n. n + length f.slots) (total_of fs) ∙ omega arith

pub place_top : (xs : List ℕ) (y k : ℕ) → place_among (xs ++ y ∷ []) (length xs) k ≡ total xs + k
place_top [] y k = omega arith
place_top (x ∷ xs) y k = ap (λ n. x + n) (place_top xs y k) ∙ omega arith

pub as_many : (mfs : List Frame) (fs : List Body) → ShowsFrames mfs fs → length mfs ≡ length fs
as_many [] [] h = refl
as_many [] (b ∷ bs) h = absurd h
as_many (f ∷ fs) [] h = absurd h
as_many (f ∷ fs) (b ∷ bs) h = ap suc (as_many fs bs h.1)

pub base_is : (fs : List Frame) (n many k m : ℕ) → many ≡ length fs → k ≡ m → slots_below fs + k
    ≡ place_among (reverse (n ∷ map (λ (f : Frame). length f.slots) fs)) many m
base_is fs n many k m is same =
    let count : length (sizes_of fs) ≡ many = length-reverse (map (λ (f : Frame). length f.slots) fs)
    ∙ length-map fs (λ (f : Frame). length f.slots) ∙ sym is in
    sym (ap (λ l. place_among l many m) (reverse-append (n ∷ []) (map (λ (f : Frame). length f.slots) fs))
    ∙ ap (λ c. place_among (sizes_of fs ++ n ∷ []) c m) (sym count)
    ∙ place_top (sizes_of fs) n m
    ∙ ap (λ t. t + m) (total_of fs)
    ∙ ap (λ t. slots_below fs + t) (sym same))

-- a frame has slots for its variables
pub shown-room : (f : Frame) (b : Body) → ShowsFrame f b → length b.locals ≤ length f.slots
shown-room f b h =
    let vals = map (λ (l : Local). l.value) b.locals in
    omega (
      arith,
      ap length h,
      length-append vals (replicate (length f.slots - length b.locals) val.Nil),
      length-map b.locals
          (λ (l : Local). l.value),
    )

pub based-there : (fs : List Body) (p : Opened) → Based fs p → p.base_frame < length fs
based-there [] p h = absurd h
based-there (f ∷ fs) p (inl h) = let e = h.0 in omega (arith, e)
based-there (f ∷ fs) p (inr h) = let l = based-there fs p h in omega (arith, l)

shown-sizes : (mfs : List Frame) (fs : List Body) → ShowsFrames mfs fs → length (sizes_of mfs) ≡ length fs
shown-sizes mfs fs h = sizes-length mfs ∙ as_many mfs fs h

-- a window begins at the first slot behind the topmost frame's variables, or in front of it
pub based-bound : (mf : Frame) (mfs : List Frame) (f : Body) (fs : List Body) (p : Opened) → ShowsFrames (mf ∷ mfs) (f ∷ fs) → Based (f ∷ fs) p
    → place_among (sizes_of (mf ∷ mfs)) p.base_frame p.base_place ≤ slots_below mfs + length f.locals
based-bound mf mfs f fs p h (inl based) =
    let count = shown-sizes mfs fs h.1 in
    let at : place_among (sizes_of (mf ∷ mfs)) p.base_frame p.base_place ≡ slots_below mfs + p.base_place =
    ap (λ l. place_among l p.base_frame p.base_place) (sizes-more mf mfs)
    ∙ ap (λ n. place_among (sizes_of mfs ++ length mf.slots ∷ []) n p.base_place) (based.0 ∙ sym count)
    ∙ place_top (sizes_of mfs) (length mf.slots) p.base_place
    ∙ ap (λ n. n + p.base_place) (total_of mfs) in
    omega (arith, at, based.1)
based-bound mf [] f [] p h (inr based) = absurd based
based-bound mf [] f (g ∷ gs) p h (inr based) = absurd h.1
based-bound mf (mg ∷ mgs) f [] p h (inr based) = absurd based
based-bound mf (mg ∷ mgs) f (g ∷ gs) p h (inr based) =
    let count = shown-sizes (mg ∷ mgs) (g ∷ gs) h.1 in
    let there = based-there (g ∷ gs) p based in
    let less : p.base_frame < length (sizes_of (mg ∷ mgs)) = omega (arith, count, there) in
    let at : place_among (sizes_of (mf ∷ mg ∷ mgs)) p.base_frame p.base_place ≡ place_among (sizes_of (mg ∷ mgs)) p.base_frame p.base_place =
    ap (λ l. place_among l p.base_frame p.base_place) (sizes-more mf (mg ∷ mgs))
    ∙ place_below (sizes_of (mg ∷ mgs)) (length mf.slots) p.base_frame p.base_place less in
    let lower = based-bound mg mgs g gs p h.1 based in
    let room = shown-room mg g h.1.0 in
    let below : slots_below (mg ∷ mgs) ≡ length mg.slots + slots_below mgs = refl in
    omega (arith, at, lower, room, below)

-- and so at the first slot behind all its slots
pub based-within : (mf : Frame) (mfs : List Frame) (f : Body) (fs : List Body) (p : Opened) → ShowsFrames (mf ∷ mfs) (f ∷ fs) → Based (f ∷ fs) p
    → place_among (sizes_of (mf ∷ mfs)) p.base_frame p.base_place ≤ slots_below (mf ∷ mfs)
based-within mf mfs f fs p h based =
    let bound = based-bound mf mfs f fs p h based in
    let room = shown-room mf f h.0 in
    let below : slots_below (mf ∷ mfs) ≡ length mf.slots + slots_below mfs = refl in
    omega (arith, bound, room, below)

-- the same of a frame that stands beneath another
pub lower-within : (mf mg : Frame) (mfs : List Frame) (g : Body) (fs : List Body) (p : Opened) → ShowsFrames (mg ∷ mfs) (g ∷ fs) → Based (g ∷ fs) p
    → place_among (sizes_of (mf ∷ mg ∷ mfs)) p.base_frame p.base_place ≤ slots_below (mg ∷ mfs)
lower-within mf mg mfs g fs p h based =
    let count = shown-sizes (mg ∷ mfs) (g ∷ fs) h in
    let there = based-there (g ∷ fs) p based in
    let less : p.base_frame < length (sizes_of (mg ∷ mfs)) = omega (arith, count, there) in
    let at : place_among (sizes_of (mf ∷ mg ∷ mfs)) p.base_frame p.base_place ≡ place_among (sizes_of (mg ∷ mfs)) p.base_frame p.base_place =
    ap (λ l. place_among l p.base_frame p.base_place) (sizes-more mf (mg ∷ mfs))
    ∙ place_below (sizes_of (mg ∷ mfs)) (length mf.slots) p.base_frame p.base_place less in
    let within = based-within mg mfs g fs p h based in
    omega (arith, at, within)

-- a window begins at each slot that it covers, or in front of it
pub covered-bound : (mf : Frame) (mfs : List Frame) (f : Body) (fs : List Body) (p : Opened) (k : ℕ) → ShowsFrames (mf ∷ mfs) (f ∷ fs)
    → Based (f ∷ fs) p → covers (length fs) k p ≡ true → place_among (sizes_of (mf ∷ mfs)) p.base_frame p.base_place ≤ slots_below mfs + k
covered-bound mf mfs f fs p k h (inl based) e =
    let at : slots_below mfs + p.base_place ≡ place_among (sizes_of (mf ∷ mfs)) p.base_frame p.base_place =
    base_is mfs (length mf.slots) p.base_frame p.base_place p.base_place (based.0 ∙ sym (as_many mfs fs h.1)) refl in
    let in_front : p.base_place ≤ k = not_behind (length fs) k p based.0 e in
    omega (arith, at, in_front)
  where
    not_behind : (n i : ℕ) (w : Opened) → w.base_frame ≡ n → covers n i w ≡ true → w.base_place ≤ i
    not_behind n i w is c = by (nat_le w.base_place i) refl
      where
        by : (b : Truth) → nat_le w.base_place i ≡ b → w.base_place ≤ i
        by true le = leb-true w.base_place i le
        by false le = absurd (true≢false (sym c ∙ covers-not n i w (inr (sym is, leb-false w.base_place i le))))
covered-bound mf [] f [] p k h (inr based) e = absurd based
covered-bound mf [] f (g ∷ gs) p k h (inr based) e = absurd h.1
covered-bound mf (mg ∷ mgs) f [] p k h (inr based) e = absurd based
covered-bound mf (mg ∷ mgs) f (g ∷ gs) p k h (inr based) e =
    let within = lower-within mf mg mgs g gs p h.1 based in omega (arith, within)

-- the topmost window of the machine begins where that of the state does
pub begins-there : (sizes : List ℕ) (mws : List Window) (p : Opened) (ps : List Opened) (place : ℕ) → ShowsWindows sizes mws (p ∷ ps)
    → place_among sizes p.base_frame p.base_place ≤ place → begins_by mws place ≡ true
begins-there sizes [] p ps place h le = absurd h
begins-there sizes (w ∷ ws) p ps place h le = let base = h.0.base in le-leb w.base place (omega (arith, base, le))

pub starts-behind : (sizes : List ℕ) (mws : List Window) (p : Opened) (ps : List Opened) (place : ℕ) → ShowsWindows sizes mws (p ∷ ps)
    → place ≡ place_among sizes p.base_frame p.base_place → nat_le place (top_base mws) ≡ true
starts-behind sizes [] p ps place h is = absurd h
starts-behind sizes (w ∷ ws) p ps place h is = let base = h.0.base in le-leb place w.base (omega (arith, base, is))

-- on both sides of a test that holds
pub if_ends : (classes : List Class) (code : Code) (before : List Val) (r : Result State Trap) (t : Truth) (x y : Walked) → t ≡ true
    → EndsAs classes code before r x → EndsAs classes code before r (if t then x else y)
if_ends classes code before r t x y e h = subst (λ b. EndsAs classes code before r (if b then x else y)) (sym e) h

-- a window opens over a slot that is there
pub opens_ends : (classes : List Class) (code : Code) (before : List Val) (r : Result State Trap) (m : Machine) (z : ℕ) (go : Walked)
    → z < length (top_slots m.frames) → begins_by m.windows (place_of m.frames z) ≡ true
    → EndsAs classes code before r go → EndsAs classes code before r (opens_at m z go)
opens_ends classes code before r m z go room begins h =
    if_ends classes code before r (nat_lt z (length (top_slots m.frames))) _ _ (lt-ltb z (length (top_slots m.frames)) room)
    (if_ends classes code before r (begins_by m.windows (place_of m.frames z)) go Stuck begins h)
