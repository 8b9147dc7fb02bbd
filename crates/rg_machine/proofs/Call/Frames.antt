-- Frames that come and go: what always holds behind them, and what the machine sees.
use Rattle.std.proofs.Common.{◌≡◌, ◌≤◌, ◌<◌, ℕ, zero, suc, ◌+◌, ◌-◌, ◌==◌, List, [], ◌∷◌, ◌++◌, Some, length, take, drop, map, replicate}
use Rattle.std.proofs.Common.{reverse, slice_get, slice_set, Bool, true, false, nat_le, refl, sym, ap, ◌∙◌, subst, arith, ◌⊎◌, inl, inr}
use Rattle.std.proofs.Common.{length-append}
use Rattle.std.specs.List.{list_any}
use Rattle.std.proofs.Math.Seq.{take-append_seam}
use Rattle.std.proofs.lemmas.List.{reverse-append, reverse-reverse, length-reverse, map-append, take-map, take-append-drop, length-drop, length-set}
use Rattle.std.proofs.lemmas.List.{length-take-le, drop_all, take_all as take-all}
use Rattle.std.proofs.lemmas.Option.{none-some, same_Some}
use Rattle.std.proofs.lemmas.Bool.{false_from_ne_true as never}
use Rattle.rg_base.specs.declared.value.Val.{Val}
use Rattle.rg_base.specs.declared.value.Word.{Word}
use Rattle.rg_base.specs.declared.value.Word.TheVariants.{Nil, Slot}
use Rattle.rg_cells.specs.Table.{Heap, IsHeld}
use Rattle.rg_regions.specs.Table.{HasNumber, IsBridge}
use Rattle.rg_regions.specs.Grove.{Grove}
use Rattle.rg_regions.specs.Reach.{LiesIn}
use Rattle.rg_frames.specs.declared.rows.Frame.{Frame as FrameRow}
use Rattle.rg_frames.specs.declared.rows.Window.{Window as WindowRow}
use Rattle.rg_base.proofs.Callers.Lists.{drop-here}
use Rattle.rg_code.specs.declared.op.Op.{Op}
use Rattle.rg_code.specs.declared.op.Op.TheVariants as i
use Rattle.rg_stack.specs.Machine.{Frame}
use Rattle.rg_frames.specs.Stack.{Stack, has_region}
use Rattle.rg_frames.specs.Changes.{BasesRise, HasRoom, IsTopFrame, pushed_of, popped, roomed, with_slot}
use Rattle.rg_heap.specs.Parts.{Parts}
use Rattle.rg_heap.specs.Answers.{IsClosed, val_of}
use Rattle.rg_view.specs.Lain.{Nested}
use Rattle.rg_view.specs.View.{values_of, frames_of, window_of, store_of, managers_of}
use Rattle.rg_view.proofs.Callers.Frame.{map-nil, pushed-lain, popped-lain, pushed-frames, slot-frames}
use Rattle.rg_view.proofs.Callers.Open.{any-back}
use Rattle.rg_view.proofs.Callers.Shown.{get-take, get-drop}
use Rattle.rg_machine.specs.Core.{Core, called_frame, with_machine}
use Rattle.rg_machine.specs.Frames.{called_words, cleared, cleared_stack}
use Rattle.rg_machine.specs.Parts.{Parts as Machined, machine_in}
use Rattle.rg_machine.specs.Cores.{core_of}
use Rattle.rg_machine.specs.Stands.{Stands, Leads, AllLead, BeginsBehind}

-- the same windows over other slots and frames
abbrev pub restacked : Stack → (slots : List Word) → (first : ℕ) → List FrameRow → (frame_room slot_room : ℕ) → Stack
restacked v slots first frames fr sr = record v { slots = slots; first = first; frames = frames; frame_room = fr; slot_room = sr }

pub stands-restacked : (p : Parts) (v : Stack) (slots : List Word) (first : ℕ) (frames : List FrameRow) (fr sr : ℕ) → Stands p v
    → Nested first (length slots) (reverse frames) → 0 < length frames
    → ((j s : ℕ) → slice_get slots j ≡ Some (Slot s) → IsHeld p.cells.heap s)
    → ((j s r : ℕ) → slice_get slots j ≡ Some (Slot s) → LiesIn p.cells.heap r s → BeginsBehind p.regions v j r → IsBridge p.regions r s)
    → Stands p (restacked v slots first frames fr sr)
stands-restacked p v slots first frames fr sr st lain some held bridge = record {
  opened = record {
    as_many = st.opened.as_many;
    first = st.opened.first;
    some = st.opened.some;
    known = st.opened.known;
    differ = st.opened.differ;
    temps = st.opened.temps;
    all_temps = st.opened.all_temps;
    once = st.opened.once;
    slots = held;
    lead = st.opened.lead;
    parents = st.opened.parents;
  };
  lain = lain;
  some = some;
  numbers = st.numbers;
  bridges = st.bridges;
  window_numbers = st.window_numbers;
  windows_next = st.windows_next;
  temps = st.temps;
  slots = bridge;
  fields = st.fields;
  first_mark = st.first_mark;
}

pub leads-restacked : (p : Parts) (v : Stack) (slots : List Word) (first : ℕ) (frames : List FrameRow) (fr sr : ℕ) (w : Word) → Leads p v w
    → Leads p (restacked v slots first frames fr sr) w
leads-restacked p v slots first frames fr sr w l = record { held = l.held; bridge = l.bridge }

pub leads-nil : (p : Parts) (v : Stack) → Leads p v Nil
leads-nil p v = record { held = λ s e. absurd cc; bridge = λ s r e lies closed. absurd cc }

-- room changes nothing of them
pub stands-roomed : (p : Parts) (v : Stack) (fr sr : ℕ) → Stands p v → Stands p (roomed v fr sr)
stands-roomed p v fr sr st = stands-restacked p v v.slots v.first v.frames fr sr st st.lain st.some st.opened.slots st.slots

all-roomed : (p : Parts) (v : Stack) (fr sr : ℕ) (words : List Word) → AllLead p v words → AllLead p (roomed v fr sr) words
all-roomed p v fr sr words l k w e = leads-restacked p v v.slots v.first v.frames fr sr w (l k w e)

-- behind the base of each window no region of one is left that none begins behind
closed-behind : (p : Parts) (v : Stack) (most j r s : ℕ) → Grove p.cells p.regions → BasesRise most v.windows → most ≤ j
    → LiesIn p.cells.heap r s → BeginsBehind p.regions v j r → IsClosed p.regions v r
closed-behind p v most j r s g bases le lies behind =
    let known = g.labels r s lies in (
      known.0,
      known.1,
      never (list_any (has_region known.0) v.windows) (λ f.
          let a = any-back (has_region known.0) v.windows f in
          let same : a.1.region ≡ known.0 = same-number a.1.region known.0 a.3 in
          let after = behind a.0 a.1 a.2 (subst (λ key. HasNumber p.regions key r) (sym same) known.1) in
          let up = bases.within a.0 a.1 a.2 in
          omega (arith, after, up, le)),
    )
  where
    same-number : (a b : ℕ) → (a == b) ≡ true → a ≡ b
    same-number a b e = grind (arith, e)

-- a word of two lists stands in the first, or at its place in the second
pub got-either : {A : Type 0} → (xs ys : List A) (k : ℕ) (x : A) → slice_get (xs ++ ys) k ≡ Some x
    → (slice_get xs k ≡ Some x) ⊎ ((length xs ≤ k) × (i : ℕ) × (slice_get ys i ≡ Some x))
got-either [] ys k x e = inr (omega arith, k, e)
got-either (y ∷ xs) ys zero x e = inl e
got-either (y ∷ xs) ys (suc k) x e = later (got-either xs ys k x e)
  where
    later : (slice_get xs k ≡ Some x) ⊎ ((length xs ≤ k) × (i : ℕ) × (slice_get ys i ≡ Some x))
        → (slice_get (y ∷ xs) (suc k) ≡ Some x) ⊎ ((length (y ∷ xs) ≤ suc k) × (i : ℕ) × (slice_get ys i ≡ Some x))
    later (inl f) = inl f
    later (inr f) = let le = f.0 in inr (omega (arith, le), f.1, f.2)

-- a frame of words that lead comes
pub stands-pushed : (p : Parts) (v : Stack) (back : ℕ) (words : List Word) → Grove p.cells p.regions → BasesRise (length v.slots) v.windows
    → Stands p v → AllLead p v words → Stands p (pushed_of v back words)
stands-pushed p v back words g bases st lead =
    stands-restacked p v (v.slots ++ words) (length v.slots) (v.frames ++ record { back = back; below = v.first } ∷ []) (v.frame_room - 1)
    (v.slot_room - length words) st (pushed-lain p.cells.heap v back words st.lain)
    (omega (arith, length-append v.frames (record { back = back; below = v.first } ∷ []))) held bridge
  where
    held-by : (j s : ℕ) → (slice_get v.slots j ≡ Some (Slot s)) ⊎ ((length v.slots ≤ j) × (i : ℕ) × (slice_get words i ≡ Some (Slot s)))
        → IsHeld p.cells.heap s
    held-by j s (inl e) = st.opened.slots j s e
    held-by j s (inr e) = (lead e.1 (Slot s) e.2).held s refl

    held : (j s : ℕ) → slice_get (v.slots ++ words) j ≡ Some (Slot s) → IsHeld p.cells.heap s
    held j s e = held-by j s (got-either v.slots words j (Slot s) e)

    bridge-by : (j s r : ℕ) → LiesIn p.cells.heap r s → BeginsBehind p.regions v j r
        → (slice_get v.slots j ≡ Some (Slot s)) ⊎ ((length v.slots ≤ j) × (i : ℕ) × (slice_get words i ≡ Some (Slot s)))
        → IsBridge p.regions r s
    bridge-by j s r lies behind (inl e) = st.slots j s r e lies behind
    bridge-by j s r lies behind (inr e) =
        (lead e.1 (Slot s) e.2).bridge s r refl lies (closed-behind p v (length v.slots) j r s g bases e.0 lies behind)

    bridge : (j s r : ℕ) → slice_get (v.slots ++ words) j ≡ Some (Slot s) → LiesIn p.cells.heap r s → BeginsBehind p.regions v j r
        → IsBridge p.regions r s
    bridge j s r e lies behind = bridge-by j s r lies behind (got-either v.slots words j (Slot s) e)

pub all-pushed : (p : Parts) (v : Stack) (back : ℕ) (more words : List Word) → AllLead p v words → AllLead p (pushed_of v back more) words
all-pushed p v back more words l k w e =
    leads-restacked p v (v.slots ++ more) (length v.slots) (v.frames ++ record { back = back; below = v.first } ∷ []) (v.frame_room - 1)
    (v.slot_room - length more) w (l k w e)

-- the topmost frame goes
pub stands-popped : (p : Parts) (v : Stack) (f : FrameRow) → 2 ≤ length v.frames → IsTopFrame v f → Stands p v → Stands p (popped v f)
stands-popped p v f two top st =
    let front = take (length v.frames - 1) v.frames in
    stands-restacked p v (take v.first v.slots) f.below front (v.frame_room + 1) (v.slot_room + (length v.slots - v.first)) st
    (popped-lain p.cells.heap v f top st.lain) (omega (arith, two, length-take-le (length v.frames - 1) v.frames (omega arith)))
    (λ j s e. st.opened.slots j s (get-take v.first j v.slots (Slot s) e))
    (λ j s r e lies behind. st.slots j s r (get-take v.first j v.slots (Slot s) e) lies behind)

pub all-popped : (p : Parts) (v : Stack) (f : FrameRow) (words : List Word) → AllLead p v words → AllLead p (popped v f) words
all-popped p v f words l k w e =
    leads-restacked p v (take v.first v.slots) f.below (take (length v.frames - 1) v.frames) (v.frame_room + 1)
    (v.slot_room + (length v.slots - v.first)) w (l k w e)

-- what stands in a list behind a write of nil
pub got-nil : (xs : List Word) (k j s : ℕ) → slice_get (slice_set xs k Nil) j ≡ Some (Slot s) → slice_get xs j ≡ Some (Slot s)
got-nil [] k j s e = absurd cc
got-nil (x ∷ xs) zero zero s e = absurd cc
got-nil (x ∷ xs) zero (suc j) s e = e
got-nil (x ∷ xs) (suc k) zero s e = e
got-nil (x ∷ xs) (suc k) (suc j) s e = got-nil xs k j s e

-- a slot of the topmost frame is nil
pub stands-nil : (p : Parts) (v : Stack) (s : ℕ) → Stands p v → Stands p (with_slot v s Nil)
stands-nil p v s st =
    let P : ℕ → Type 0 = λ n. Nested v.first n (reverse v.frames) in
    stands-restacked p v (slice_set v.slots (v.first + s) Nil) v.first v.frames v.frame_room v.slot_room st
    (subst P (sym (length-set v.slots (v.first + s) Nil)) st.lain) st.some
    (λ j x e. st.opened.slots j x (got-nil v.slots (v.first + s) j x e))
    (λ j x r e lies behind. st.slots j x r (got-nil v.slots (v.first + s) j x e) lies behind)

pub all-nil : (p : Parts) (v : Stack) (s : ℕ) (words : List Word) → AllLead p v words → AllLead p (with_slot v s Nil) words
all-nil p v s words l k w e =
    leads-restacked p v (slice_set v.slots (v.first + s) Nil) v.first v.frames v.frame_room v.slot_room w (l k w e)

-- one word, and two
pub one-leads : (p : Parts) (v : Stack) (w : Word) → Leads p v w → AllLead p v (w ∷ [])
one-leads p v w l zero x e = subst (Leads p v) (same_Some w x e) l
one-leads p v w l (suc k) x e = absurd (none-some x e)

pub two-leads : (p : Parts) (v : Stack) (w x : Word) → Leads p v w → Leads p v x → AllLead p v (w ∷ x ∷ [])
two-leads p v w x l m zero y e = subst (Leads p v) (same_Some w y e) l
two-leads p v w x l m (suc k) y e = one-leads p v x m k y e

-- the words of the frame of a call lead where those of the stack do
pub all-called : (p : Parts) (v : Stack) (given slots : ℕ) (stack : List Word) → AllLead p v stack → AllLead p v (called_words given slots stack)
all-called p v given slots stack l k w e =
    by (got-either (drop (length stack - given) stack) (replicate (slots - given) Nil) k w e)
  where
    is-nil : (n i : ℕ) → slice_get (replicate n Nil) i ≡ Some w → Nil ≡ w
    is-nil zero i f = absurd (none-some w f)
    is-nil (suc n) zero f = same_Some Nil w f
    is-nil (suc n) (suc i) f = is-nil n i f

    by : (slice_get (drop (length stack - given) stack) k ≡ Some w)
        ⊎ ((length (drop (length stack - given) stack) ≤ k) × (i : ℕ) × (slice_get (replicate (slots - given) Nil) i ≡ Some w))
        → Leads p v w
    by (inl f) = l (length stack - given + k) w (sym (get-drop (length stack - given) k stack) ∙ f)
    by (inr f) = subst (Leads p v) (is-nil (slots - given) f.1 f.2) (leads-nil p v)

-- Values

-- the first so many of the reversed list, reversed, are its last ones
last-few : (ws : List Word) (n : ℕ) → reverse (take n (reverse ws)) ≡ drop (length ws - n) ws
last-few ws n = few (nat_le n (length ws)) refl
  where
    few : (b : Bool) → nat_le n (length ws) ≡ b → reverse (take n (reverse ws)) ≡ drop (length ws - n) ws
    few true e =
        let k = length ws - n in
        let le : n ≤ length ws = grind (arith, e) in
        let count : n ≡ length (reverse (drop k ws)) = omega (arith, le, length-reverse (drop k ws), length-drop k ws) in
        ap (λ xs. reverse (take n xs)) (ap reverse (sym (take-append-drop k ws)) ∙ reverse-append (take k ws) (drop k ws))
        ∙ ap (λ m. reverse (take m (reverse (drop k ws) ++ reverse (take k ws)))) count
        ∙ ap reverse (take-append_seam (reverse (drop k ws)) (reverse (take k ws)))
        ∙ reverse-reverse (drop k ws)
    few false e =
        let lt : length ws < n = grind (arith, e) in
        let none : 0 ≡ length ws - n = omega (arith, lt) in
        ap reverse (take-all n (reverse ws) (omega (arith, lt, length-reverse ws))) ∙ reverse-reverse ws ∙ ap (λ m. drop m ws) none

module _ (h : Heap) where
  map-reverse : (ws : List Word) → map (val_of h) (reverse ws) ≡ reverse (map (val_of h) ws)
  map-reverse [] = refl
  map-reverse (w ∷ ws) =
      ap (map (val_of h)) (reverse-append (w ∷ []) ws) ∙ map-append (val_of h) (reverse ws) (w ∷ [])
      ∙ ap (λ vs. vs ++ val_of h w ∷ []) (map-reverse ws) ∙ sym (reverse-append (val_of h w ∷ []) (map (val_of h) ws))

  -- the frame of a call has the last words of the stack
  pub call-frame : (ws : List Word) (given slots back : ℕ)
      → record { slots = map (val_of h) (called_words given slots ws); back = back } ≡ called_frame given slots back (values_of h ws)
  call-frame ws given slots back = ap (λ (vs : List Val). record { slots = vs; back = back })
      (map-append (val_of h) (drop (length ws - given) ws) (replicate (slots - given) Nil)
      ∙ ap (λ vs. vs ++ map (val_of h) (replicate (slots - given) Nil)) taken
      ∙ ap (λ vs. reverse (take given (values_of h ws)) ++ vs) (map-nil h (slots - given)))
    where
      taken : map (val_of h) (drop (length ws - given) ws) ≡ reverse (take given (values_of h ws))
      taken =
          ap (map (val_of h)) (sym (last-few ws given)) ∙ map-reverse (take given (reverse ws))
          ∙ ap reverse (sym (take-map (val_of h) given (reverse ws)))

-- What always holds, of frames and the words on the stack

abbrev pub Kept : Parts → Stack → List Word → Type 0
Kept p v words = Stands p v × AllLead p v words

pub kept-roomed : (p : Parts) (v u : Stack) (words : List Word) → u ≡ roomed v u.frame_room u.slot_room → Kept p v words → Kept p u words
kept-roomed p v u words e k =
    subst (λ (x : Stack). Kept p x words) (sym e)
    (stands-roomed p v u.frame_room u.slot_room k.0, all-roomed p v u.frame_room u.slot_room words k.1)

-- the frame of a call comes
pub kept-called : (p : Parts) (u new : Stack) (words more : List Word) (given slots back : ℕ) → Grove p.cells p.regions
    → BasesRise (length u.slots) u.windows → new ≡ pushed_of u back (called_words given slots more) → Kept p u words → AllLead p u more
    → Kept p new words
kept-called p u new words more given slots back g bases e k lead =
    subst (λ (x : Stack). Kept p x words) (sym e) (
      stands-pushed p u back (called_words given slots more) g bases k.0 (all-called p u given slots more lead),
      all-pushed p u back (called_words given slots more) words k.1,
    )

pub kept-cleared : (p : Parts) (ops : List Op) (v : Stack) (words : List Word) → Kept p v words → Kept p (cleared_stack ops v) words
kept-cleared p [] v words k = k
kept-cleared p (i.Clear s ∷ os) v words k =
    kept-cleared p os (with_slot v s Nil) words (stands-nil p v s k.0, all-nil p v s words k.1)
kept-cleared p (o ∷ os) v words k = k

-- What is cleared

-- nothing but slots is
pub cleared-only : (ops : List Op) (v : Stack) → cleared_stack ops v ≡ record v { slots = (cleared_stack ops v).slots }
cleared-only [] v = refl
cleared-only (i.Clear s ∷ os) v = cleared-only os (with_slot v s Nil)
cleared-only (o ∷ os) v = refl

pub room-cleared : (ops : List Op) (v : Stack) (n : ℕ) → HasRoom v n → HasRoom (cleared_stack ops v) n
room-cleared ops v n h = subst (λ (x : Stack). HasRoom x n) (sym (cleared-only ops v)) h

-- as the machine sees it
pub frames-cleared : (h : Heap) (ops : List Op) (v : Stack) → frames_of h (cleared_stack ops v) ≡ cleared ops (frames_of h v)
frames-cleared h [] v = refl
frames-cleared h (i.Clear s ∷ os) v = frames-cleared h os (with_slot v s Nil) ∙ ap (cleared os) (slot-frames h v s Nil)
frames-cleared h (o ∷ os) v = refl

-- one clear, another instruction, and the end of the code
pub cleared-one : (ops : List Op) (at : ℕ) (op : Op) (s : ℕ) (v : Stack) → slice_get ops at ≡ Some op → op ≡ i.Clear s
    → cleared_stack (drop at ops) v ≡ cleared_stack (drop (at + 1) ops) (with_slot v s Nil)
cleared-one ops at op s v e is = ap (λ l. cleared_stack l v) (drop-here ops at op e ∙ ap (λ o. o ∷ drop (at + 1) ops) is)

other-cleared : (op : Op) (os : List Op) (v : Stack) → ((s : ℕ) → op ≡ i.Clear s → ⊥) → cleared_stack (op ∷ os) v ≡ v
other-cleared (i.Clear s) os v h = absurd (h s refl)
other-cleared op os v h = refl

pub cleared-none : (ops : List Op) (at : ℕ) (op : Op) (v : Stack) → slice_get ops at ≡ Some op → ((s : ℕ) → op ≡ i.Clear s → ⊥)
    → cleared_stack (drop at ops) v ≡ v
cleared-none ops at op v e h = ap (λ l. cleared_stack l v) (drop-here ops at op e) ∙ other-cleared op (drop (at + 1) ops) v h

pub cleared-past : (ops : List Op) (at : ℕ) (v : Stack) → length ops ≤ at → cleared_stack (drop at ops) v ≡ v
cleared-past ops at v le = ap (λ l. cleared_stack l v) (drop_all at ops le)

-- Machines

-- all but the frames' slots and the windows
abbrev shown : Machined → List Frame → List WindowRow → (next : ℕ) → Core
shown p fs ws n = record {
  machine = record {
    store = store_of p.heap.cells.heap;
    frames = fs;
    windows = map (window_of p.heap.regions) (reverse ws);
    managers = managers_of p.heap.regions;
    windows_made = n;
    at = p.at;
  };
  stack = values_of p.heap.cells.heap p.words;
  printed = p.printed;
}

-- the frame of a call comes onto frames that show these
pub pushed-core : (p : Machined) (u new : Stack) (given slots back : ℕ) (more : List Word) (fs : List Frame)
    → new ≡ pushed_of u back (called_words given slots more) → frames_of p.heap.cells.heap u ≡ fs → u.windows ≡ p.frames.windows
    → u.next ≡ p.frames.next
    → core_of (record p { frames = new })
    ≡ with_machine (core_of p) (record (machine_in p) { frames = called_frame given slots back (values_of p.heap.cells.heap more) ∷ fs })
pushed-core p u new given slots back more fs e frames windows next =
    let h = p.heap.cells.heap in
    let all = called_frame given slots back (values_of h more) ∷ fs in
    let pushed : frames_of h (pushed_of u back (called_words given slots more)) ≡ all =
    pushed-frames h u back (called_words given slots more)
    ∙ ap (λ (f : Frame). f ∷ frames_of h u) (call-frame h more given slots back)
    ∙ ap (λ (gs : List Frame). called_frame given slots back (values_of h more) ∷ gs) frames in
    ap (λ (x : Stack). core_of (record p { frames = x })) e
    ∙ ap (λ (gs : List Frame). shown p gs u.windows u.next) pushed
    ∙ ap (λ (ws : List WindowRow). shown p all ws u.next) windows
    ∙ ap (λ (n : ℕ). shown p all p.frames.windows n) next

-- one for which there is room
pub called-core : (p : Machined) (u new : Stack) (given slots back : ℕ) (more : List Word) → u ≡ roomed p.frames u.frame_room u.slot_room
    → new ≡ pushed_of u back (called_words given slots more)
    → core_of (record p { frames = new })
    ≡ with_machine (core_of p) (record (machine_in p) {
      frames = called_frame given slots back (values_of p.heap.cells.heap more) ∷ (machine_in p).frames;
    })
called-core p u new given slots back more room e =
    pushed-core p u new given slots back more (machine_in p).frames e (ap (frames_of p.heap.cells.heap) room) (ap (λ (x : Stack). x.windows) room)
    (ap (λ (x : Stack). x.next) room)

-- and one behind clears
pub cleared-core : (p : Machined) (u after new : Stack) (ops : List Op) (given slots back : ℕ) (more : List Word)
    → u ≡ roomed p.frames u.frame_room u.slot_room → after ≡ cleared_stack ops u → new ≡ pushed_of after back (called_words given slots more)
    → core_of (record p { frames = new })
    ≡ with_machine (core_of p) (record (machine_in p) {
      frames = called_frame given slots back (values_of p.heap.cells.heap more) ∷ cleared ops (machine_in p).frames;
    })
cleared-core p u after new ops given slots back more room clear e =
    let h = p.heap.cells.heap in
    let only = clear ∙ cleared-only ops u in
    pushed-core p after new given slots back more (cleared ops (machine_in p).frames) e
    (ap (frames_of h) clear ∙ frames-cleared h ops u ∙ ap (λ (x : Stack). cleared ops (frames_of h x)) room)
    (ap (λ (x : Stack). x.windows) only ∙ ap (λ (x : Stack). x.windows) room)
    (ap (λ (x : Stack). x.next) only ∙ ap (λ (x : Stack). x.next) room)
