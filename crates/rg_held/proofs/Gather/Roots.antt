-- Into the active region of a machine that shows a state that fits leads from outside the topmost window its bridge alone.
use Rattle.std.proofs.Common.{◌≡◌, ℕ, zero, suc, ◌+◌, ◌-◌, ◌<◌, ◌≤◌, ◌==◌, ◌⊎◌, inl, inr, true, false, Bool as Truth, List, [], ◌∷◌, ◌++◌}
use Rattle.std.proofs.Common.{length, map, replicate, reverse, drop, Option, Some, None, option_and_then, unwrap_or, refl, sym, ap, subst, ◌∙◌, arith}
use Rattle.std.proofs.Common.{slice_get}
use Rattle.std.specs.Prelude.{nat_lt, nat_le, ◌&&◌, if◌then◌else◌}
use Rattle.std.proofs.lemmas.List.{length-reverse, reverse-append}
use Rattle.std.proofs.lemmas.Option.{same_Some, slice_get_within}
use Rattle.std.proofs.lemmas.Bool.{eqb-true, or_cases, cases_Bool}
use Rattle.rg_base.specs.declared.ty.Ty.{Ty}
use Rattle.rg_base.specs.declared.object.Label.{Label}
use Rattle.rg_base.specs.declared.object.Label.TheVariants.{Region, Temp, Frozen}
use Rattle.rg_base.specs.declared.object.Place.{Place}
use Rattle.rg_base.specs.declared.object.Place.TheVariants as place
use Rattle.rg_base.specs.declared.object.Seen.{Seen}
use Rattle.rg_base.specs.declared.value.Val.{Val}
use Rattle.rg_base.specs.declared.value.Val.TheVariants as val
use Rattle.rg_tree.specs.Tree.{Field, Class, Tree}
use Rattle.rg_tree.proofs.TreesFrom.{slice_get-push}
use Rattle.rg_rules.specs.Acceptance.{Accepted}
use Rattle.rg_rules.specs.Capabilities.{is_iso}
use Rattle.rg_rules.specs.Types.{type_of, fields_of}
use Rattle.rg_rules.specs.State.{Local, State, Frame as Body, Window as Opened, frame_at, active}
use Rattle.rg_rules.specs.Regions.{region_at, address, owned, owned_as}
use Rattle.rg_rules.specs.Owners.{owned_by_local, owned_by_slot, owned_by_field, owned_in_field, owned_in_frame, owned_at, is_temp_of}
use Rattle.rg_sound.specs.Fit.{Fit}
use Rattle.rg_sound.specs.Frames.{FramesFit}
use Rattle.rg_sound.specs.LocalRoots.{top_owner, lower, IsInFront, bridge, LocalRoots}
use Rattle.rg_sound.specs.OpenRegions.{AllOwned}
use Rattle.rg_sound.specs.Windows.{covers, lowest}
use Rattle.rg_sound.proofs.Base.{Based, running-based}
use Rattle.rg_sound.proofs.LocalRoots.{fit-local_roots}
use Rattle.rg_sound.proofs.Stores.Member.{in-among}
use Rattle.rg_code.specs.Code.{Code}
use Rattle.rg_stack.specs.Machine.{Frame, Window, Machine, slots_below, place_of}
use Rattle.rg_stack.specs.Tops.{top_region, top_window}
use Rattle.rg_stack.specs.Places.{field_of, value_at, top_base}
use Rattle.rg_stack.specs.Labels.{has_window}
use Rattle.rg_stack.specs.Shows.{Shows, ShowsFrame, ShowsFrames, ShowsWindows, place_among, sizes_of}
use Rattle.rg_stack.proofs.Basics.{none-some, and-left, and-right}
use Rattle.rg_stack.proofs.Callers.Base.{total_of, sizes-more, sizes-length, place_top, shown-room, as_many, based-there}
use Rattle.rg_stack.proofs.Callers.Frame.{place_below}
use Rattle.rg_stack.proofs.Callers.Lead.{shown-number}
use Rattle.rg_stack.proofs.Callers.Mark.{shown-at}
use Rattle.rg_held.specs.Gather.{bridge_value, Keeps}
use Rattle.rg_held.proofs.Lists.{off, push-below, replicate-back}
use Rattle.rg_held.proofs.Gather.Frees.{Outside}

-- Frames by their numbers, the lowest being 0

reverse-top : {A : Type 0} (x : A) (xs : List A) → slice_get (reverse (x ∷ xs)) (length xs) ≡ Some x
reverse-top x xs = ap (λ l. slice_get l (length xs)) (reverse-append (x ∷ []) xs)
    ∙ ap (λ n. slice_get (reverse xs ++ x ∷ []) n) (sym (length-reverse xs)) ∙ slice_get-push (reverse xs) x

reverse-lower : {A : Type 0} (x : A) (xs : List A) (n : ℕ) → n < length xs → slice_get (reverse (x ∷ xs)) n ≡ slice_get (reverse xs) n
reverse-lower x xs n h =
    let count = length-reverse xs in
    let less : n < length (reverse xs) = omega (arith, h, count) in
    ap (λ l. slice_get l n) (reverse-append (x ∷ []) xs) ∙ push-below (reverse xs) x n less

reverse-below : {A : Type 0} (xs : List A) (n : ℕ) (x : A) → slice_get (reverse xs) n ≡ Some x → n < length xs
reverse-below xs n x e = let l = slice_get_within (reverse xs) n x e in let count = length-reverse xs in omega (arith, l, count)

-- a slot that holds a reference shows a variable
record AtSlot (bs : List Body) (n s a : ℕ) : Type 0 where
  pub number : ℕ
  pub body : Body
  pub local : Local
  pub count : number + suc n ≡ length bs
  pub body_there : frame_at bs number ≡ Some body
  pub local_there : slice_get body.locals s ≡ Some local
  pub value : local.value ≡ val.Obj a

slot-local : (locals : List Local) (k i a : ℕ) →
    slice_get (map (λ (l : Local). l.value) locals ++ replicate k val.Nil) i ≡ Some (val.Obj a) →
    (l : Local) × (slice_get locals i ≡ Some l) × (l.value ≡ val.Obj a)
slot-local [] k i a e = let no : val.Obj a ≡ val.Nil = replicate-back k i val.Nil (val.Obj a) e in grind arith
slot-local (l ∷ ls) k zero a e = (l, refl, same_Some l.value (val.Obj a) e)
slot-local (l ∷ ls) k (suc i) a e = slot-local ls k i a e

slot-shown : (fs : List Frame) (bs : List Body) → ShowsFrames fs bs → (n s a : ℕ) (h : Frame) → slice_get fs n ≡ Some h →
    slice_get h.slots s ≡ Some (val.Obj a) → AtSlot bs n s a
slot-shown [] bs shows n s a h there at = none-some h there
slot-shown (f ∷ fs) [] shows n s a h there at = absurd shows
slot-shown (f ∷ fs) (b ∷ bs) shows zero s a h there at =
    let x = slot-local b.locals (length f.slots - length b.locals) s a
    (ap (λ l. slice_get l s) (sym shows.0) ∙ ap (λ (f : Frame). slice_get f.slots s) (same_Some f h there) ∙ at) in
    record {
      number = length bs;
      body = b;
      local = x.0;
      count = omega arith;
      body_there = reverse-top b bs;
      local_there = x.1;
      value = x.2;
    }
slot-shown (f ∷ fs) (b ∷ bs) shows (suc n) s a h there at =
    let x = slot-shown fs bs shows.1 n s a h there at in
    let c = x.count in
    record {
      number = x.number;
      body = x.body;
      local = x.local;
      count = omega (arith, c);
      body_there = reverse-lower b bs x.number (omega (arith, c)) ∙ x.body_there;
      local_there = x.local_there;
      value = x.value;
    }

-- a frame shows the body of its number
shown-frame : (fs : List Frame) (bs : List Body) → ShowsFrames fs bs → (n : ℕ) (b : Body) → frame_at bs n ≡ Some b →
    (f : Frame) × (slice_get (reverse fs) n ≡ Some f) × ShowsFrame f b
shown-frame [] [] h n b e = none-some b e
shown-frame [] (c ∷ bs) h n b e = absurd h
shown-frame (f ∷ fs) [] h n b e = absurd h
shown-frame (f ∷ fs) (c ∷ bs) h n b e = elim (cases_Bool (n == length bs)) [
  | inl at ↦
      let here : n ≡ length bs = eqb-true n (length bs) at in
      let one : c ≡ b = same_Some c b (sym (reverse-top c bs) ∙ ap (frame_at (c ∷ bs)) (sym here) ∙ e) in
      let P : Body → Type 0 = λ q. ShowsFrame f q in
      (f, ap (slice_get (reverse (f ∷ fs))) (here ∙ sym (as_many fs bs h.1)) ∙ reverse-top f fs, subst P one h.0)
  | inr other ↦
      let l = reverse-below (c ∷ bs) n b e in
      let less : n < length bs = grind (arith, l, other) in
      let s = shown-frame fs bs h.1 n b (sym (reverse-lower c bs n less) ∙ e) in
      let c = as_many fs bs h.1 in
      (s.0, reverse-lower f fs n (omega (arith, c, less)) ∙ s.1, s.2)
]

-- The place at which the topmost window begins, among all slots

place-last : (f : Frame) (fs : List Frame) (n i : ℕ) → n ≡ length fs → place_among (sizes_of (f ∷ fs)) n i ≡ slots_below fs + i
place-last f fs n i e =
    ap (λ l. place_among l n i) (sizes-more f fs)
    ∙ ap (λ n. place_among (sizes_of fs ++ length f.slots ∷ []) n i) (e ∙ sym (sizes-length fs))
    ∙ place_top (sizes_of fs) (length f.slots) i ∙ ap (λ n. n + i) (total_of fs)

place-lower : (f : Frame) (fs : List Frame) (n i : ℕ) → n < length fs → place_among (sizes_of (f ∷ fs)) n i ≡ place_among (sizes_of fs) n i
place-lower f fs n i h =
    let c = sizes-length fs in
    let less : n < length (sizes_of fs) = omega (arith, h, c) in
    ap (λ l. place_among l n i) (sizes-more f fs) ∙ place_below (sizes_of fs) (length f.slots) n i less

base-within : (fs : List Frame) (bs : List Body) (p : Opened) → ShowsFrames fs bs → Based bs p →
    place_among (sizes_of fs) p.base_frame p.base_place ≤ slots_below fs
base-within [] [] p h based = absurd based
base-within [] (b ∷ bs) p h based = absurd h
base-within (f ∷ fs) [] p h based = absurd h
base-within (f ∷ fs) (b ∷ bs) p h (inl based) =
    let at = place-last f fs p.base_frame p.base_place (based.0 ∙ sym (as_many fs bs h.1)) in
    let room = shown-room f b h.0 in
    let most = based.1 in omega (arith, at, room, most)
base-within (f ∷ fs) (b ∷ bs) p h (inr based) =
    let there = based-there bs p based in
    let count = as_many fs bs h.1 in
    let at = place-lower f fs p.base_frame p.base_place (omega (arith, there, count)) in
    let rest = base-within fs bs p h.1 based in omega (arith, at, rest)

covers-cases : (n i : ℕ) (p : Opened) → covers n i p ≡ true → (p.base_frame < n) ⊎ ((p.base_frame ≡ n) × (p.base_place ≤ i))
covers-cases n i p e = elim (or_cases (nat_lt p.base_frame n) (p.base_frame == n && nat_le p.base_place i) e) [
  | inl l ↦ inl (grind (arith, l))
  | inr b ↦
      let x = and-left (p.base_frame == n) (nat_le p.base_place i) b in
      let y = and-right (p.base_frame == n) (nat_le p.base_place i) b in
      inr (eqb-true p.base_frame n x, grind (arith, y))
]

-- a window that covers a variable doesn't begin behind its slot
covered : (fs : List Frame) (bs : List Body) (p : Opened) → ShowsFrames fs bs → Based bs p → (n s number : ℕ) (h : Frame) →
    slice_get fs n ≡ Some h → number + suc n ≡ length bs → covers number s p ≡ true →
    place_among (sizes_of fs) p.base_frame p.base_place ≤ place_of (drop n fs) s
covered [] bs p shows based n s number h there count seen = none-some h there
covered (f ∷ fs) [] p shows based n s number h there count seen = absurd shows
covered (f ∷ fs) (b ∷ bs) p shows (inl based) zero s number h there count seen =
    let at = place-last f fs p.base_frame p.base_place (based.0 ∙ sym (as_many fs bs shows.1)) in
    let here = based.0 in
    elim (covers-cases number s p seen) [
      | inl l ↦ absurd (omega (arith, l, here, count))
      | inr c ↦ let le = c.1 in omega (arith, at, le)
    ]
covered (f ∷ fs) (b ∷ bs) p shows (inl based) (suc n) s number h there count seen =
    let here = based.0 in
    elim (covers-cases number s p seen) [
      | inl l ↦ absurd (omega (arith, l, here, count))
      | inr c ↦ let e = c.0 in absurd (omega (arith, e, here, count))
    ]
covered (f ∷ fs) (b ∷ bs) p shows (inr based) zero s number h there count seen =
    let under = based-there bs p based in
    let many = as_many fs bs shows.1 in
    let at = place-lower f fs p.base_frame p.base_place (omega (arith, under, many)) in
    let rest = base-within fs bs p shows.1 based in omega (arith, at, rest)
covered (f ∷ fs) (b ∷ bs) p shows (inr based) (suc n) s number h there count seen =
    let under = based-there bs p based in
    let many = as_many fs bs shows.1 in
    let at = place-lower f fs p.base_frame p.base_place (omega (arith, under, many)) in
    let rest = covered fs bs p shows.1 based n s number h there (omega (arith, count)) seen in omega (arith, at, rest)

-- The bridge

pub owned-value : (t : Ty) (v : Val) (a : ℕ) → owned t v ≡ Some a → v ≡ val.Obj a
owned-value t v a e = by (is_iso t) v e
  where
    by : (b : Truth) (v : Val) → (if b then address v else None) ≡ Some a → v ≡ val.Obj a
    by false v e = none-some a e
    by true val.Nil e = none-some a e
    by true (val.Int z) e = none-some a e
    by true (val.Bool b) e = none-some a e
    by true (val.Obj b) e = ap val.Obj (same_Some b a e)

var-value : (m : Machine) (bs : List Body) → ShowsFrames m.frames bs → (n i a : ℕ) → owned_in_frame bs n i ≡ Some a →
    value_at m (place.Var n i) ≡ val.Obj a
var-value m bs h n i a e = by (frame_at bs n) refl e
  where
    local : (b : Body) → frame_at bs n ≡ Some b → (q : Option Local) → slice_get b.locals i ≡ q → option_and_then owned_by_local q ≡ Some a →
        value_at m (place.Var n i) ≡ val.Obj a
    local b at None there e = none-some a e
    local b at (Some l) there e =
        let s = shown-frame m.frames bs h n b at in
        ap (λ q. elim q [ None ↦ val.Nil | Some f ↦ unwrap_or (slice_get f.slots i) val.Nil ]) s.1
        ∙ ap (λ q. unwrap_or (slice_get q i) val.Nil) s.2
        ∙ ap (λ q. unwrap_or q val.Nil) (shown-at b.locals (length s.0.slots - length b.locals) i l there)
        ∙ owned-value l.ty l.value a e

    by : (q : Option Body) → frame_at bs n ≡ q →
        option_and_then owned_by_local (option_and_then (λ (b : Body). slice_get b.locals i) q) ≡ Some a → value_at m (place.Var n i) ≡ val.Obj a
    by None at e = none-some a e
    by (Some b) at e = local b at (slice_get b.locals i) refl e

field-value : (classes : List Class) (m : Machine) (b k a : ℕ) → owned_in_field classes m.store b k ≡ Some a →
    value_at m (place.Field b k) ≡ val.Obj a
field-value classes m b k a e = by (slice_get m.store b) refl e
  where
    held : (o : Seen) (f : Field) (q : Option Val) → slice_get o.fields k ≡ q → option_and_then (owned_as classes f) q ≡ Some a →
        field_of o k ≡ val.Obj a
    held o f None at e = none-some a e
    held o f (Some v) at e = ap (λ q. unwrap_or q val.Nil) at ∙ owned-value (type_of classes f.ty) v a e

    slot : (o : Seen) (q : Option Field) → option_and_then (λ (f : Field). option_and_then (owned_as classes f) (slice_get o.fields k)) q ≡ Some a →
        field_of o k ≡ val.Obj a
    slot o None e = none-some a e
    slot o (Some f) e = held o f (slice_get o.fields k) refl e

    of_label : (o : Seen) (l : Label) →
        elim l [ Region q ↦ owned_by_slot classes o k | Temp n ↦ owned_by_slot classes o k | Frozen ↦ None ] ≡ Some a → field_of o k ≡ val.Obj a
    of_label o (Region q) e = slot o (slice_get (fields_of classes o.class) k) e
    of_label o (Temp n) e = slot o (slice_get (fields_of classes o.class) k) e
    of_label o Frozen e = none-some a e

    by : (q : Option Seen) → slice_get m.store b ≡ q → option_and_then (λ (o : Seen). owned_by_field classes o k) q ≡ Some a →
        value_at m (place.Field b k) ≡ val.Obj a
    by None at e = none-some a e
    by (Some o) at e = ap (λ q. elim q [ None ↦ val.Nil | Some o ↦ field_of o k ]) at ∙ of_label o o.label e

place-value : (classes : List Class) (m : Machine) (bs : List Body) → ShowsFrames m.frames bs → (p : Place) (a : ℕ) →
    owned_at classes m.store bs p ≡ Some a → value_at m p ≡ val.Obj a
place-value classes m bs h (place.Var n i) a e = var-value m bs h n i a e
place-value classes m bs h (place.Field b k) a e = field-value classes m b k a e

-- What leads into the active region

module _ (t : Tree) (code : Code) (m : Machine) (s : State) (accepted : Accepted t) (fit : Fit t s) (shows : Shows t.classes code m s)
    (held kept : ℕ → Truth) (keeps : Keeps held kept m) where
  roots : LocalRoots t.classes s
  roots = fit-local_roots t s fit

  active-top : active s.windows ≡ top_region m.windows
  active-top = by m.windows s.windows shows.windows
    where
      by : (ws : List Window) (ps : List Opened) → ShowsWindows (sizes_of m.frames) ws ps → active ps ≡ top_region ws
      by [] [] h = refl
      by [] (p ∷ ps) h = absurd h
      by (w ∷ ws) [] h = absurd h
      by (w ∷ ws) (p ∷ ps) h = sym h.0.region

  is-active : (a : ℕ) → region_at m.store a ≡ Some (top_region m.windows) → region_at s.store a ≡ Some (active s.windows)
  is-active a e = ap (λ q. region_at q a) (sym shows.store) ∙ e ∙ ap Some (sym active-top)

  bridge-value : (a : ℕ) → bridge t.classes s ≡ Some a → bridge_value m m.windows ≡ val.Obj a
  bridge-value a e = by m.windows s.windows shows.windows
      (ap (λ q. option_and_then (owned_at t.classes q s.frames) (top_owner s.windows)) shows.store ∙ e)
    where
      owner : (q : Option Place) → option_and_then (owned_at t.classes m.store s.frames) q ≡ Some a →
          elim q [ None ↦ val.Nil | Some p ↦ value_at m p ] ≡ val.Obj a
      owner None e = none-some a e
      owner (Some p) e = place-value t.classes m s.frames shows.slots p a e

      by : (ws : List Window) (ps : List Opened) → ShowsWindows (sizes_of m.frames) ws ps →
          option_and_then (owned_at t.classes m.store s.frames) (top_owner ps) ≡ Some a → bridge_value m ws ≡ val.Obj a
      by [] [] h e = none-some a e
      by [] (p ∷ ps) h e = absurd h
      by (w ∷ ws) [] h e = absurd h
      by (w ∷ ws) (p ∷ ps) h e = owner w.owner (ap (option_and_then (owned_at t.classes m.store s.frames)) h.0.owner ∙ e)

  bridge-kept : (a : ℕ) → bridge t.classes s ≡ Some a → region_at m.store a ≡ Some (top_region m.windows) → kept a ≡ true
  bridge-kept a e lies = keeps.bridge a (bridge-value a e) lies

  top-based : (w : Opened) (ws : List Opened) → s.windows ≡ w ∷ ws → Based s.frames w
  top-based w ws e = by s.frames fit.frames
    where
      by : (fs : List Body) → FramesFit t fs s.windows s.items → Based fs w
      by [] h = absurd h
      by (f ∷ fs) (inl r) = running-based t accepted f fs s.windows s.items r w ws e
      by (f ∷ fs) (inr d) =
          let k = d.one_window in
          let is : w ∷ ws ≡ lowest k.0 k.1 ∷ [] = sym e ∙ k.2 in
          let same : w ≡ lowest k.0 k.1 = grind arith in
          let P : Opened → Type 0 = λ q. Based (f ∷ fs) q in
          subst P (sym same) (inl (ap length (sym d.one_frame), omega arith))

  in-front : (n i number : ℕ) (h : Frame) → slice_get m.frames n ≡ Some h → number + suc n ≡ length s.frames →
      IsInFront s.windows number i ⊎ (top_base m.windows ≤ place_of (drop n m.frames) i)
  in-front n i number h there count = by m.windows s.windows refl shows.windows
    where
      by : (ws : List Window) (ps : List Opened) → s.windows ≡ ps → ShowsWindows (sizes_of m.frames) ws ps →
          IsInFront ps number i ⊎ (top_base ws ≤ place_of (drop n m.frames) i)
      by [] [] e h = let P : List Opened → Type 0 = λ q. AllOwned t.classes s.store s.frames q in absurd (subst P e fit.opened.owned)
      by [] (p ∷ ps) e h = absurd h
      by (w ∷ ws) [] e h = absurd h
      by (w ∷ ws) (p ∷ ps) e shown = elim (cases_Bool (covers number i p)) [
        | inl seen ↦
            let base = shown.0.base in
            let le = covered m.frames s.frames p shows.slots (top-based p ps e) n i number h there count seen in inr (omega (arith, base, le))
        | inr front ↦ inl front
      ]

  -- what leads into the active region from outside leads to what is kept
  pub roots-outside : Outside held kept m
  roots-outside = record {
    slots = λ n i h v there at a is lies.
        let x = slot-shown m.frames s.frames shows.slots n i a h there (at ∙ ap Some is) in
        elim (in-front n i x.number h there x.count) [
          | inl front ↦ bridge-kept a (roots.locals x.number i x.body x.local a x.body_there x.local_there front x.value (is-active a lies)) lies
          | inr behind ↦ keeps.slots n i h v there at behind a is lies
        ];
    fields = λ b k o v here there other temps at a is lies.
        field b k o v here there other temps at a is lies o.label refl;
  }
    where
      field : (b k : ℕ) (o : Seen) (v : Val) → held b ≡ true → slice_get m.store b ≡ Some o → (o.label ≡ Region (top_region m.windows) → ⊥) →
          ((n : ℕ) → o.label ≡ Temp n → has_window m.windows n ≡ true) → slice_get o.fields k ≡ Some v → (a : ℕ) → v ≡ val.Obj a →
          region_at m.store a ≡ Some (top_region m.windows) → (l : Label) → o.label ≡ l → kept a ≡ true
      field b k o v here there other temps at a is lies (Region q) l =
          bridge-kept a (roots.regions b k q o a (ap (λ x. slice_get x b) (sym shows.store) ∙ there) l
          (λ same. other (l ∙ ap Region (same ∙ active-top))) (at ∙ ap Some is) (is-active a lies)) lies
      field b k o v here there other temps at a is lies (Temp n) l = by m.windows s.windows refl refl shows.windows (temps n l)
        where
          by : (ws : List Window) (ps : List Opened) → m.windows ≡ ws → s.windows ≡ ps → ShowsWindows (sizes_of m.frames) ws ps →
              has_window ws n ≡ true → kept a ≡ true
          by [] [] d e h o = off o
          by [] (p ∷ ps) d e h o = absurd h
          by (w ∷ ws) [] d e h o = absurd h
          by (w ∷ ws) (p ∷ ps) d e h seen = elim (or_cases (w.number == n) (has_window ws n) seen) [
            | inl same ↦ keeps.temps b k o v here there
                (l ∙ ap Temp (sym (eqb-true w.number n same) ∙ ap top_window (sym d))) at a is lies
            | inr more ↦ bridge-kept a (roots.temporaries b k o a (ap (λ x. slice_get x b) (sym shows.store) ∙ there)
                (ap (is_temp_of (lower s.windows)) l ∙ ap (λ q. is_temp_of (lower q) (Temp n)) e
                ∙ in-among (map (λ (p : Opened). p.number) ps) n (shown-number (sizes_of m.frames) ws ps n h.1 more))
                (at ∙ ap Some is) (is-active a lies)) lies
          ]
      field b k o v here there other temps at a is lies Frozen l =
          absurd (roots.frozen b k o a (ap (λ x. slice_get x b) (sym shows.store) ∙ there) l (at ∙ ap Some is) (is-active a lies))
