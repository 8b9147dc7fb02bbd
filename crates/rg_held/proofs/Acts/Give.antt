-- What is given where a window closes goes to the place of the window's owner, beside the same over the growing store.
use Rattle.std.proofs.Common.{◌≡◌, ℕ, zero, suc, ◌==◌, ◌⊎◌, inl, inr, true, false, not, Bool as Truth, List, [], ◌∷◌, ◌++◌, length, reverse}
use Rattle.std.proofs.Common.{Option, Some, None, unwrap_or, refl, sym, ap, subst, ◌∙◌, slice_get, slice_set}
use Rattle.std.proofs.lemmas.List.{length-reverse}
use Rattle.std.proofs.lemmas.Option.{same_Some}
use Rattle.std.proofs.lemmas.Bool.{eqb-true, or_right, cases_Bool}
use Rattle.std.specs.Prelude.{if◌then◌else◌}
use Rattle.std.specs.List.{list_any}
use Rattle.rg_base.specs.declared.object.Label.{Label}
use Rattle.rg_base.specs.declared.object.Label.TheVariants.{Region, Temp, Frozen}
use Rattle.rg_base.specs.declared.object.Place.{Place}
use Rattle.rg_base.specs.declared.object.Place.TheVariants as place
use Rattle.rg_base.specs.declared.object.Seen.{Seen}
use Rattle.rg_base.specs.declared.value.Val.{Val}
use Rattle.rg_base.specs.declared.value.Val.TheVariants as val
use Rattle.rg_tree.proofs.TreesFrom.{slice_get-push}
use Rattle.rg_sound.proofs.Owners.Owner.{get-set}
use Rattle.rg_stack.specs.Machine.{Frame, Window, Machine, put_in_frame}
use Rattle.rg_stack.specs.Effects.{with_value_in, put_in, put_at}
use Rattle.rg_stack.specs.Labels.{is_open, label_of, is_into, is_outside}
use Rattle.rg_stack.specs.Places.{field_of, value_at}
use Rattle.rg_stack.proofs.Basics.{none-some}
use Rattle.rg_held.specs.Part.{leads_to, SlotInto, Placed, Part, is_of, OwnerHeld, is_shut_or_above, may_lead}
use Rattle.rg_held.proofs.Lists.{off, set-back, set-old, reverse-cons, append-left}
use Rattle.rg_held.proofs.Places.{clash, into-label}
use Rattle.rg_held.proofs.Parts.Part.{closed-above, part-frames}
use Rattle.rg_held.proofs.Parts.Burial.{same-region}
use Rattle.rg_held.proofs.Acts.Write.{part-write, into-set}

-- an object of a window that stays is outside of a region that is closed
pub of-outside : (ws : List Window) (r : ℕ) (l : Label) → is_open ws r ≡ false → is_of ws l ≡ true → is_outside ws r l ≡ true
of-outside ws r (Region q) shut of = elim (cases_Bool (q == r)) [
  | inl same ↦ clash (is_open ws r) (ap (is_open ws) (sym (eqb-true q r same)) ∙ of) shut
  | inr other ↦ ap not other
]
of-outside ws r (Temp n) shut of = of
of-outside ws r Frozen shut of = refl

-- a slot behind a write to one of a frame holds what was written, or what it held
frame-back : (n j : ℕ) (v : Val) (fs : List Frame) (i : ℕ) (h : Frame) (k : ℕ) (u : Val) → slice_get (put_in_frame n j v fs) i ≡ Some h
    → slice_get h.slots k ≡ Some u → (u ≡ v) ⊎ ((g : Frame) × (slice_get fs i ≡ Some g) × (slice_get g.slots k ≡ Some u))
frame-back n j v [] i h k u there at = none-some h there
frame-back n j v (f ∷ fs) i h k u there at = by (length fs == n) i there (frame-back n j v fs)
  where
    by : (b : Truth) (i : ℕ) → slice_get (if b then record f { slots = slice_set f.slots j v } ∷ fs else f ∷ put_in_frame n j v fs) i ≡ Some h
        → ((i : ℕ) (h : Frame) (k : ℕ) (u : Val) → slice_get (put_in_frame n j v fs) i ≡ Some h → slice_get h.slots k ≡ Some u
        → (u ≡ v) ⊎ ((g : Frame) × (slice_get fs i ≡ Some g) × (slice_get g.slots k ≡ Some u)))
        → (u ≡ v) ⊎ ((g : Frame) × (slice_get (f ∷ fs) i ≡ Some g) × (slice_get g.slots k ≡ Some u))
    by true zero there rest =
        let same = same_Some (record f { slots = slice_set f.slots j v }) h there in
        elim (set-back f.slots j k v u (ap (λ (g : Frame). slice_get g.slots k) same ∙ at)) [
          | inl put ↦ inl put.1
          | inr old ↦ inr (f, refl, old)
        ]
    by true (suc i) there rest = inr (h, there, at)
    by false zero there rest = let same = same_Some f h there in inr (f, refl, ap (λ (g : Frame). slice_get g.slots k) same ∙ at)
    by false (suc i) there rest = rest i h k u there at

-- a slot stays behind such a write, unless it is the one that is written
record Stays (n j : ℕ) (v : Val) (fs : List Frame) (i : ℕ) (h : Frame) (k : ℕ) (u : Val) : Type 0 where
  holder : Frame
  there : slice_get (put_in_frame n j v fs) i ≡ Some holder
  value : (slice_get holder.slots k ≡ Some u) ⊎ ((slice_get holder.slots k ≡ Some v) × (slice_get (reverse fs) n ≡ Some h) × (j ≡ k))

frame-stays : (n j : ℕ) (v : Val) (fs : List Frame) (i : ℕ) (h : Frame) (k : ℕ) (u : Val) → slice_get fs i ≡ Some h → slice_get h.slots k ≡ Some u
    → Stays n j v fs i h k u
frame-stays n j v [] i h k u there at = none-some h there
frame-stays n j v (f ∷ fs) i h k u there at = by (length fs == n) refl i there (frame-stays n j v fs)
  where
    written : Frame
    written = record f { slots = slice_set f.slots j v }

    is : (b : Truth) → (length fs == n) ≡ b → (i : ℕ)
        → slice_get (put_in_frame n j v (f ∷ fs)) i ≡ slice_get (if b then written ∷ fs else f ∷ put_in_frame n j v fs) i
    is b e i = ap (λ b. slice_get (if b then written ∷ fs else f ∷ put_in_frame n j v fs) i) e

    last : (length fs == n) ≡ true → slice_get (reverse (f ∷ fs)) n ≡ Some f
    last e = ap (λ l. slice_get l n) (reverse-cons f fs)
        ∙ ap (slice_get (reverse fs ++ f ∷ [])) (sym (eqb-true (length fs) n e) ∙ sym (length-reverse fs)) ∙ slice_get-push (reverse fs) f

    by : (b : Truth) → (length fs == n) ≡ b → (i : ℕ) → slice_get (f ∷ fs) i ≡ Some h
        → ((i : ℕ) (h : Frame) (k : ℕ) (u : Val) → slice_get fs i ≡ Some h → slice_get h.slots k ≡ Some u → Stays n j v fs i h k u)
        → Stays n j v (f ∷ fs) i h k u
    by true e zero there rest =
        let same = same_Some f h there in
        let mine : slice_get f.slots k ≡ Some u = ap (λ (g : Frame). slice_get g.slots k) same ∙ at in record {
          holder = written;
          there = is true e 0;
          value = elim (set-old f.slots j k v u mine) [
            | inl eq ↦ inr (
              ap (slice_get (slice_set f.slots j v)) (sym eq) ∙ get-set f.slots j v u (ap (slice_get f.slots) eq ∙ mine),
              last e ∙ ap Some same,
              eq,
            )
            | inr old ↦ inl old
          ];
        }
    by true e (suc i) there rest = record { holder = h; there = is true e (suc i) ∙ there; value = inl at }
    by false e zero there rest =
        let same = same_Some f h there in
        record { holder = f; there = is false e 0; value = inl (ap (λ (g : Frame). slice_get g.slots k) same ∙ at) }
    by false e (suc i) there rest =
        let r = rest i h k u there at in record {
          holder = r.holder;
          there = is false e (suc i) ∙ r.there;
          value = elim r.value [
            | inl old ↦ inl old
            | inr put ↦ inr (put.0, ap (λ l. slice_get l n) (reverse-cons f fs) ∙ append-left (reverse fs) (f ∷ []) n h put.1, put.2)
          ];
        }

-- what owned a region that a window had open
pub record OwnerGiven (held : ℕ → Truth) (m : Machine) (r : ℕ) (p : Place) : Type 0 where
  pub held_there : OwnerHeld held m.store m.windows (Some p)
  pub into : is_into m.store r (value_at m p) ≡ true
  pub closed : is_open m.windows r ≡ false

-- a value that leads into the region goes where its owner reference is
module _ (held : ℕ → Truth) (f m : Machine) (p : Part held [] f m []) (r : ℕ) (v : Val) (into : is_into m.store r v ≡ true)
    (lead : leads_to held v ≡ true) where
  -- it leads into no other region than what was there
  follows : (q : ℕ) (u : Val) → is_into m.store r u ≡ true → is_into m.store q u ≡ true → is_into m.store q v ≡ true
  follows q u x y =
      let same = same-region r q (same_Some (Region r) (Region q) (sym (into-label m.store r u x) ∙ into-label m.store q u y)) in
      ap (λ q. is_into m.store q v) (sym same) ∙ into

  in-slot : (n j : ℕ) → is_into m.store r (value_at m (place.Var n j)) ≡ true
      → Part held [] (record f { frames = put_in_frame n j v f.frames }) (record m { frames = put_in_frame n j v m.frames }) []
  in-slot n j old =
      part-frames held [] f m [] p (put_in_frame n j v f.frames) (put_in_frame n j v m.frames) [] [] (ap (put_in_frame n j v) p.frames)
      (λ i h k u there at. elim (frame-back n j v m.frames i h k u there at) [
        | inl is ↦ ap (leads_to held) is ∙ lead
        | inr was ↦ p.slots i was.0 k u was.1 was.2
      ]) tt (λ q c s. inl (stays q s)) (λ q c any. off any)
    where
      was-there : (h : Frame) (k : ℕ) (u : Val) → slice_get (reverse m.frames) n ≡ Some h → j ≡ k → slice_get h.slots k ≡ Some u
          → is_into m.store r u ≡ true
      was-there h k u there same at =
          sym (ap (is_into m.store r)
          (ap (λ (o : Option Frame). elim o [ None ↦ val.Nil | Some h ↦ unwrap_or (slice_get h.slots j) val.Nil ]) there
          ∙ ap (λ i. unwrap_or (slice_get h.slots i) val.Nil) same ∙ ap (λ o. unwrap_or o val.Nil) at)) ∙ old

      stays : (q : ℕ) → SlotInto m q → SlotInto (record m { frames = put_in_frame n j v m.frames }) q
      stays q s =
          let g = frame-stays n j v m.frames s.frame s.holder s.slot s.value s.holder_there s.value_there in
          elim g.value [
            | inl same ↦ record {
              frame = s.frame;
              slot = s.slot;
              holder = g.holder;
              value = s.value;
              holder_there = g.there;
              value_there = same;
              into = s.into;
            }
            | inr put ↦ record {
              frame = s.frame;
              slot = s.slot;
              holder = g.holder;
              value = v;
              holder_there = g.there;
              value_there = put.0;
              into = follows q s.value (was-there s.holder s.slot s.value put.1 put.2 s.value_there) s.into;
            }
          ]

  -- a field of an object of a window beneath
  module _ (a k : ℕ) (g : OwnerGiven held m r (place.Field a k)) where
    abbrev o : Seen
    o = g.held_there.1.0

    here : held a ≡ true
    here = g.held_there.0

    there : slice_get m.store a ≡ Some o
    there = g.held_there.1.1

    may : (q : ℕ) (l : Label) → o.label ≡ Region q → label_of m.store v ≡ Some l → may_lead m.windows q l ≡ true
    may q l lies is =
        subst (λ l. may_lead m.windows q l ≡ true) (same_Some (Region r) l (sym (into-label m.store r v into) ∙ is))
        (or_right (r == q) (is_shut_or_above m.windows r q) (closed-above m.windows r q g.closed))

    old : is_into m.store r (field_of o k) ≡ true
    old = sym (ap (λ (s : Option Seen). is_into m.store r (elim s [ None ↦ val.Nil | Some o ↦ field_of o k ])) there) ∙ g.into

    lost : (q : ℕ) → is_open m.windows q ≡ false → is_into m.store q (field_of o k) ≡ true
        → Placed held (record m { store = slice_set m.store a (with_value_in o k v) }) q ⊎ (list_any (is_into m.store q) [] ≡ true)
    lost q c leads = inl (by (slice_get o.fields k) refl old leads)
      where
        by : (s : Option Val) → slice_get o.fields k ≡ s → is_into m.store r (unwrap_or s val.Nil) ≡ true
            → is_into m.store q (unwrap_or s val.Nil) ≡ true → Placed held (record m { store = slice_set m.store a (with_value_in o k v) }) q
        by None at x y = off x
        by (Some u) at x y = inr (
          record {
            object = a;
            field = k;
            holder = with_value_in o k v;
            value = v;
            holder_there = get-set m.store a (with_value_in o k v) o there;
            value_there = get-set o.fields k v u at;
            outside = of-outside m.windows q o.label c g.held_there.1.2;
            into = into-set held [] f m [] a o k v p here there lead may q v ∙ follows q u x y;
          },
          here,
        )

    in-field : Part held [] (record f { store = put_in f.store (val.Obj a) k v }) (record m { store = put_in m.store (val.Obj a) k v }) []
    in-field =
        let put : List Seen → Option Seen → List Seen = λ store s. elim s [ None ↦ store | Some h ↦ slice_set store a (with_value_in h k v) ] in
        subst (λ s. Part held [] (record f { store = s }) (record m { store = put_in m.store (val.Obj a) k v }) [])
        (sym (ap (put f.store) (p.same a here ∙ there)))
        (subst (λ s. Part held [] (record f { store = slice_set f.store a (with_value_in o k v) }) (record m { store = s }) [])
        (sym (ap (put m.store) there))
        (part-write held [] f m [] a o k v p here there lead may [] [] tt lost (λ q c any. off any)))

  pub part-given : (at : Option Place) → ((q : Place) → at ≡ Some q → OwnerGiven held m r q) → Part held [] (put_at at v f) (put_at at v m) []
  part-given None g = p
  part-given (Some (place.Var n j)) g = in-slot n j (g (place.Var n j) refl).into
  part-given (Some (place.Field a k)) g = in-field a k (g (place.Field a k) refl)
