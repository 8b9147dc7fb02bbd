-- The end of a window: slots, temporaries and the window go, and its region is closed.
use Rattle.std.proofs.Common.{◌≡◌, ℕ, zero, suc, ◌==◌, ◌⊎◌, inl, inr, true, false, not, Bool as Truth, List, [], ◌∷◌, ◌++◌}
use Rattle.std.proofs.Common.{length, Option, Some, None, unwrap_or, option_map, option_and_then, drop, reverse, refl, sym, ap, subst, ◌∙◌, arith}
use Rattle.std.proofs.Common.{slice_get, Result, Ok, Err}
use Rattle.std.proofs.lemmas.Option.{same_Some}
use Rattle.std.proofs.lemmas.Bool.{or_right, not-true, eq-eqb, eqb-true, or_cases, cases_Bool}
use Rattle.std.proofs.lemmas.Map.Keys.{any_passes_from_place}
use Rattle.std.specs.Prelude.{◌||◌, ◌&&◌, cond, if◌then◌else◌, filter, flat_map, nat_le}
use Rattle.std.specs.List.{list_any}
use Rattle.rg_base.specs.declared.object.Label.{Label}
use Rattle.rg_base.specs.declared.object.Label.TheVariants.{Region, Temp, Frozen}
use Rattle.rg_base.specs.declared.object.Place.{Place}
use Rattle.rg_base.specs.declared.object.Place.TheVariants as place
use Rattle.rg_base.specs.declared.object.Seen.{Seen}
use Rattle.rg_base.specs.declared.outcome.Trap.{Trap}
use Rattle.rg_base.specs.declared.value.Val.{Val}
use Rattle.rg_base.specs.declared.value.Val.TheVariants as val
use Rattle.rg_rules.specs.Values.{is_nil_value}
use Rattle.rg_rules.specs.Evaluation.{object_at}
use Rattle.rg_rules.specs.Regions.{in_regions}
use Rattle.rg_sound.proofs.Stores.Member.{In, in-left, in-right, in-split, among-in as member-in}
use Rattle.rg_code.specs.declared.op.Op.TheVariants as i
use Rattle.rg_code.specs.Code.{Code}
use Rattle.rg_stack.specs.Machine.{Frame, Window, Machine, top_slots, slot_at, end_slots, place_of}
use Rattle.rg_stack.specs.Effects.{Walked, Traps, Go, act, on_object, put_at, left}
use Rattle.rg_stack.specs.Tops.{Work, without_top, top_window, top_region, top_owner}
use Rattle.rg_stack.specs.Effects.{beneath_by_labels}
use Rattle.rg_stack.specs.Needs.{closed_into, owned_once, is_top_temp, is_to_temp, outlives}
use Rattle.rg_stack.specs.Labels.{is_open, has_window, label_of, is_into, is_outside}
use Rattle.rg_stack.specs.Places.{field_of}
use Rattle.rg_stack.specs.Needs.{temps_may_go, owner_leads, owner_at, may_leave, seen_by_owner, needs}
use Rattle.rg_stack.specs.Places.{top_base, value_at}
use Rattle.rg_stack.proofs.Basics.{none-some, and-left, and-right}
use Rattle.rg_held.specs.Frees.{is_temp, closed_among, closed_by_temps, left_with, window_that_ends, bury, free_act, freed}
use Rattle.rg_held.specs.Gone.{gone}
use Rattle.rg_held.specs.Part.{leads_to, SlotInto, FieldInto, Placed, Tidy, Part, is_of, OwnerHeld, OwnersHeld, SomeWindow, is_shut_or_above}
use Rattle.rg_held.specs.Part.{may_lead, Differ}
use Rattle.rg_held.specs.Ends.{Match, SameEnd}
use Rattle.rg_held.specs.Laws.{owners_of, GoesOn}
use Rattle.rg_held.proofs.Lists.{off, any-at, drop-back, reverse-back}
use Rattle.rg_held.proofs.Places.{or-right, clash, closed-back, closed-there, into-label, top-open, slot-into}
use Rattle.rg_held.proofs.Parts.Part.{closed-above, field-frames, closed-same, top-slot, slot-over, field-over}
use Rattle.rg_held.proofs.Parts.Half.{Half, Lost, whole}
use Rattle.rg_held.proofs.Parts.Burial.{Burial, left_held, is_buried, freed-closed, NotBelow, temp-label, part-bury, unburied}
use Rattle.rg_held.proofs.Callers.Forget.{part-remembers}
use Rattle.rg_held.proofs.Acts.Stack.{match-more, slot-leads, slot-same, object-same}
use Rattle.rg_held.proofs.Acts.Give.{OwnerGiven, of-outside, part-given}
use Rattle.rg_held.proofs.Parts.Slot.{end-back, part-end}
use Rattle.rg_held.proofs.Acts.Release.{given-in, given-back, top-into, two-slots, slot-and-field, two-fields, Ending, among-in, among-back}
use Rattle.rg_held.proofs.Acts.Release.{part-end-freed}

-- elements that pass a test, and lists of what they give

filtered-back : {A : Type 0} (t : A → Truth) (xs : List A) (i : ℕ) (x : A) → slice_get (filter t xs) i ≡ Some x
    → (j : ℕ) × ((slice_get xs j ≡ Some x) × (t x ≡ true))
filtered-back t [] i x e = none-some x e
filtered-back {A = A} t (y ∷ ys) i x e = by (t y) refl i e (filtered-back t ys)
  where
    by : (b : Truth) → t y ≡ b → (i : ℕ) → slice_get (cond b (y ∷ filter t ys) (filter t ys)) i ≡ Some x
        → ((i : ℕ) (x : A) → slice_get (filter t ys) i ≡ Some x → (j : ℕ) × ((slice_get ys j ≡ Some x) × (t x ≡ true)))
        → (j : ℕ) × ((slice_get (y ∷ ys) j ≡ Some x) × (t x ≡ true))
    by true h zero e rest = (0, (e, ap t (sym (same_Some y x e)) ∙ h))
    by true h (suc i) e rest = let r = rest i x e in (suc r.0, r.1)
    by false h i e rest = let r = rest i x e in (suc r.0, r.1)

filtered-in : {A : Type 0} (t : A → Truth) (xs : List A) (j : ℕ) (x : A) → slice_get xs j ≡ Some x → t x ≡ true
    → (i : ℕ) × (slice_get (filter t xs) i ≡ Some x)
filtered-in t [] j x e p = none-some x e
filtered-in t (y ∷ ys) zero x e p = (0, ap (λ b. slice_get (cond b (y ∷ filter t ys) (filter t ys)) 0) (ap t (same_Some y x e) ∙ p) ∙ e)
filtered-in t (y ∷ ys) (suc j) x e p = by (t y) (filtered-in t ys j x e p)
  where
    by : (b : Truth) → ((i : ℕ) × (slice_get (filter t ys) i ≡ Some x)) → (i : ℕ) × (slice_get (cond b (y ∷ filter t ys) (filter t ys)) i ≡ Some x)
    by true r = (suc r.0, r.1)
    by false r = r

mapped-back : {A : Type 0} (h : A → List ℕ) (xs : List A) (q : ℕ) → In q (flat_map h xs) → (i : ℕ)
    × ((x : A) × (slice_get xs i ≡ Some x) × In q (h x))
mapped-back h [] q j = absurd j
mapped-back h (x ∷ xs) q j = elim (in-split (h x) (flat_map h xs) q j) [
  | inl here ↦ (0, (x, refl, here))
  | inr there ↦ (let r = mapped-back h xs q there in (suc r.0, r.1))
]

mapped-in : {A : Type 0} (h : A → List ℕ) (xs : List A) (i : ℕ) (x : A) (q : ℕ) → slice_get xs i ≡ Some x → In q (h x) → In q (flat_map h xs)
mapped-in h [] i x q e j = none-some x e
mapped-in h (y ∷ ys) zero x q e j =
    in-left (h y) (flat_map h ys) q (subst (λ z. In q (h z)) (sym (same_Some y x e)) j)
mapped-in h (y ∷ ys) (suc i) x q e j = in-right (h y) (flat_map h ys) q (mapped-in h ys i x q e j)

-- the topmost window goes, where none of its temporaries is held, and its region has an owner reference
module _ (held : ℕ → Truth) (f m : Machine) (p : Half held [] f m []) (w : Window) (ws : List Window) (e : m.windows ≡ w ∷ ws)
    (some : (v : Window) × ((rest : List Window) × (ws ≡ v ∷ rest)))
    (no_temp : (a : ℕ) (o : Seen) → held a ≡ true → slice_get m.store a ≡ Some o → o.label ≡ Temp w.number → ⊥)
    (owner : Placed held (record m { windows = ws }) w.region) where
  differ : Differ (w ∷ ws)
  differ = subst Differ e p.tidy.differ

  opened : (r : ℕ) → is_open ws r ≡ true → is_open m.windows r ≡ true
  opened r h = ap (λ l. is_open l r) e ∙ by (w.region == r)
    where
      by : (b : Truth) → (b || is_open ws r) ≡ true
      by true = refl
      by false = h

  numbered : (n : ℕ) → has_window ws n ≡ true → has_window m.windows n ≡ true
  numbered n h = ap (λ l. has_window l n) e ∙ by (w.number == n)
    where
      by : (b : Truth) → (b || has_window ws n) ≡ true
      by true = refl
      by false = h

  -- a temporary that is held is one of a window that stays
  stays : (a : ℕ) (o : Seen) (n : ℕ) → held a ≡ true → slice_get m.store a ≡ Some o → o.label ≡ Temp n → has_window ws n ≡ true
  stays a o n h there lies = elim (or_cases (w.number == n) (has_window ws n)
      (sym (ap (λ l. has_window l n) e) ∙ p.temps a o n h there lies)) [
        | inl same ↦ absurd (no_temp a o h there (lies ∙ ap Temp (sym (eqb-true w.number n same))))
        | inr below ↦ below
      ]

  abbrev field-stays : (r : ℕ) (l : FieldInto m r) → held l.object ≡ true → FieldInto (record m { windows = ws }) r
  field-stays r l h = field-over m (record m { windows = ws }) r l l.holder_there (by l.holder.label refl l.outside) l.into
    where
      by : (k : Label) → l.holder.label ≡ k → is_outside m.windows r k ≡ true → is_outside ws r k ≡ true
      by (Region q) lies o = o
      by (Temp n) lies o = stays l.object l.holder n h l.holder_there lies
      by Frozen lies o = o

  place-stays : (r : ℕ) → Placed held m r → Placed held (record m { windows = ws }) r
  place-stays r (inl s) = inl (slot-over m (record m { windows = ws }) r s s.holder_there s.into)
  place-stays r (inr l) = inr (field-stays r l.0 l.1, l.1)

  may-stay : (k : ℕ) (l : Label) → may_lead m.windows k l ≡ true → may_lead ws k l ≡ true
  may-stay k (Temp n) h = h
  may-stay k Frozen h = refl
  may-stay k (Region r) h = by (r == k) (w.region == r) refl (sym (ap (λ l. may_lead l k (Region r)) e) ∙ h)
    where
      by : (b c : Truth) → (w.region == r) ≡ c → (b || (if c then is_open ws k else is_shut_or_above ws r k)) ≡ true
          → (b || is_shut_or_above ws r k) ≡ true
      by true c same h = refl
      by false false same h = h
      by false true same h =
          closed-above ws r k (ap (is_open ws) (sym (eqb-true w.region r same)) ∙ differ.0)

  tidy : Tidy (record m { windows = ws })
  tidy = record {
    some_window = subst SomeWindow (sym some.1.1) tt;
    differ = differ.2;
    numbers = λ n h. p.tidy.numbers n (numbered n h);
    regions = λ r h. p.tidy.regions r (opened r h);
    labels = p.tidy.labels;
    fields = p.tidy.fields;
    inside = λ a o k j v l there lies at is. may-stay k l (p.tidy.inside a o k j v l there lies at is);
  }

  pub half-close : Half held [] (record f { windows = ws }) (record m { windows = ws }) []
  half-close = record {
    around = record {
      frames = p.around.frames;
      windows = refl;
      windows_made = p.around.windows_made;
      at = p.around.at;
      managers_made = p.around.managers_made;
      open_managers = λ r h. p.around.open_managers r (opened r h);
    };
    held_managers = p.held_managers;
    objects_made = p.objects_made;
    there = p.there;
    same = p.same;
    others = p.others;
    temps = stays;
    slots = p.slots;
    on_stack = p.on_stack;
    fields = p.fields;
    owned = λ a o r h there lies c. by (w.region == r) a o r refl h there lies c;
    window_owners = (subst (λ l. OwnersHeld held m.store l) e p.window_owners).1;
    tidy = tidy;
  }
    where
      by : (b : Truth) → (a : ℕ) (o : Seen) (r : ℕ) → (w.region == r) ≡ b → held a ≡ true → slice_get m.store a ≡ Some o → o.label ≡ Region r
          → is_open ws r ≡ false → Placed held (record m { windows = ws }) r ⊎ (false ≡ true)
      by true a o r same h there lies c =
          inl (subst (λ r. Placed held (record m { windows = ws }) r) (eqb-true w.region r same) owner)
      by false a o r other h there lies c = elim (p.owned a o r h there lies
          (ap (λ l. is_open l r) e ∙ ap (λ b. b || is_open ws r) other ∙ c)) [
            | inl placed ↦ inl (place-stays r placed)
            | inr none ↦ off none
          ]

-- the region that is closed has its owner reference where the window says
module _ (held : ℕ → Truth) (f m : Machine) (p : Half held [] f m []) (w v : Window) (rest : List Window) (e : m.windows ≡ w ∷ v ∷ rest)
    (o : owner_leads m ≡ true) where
  abbrev ws : List Window
  ws = v ∷ rest

  shut : is_open ws w.region ≡ false
  shut = (subst Differ e p.tidy.differ).0

  leads : owner_at (record m { windows = w ∷ ws }) w ≡ true
  leads = subst (λ l. owner_leads (record m { windows = l }) ≡ true) e o

  mine : OwnerHeld held m.store ws w.owner
  mine = (subst (λ l. OwnersHeld held m.store l) e p.window_owners).0

  in-frame : (h : Frame) (n j : ℕ) → slice_get m.frames n ≡ Some h → is_into m.store w.region (unwrap_or (slice_get h.slots j) val.Nil) ≡ true
      → SlotInto (record m { windows = ws }) w.region
  in-frame h n j there into = by (slice_get h.slots j) refl into
    where
      by : (s : Option Val) → slice_get h.slots j ≡ s → is_into m.store w.region (unwrap_or s val.Nil) ≡ true
          → SlotInto (record m { windows = ws }) w.region
      by None at into = off into
      by (Some x) at into = slot-into n j h x there at into

  in-object : (a : ℕ) (h : Seen) (k : ℕ) → slice_get m.store a ≡ Some h → is_of ws h.label ≡ true → is_into m.store w.region (field_of h k) ≡ true
      → (l : FieldInto (record m { windows = ws }) w.region) × (l.object ≡ a)
  in-object a h k there of into = by (slice_get h.fields k) refl into
    where
      by : (s : Option Val) → slice_get h.fields k ≡ s → is_into m.store w.region (unwrap_or s val.Nil) ≡ true
          → (l : FieldInto (record m { windows = ws }) w.region) × (l.object ≡ a)
      by None at into = off into
      by (Some x) at into = (
        record {
          object = a;
          field = k;
          holder = h;
          value = x;
          holder_there = there;
          value_there = at;
          outside = of-outside ws w.region h.label shut of;
          into = into;
        },
        refl,
      )

  pub owner-placed : Placed held (record m { windows = ws }) w.region
  owner-placed = by w.owner mine leads
    where
      of-frame : (n j : ℕ) (h : Option Frame) → slice_get (reverse m.frames) n ≡ h
          → is_into m.store w.region (elim h [ None ↦ val.Nil | Some h ↦ unwrap_or (slice_get h.slots j) val.Nil ]) ≡ true
          → SlotInto (record m { windows = ws }) w.region
      of-frame n j None at into = off into
      of-frame n j (Some h) at into = let r = reverse-back m.frames n h at in in-frame h r.0 j r.1 into

      by : (at : Option Place) → OwnerHeld held m.store ws at
          → elim at [ None ↦ false | Some p ↦ is_into m.store w.region (value_at (record m { windows = w ∷ ws }) p) ] ≡ true
          → Placed held (record m { windows = ws }) w.region
      by None h into = off into
      by (Some (place.Var n j)) h into = inl (of-frame n j (slice_get (reverse m.frames) n) refl into)
      by (Some (place.Field a k)) h into =
          let l = in-object a h.1.0 k h.1.1 h.1.2
          (sym (ap (λ (s : Option Seen). is_into m.store w.region (elim s [ None ↦ val.Nil | Some o ↦ field_of o k ])) h.1.1) ∙ into) in
          inr (l.0, ap held l.1 ∙ h.0)

-- `leave`, where a window is beneath
module _ (held : ℕ → Truth) (f m : Machine) (s : ℕ) (p : Part held [] f m []) (w v : Window) (rest : List Window) (e : m.windows ≡ w ∷ v ∷ rest)
    (once : owned_once m ≡ true) (go_may : temps_may_go (end_slots m s) ≡ true) (o : owner_leads (end_slots m s) ≡ true) where
  abbrev given : List ℕ
  given = closed_among f (drop s (top_slots f.frames)) ++ closed_by_temps f

  abbrev all : List ℕ
  all = beneath_by_labels f.store (length f.managers) given

  abbrev n : ℕ
  n = w.number

  abbrev behind : List Val
  behind = drop s (top_slots m.frames)

  same : drop s (top_slots f.frames) ≡ behind
  same = ap (λ fs. drop s (top_slots fs)) p.frames

  top-f : top_window f.windows ≡ n
  top-f = ap top_window (p.windows ∙ e)

  top-m : top_window m.windows ≡ n
  top-m = ap top_window e

  lead : (j : ℕ) (x : Val) → slice_get behind j ≡ Some x → leads_to held x ≡ true
  lead j x at = let b = drop-back (top_slots m.frames) s j x at in let g = top-slot m.frames b.0 x b.1 in p.slots 0 g.0 b.0 x g.1 g.2

  -- a field of a temporary
  record OfTemp (q : ℕ) : Type 0 where
    place : FieldInto m q
    label : place.holder.label ≡ Temp n
    closed : is_open m.windows q ≡ false

  temp-is : (l : Label) → is_top_temp f l ≡ true → l ≡ Temp n
  temp-is (Region r) h = off h
  temp-is (Temp k) h = ap Temp (eqb-true k (top_window f.windows) h ∙ top-f)
  temp-is Frozen h = off h

  gone-is : (h : Seen) (x : Option Seen) → option_map (λ (q : Seen). gone) x ≡ Some h → gone ≡ h
  gone-is h None at = none-some h at
  gone-is h (Some q) at = same_Some gone h at

  of-object : (q a : ℕ) (h : Seen) → held a ≡ true → slice_get m.store a ≡ Some h → h.label ≡ Temp n → In q (closed_among f h.fields) → OfTemp q
  of-object q a h here there lies j =
      let r = given-back (closed_into f) h.fields q j in
      let leads = p.fields a h r.0 r.1.0 here there r.1.1 in
      let c = closed-back m r.1.0 q (sym (closed-same held [] f m [] p r.1.0 leads) ∙ r.1.2) in record {
        place = record {
          object = a;
          field = r.0;
          holder = h;
          value = r.1.0;
          holder_there = there;
          value_there = r.1.1;
          outside = ap (is_outside m.windows q) lies ∙ p.temps a h n here there lies;
          into = c.into;
        };
        label = lies;
        closed = c.closed;
      }

  from-temps : (q : ℕ) → In q (closed_by_temps f) → OfTemp q
  from-temps q j =
      let r = mapped-back (λ (h : Seen). closed_among f h.fields) (filter (λ (h : Seen). is_top_temp f h.label) f.store) q j in
      let b = filtered-back (λ (h : Seen). is_top_temp f h.label) f.store r.0 r.1.0 r.1.1 in by b.0 r.1.0 b.1.0 b.1.1 r.1.2
    where
      by : (a : ℕ) (h : Seen) → slice_get f.store a ≡ Some h → is_top_temp f h.label ≡ true → In q (closed_among f h.fields) → OfTemp q
      by a h there top k = elim (cases_Bool (held a)) [
        | inl here ↦ of-object q a h here (sym (p.same a here) ∙ there) (temp-is h.label top) k
        | inr lost ↦ absurd (subst (λ (h : Seen). In q (closed_among f h.fields))
            (sym (gone-is h (slice_get m.store a) (sym (p.others a lost) ∙ there))) k)
      ]

  to-temps : (q : ℕ) (l : FieldInto m q) → is_open m.windows q ≡ false → held l.object ≡ true → l.holder.label ≡ Temp n → In q (closed_by_temps f)
  to-temps q l c here lies =
      let leads = p.fields l.object l.holder l.field l.value here l.holder_there l.value_there in
      let top : is_top_temp f l.holder.label ≡ true = ap (is_top_temp f) lies ∙ eq-eqb n (top_window f.windows) (sym top-f) in
      let r = filtered-in (λ (h : Seen). is_top_temp f h.label) f.store l.object l.holder (p.same l.object here ∙ l.holder_there) top in
      mapped-in (λ (h : Seen). closed_among f h.fields) (filter (λ (h : Seen). is_top_temp f h.label) f.store) r.0 l.holder q r.1
      (given-in (closed_into f) l.holder.fields l.field l.value q l.value_there
      (closed-same held [] f m [] p l.value leads ∙ closed-there m l.value q l.into c))

  -- a slot that ends
  from-slots : (q : ℕ) → In q (closed_among f (drop s (top_slots f.frames))) → Ending m s q
  from-slots q j =
      let h = among-back held [] f m [] p behind q lead (subst (λ l. In q (closed_among f l)) same j) in
      let b = drop-back (top_slots m.frames) s h.0 h.1.0 h.1.1 in
      let a = top-into m b.0 q h.1.0 b.1 h.1.2.into in record {
        place = a.0;
        top = a.1;
        behind = (let x = b.2 in let y = a.2 in omega (arith, x, y));
        closed = h.1.2.closed;
      }

  from : (q : ℕ) → In q given → Ending m s q ⊎ OfTemp q
  from q j = elim (in-split (closed_among f (drop s (top_slots f.frames))) (closed_by_temps f) q j) [
    | inl slot ↦ inl (from-slots q slot)
    | inr temp ↦ inr (from-temps q temp)
  ]

  to-temp : (k : ℕ) (x : Val) → Some n ≡ Some k → label_of m.store x ≡ Some (Temp k) → is_to_temp (end_slots m s) x ≡ true
  to-temp k x is l = ap (λ (o : Option Label). elim o [ None ↦ false | Some l ↦ is_top_temp (end_slots m s) l ]) l
      ∙ eq-eqb k (top_window m.windows) (sym (top-m ∙ same_Some n k is))

  no-slots : list_any (λ (h : Frame). list_any (is_to_temp (end_slots m s)) h.slots) (end_slots m s).frames ≡ false
  no-slots = not-true (list_any (λ (h : Frame). list_any (is_to_temp (end_slots m s)) h.slots) (end_slots m s).frames)
      (and-left (not (list_any (λ (h : Frame). list_any (is_to_temp (end_slots m s)) h.slots) (end_slots m s).frames))
      (not (list_any (λ (o : Seen). outlives (end_slots m s) o.label && list_any (is_to_temp (end_slots m s)) o.fields) m.store)) go_may)

  no-fields : list_any (λ (o : Seen). outlives (end_slots m s) o.label && list_any (is_to_temp (end_slots m s)) o.fields) m.store ≡ false
  no-fields = not-true (list_any (λ (o : Seen). outlives (end_slots m s) o.label && list_any (is_to_temp (end_slots m s)) o.fields) m.store)
      (and-right (not (list_any (λ (h : Frame). list_any (is_to_temp (end_slots m s)) h.slots) (end_slots m s).frames))
      (not (list_any (λ (o : Seen). outlives (end_slots m s) o.label && list_any (is_to_temp (end_slots m s)) o.fields) m.store)) go_may)

  stays-out : (a : ℕ) (h : Seen) → held a ≡ true → slice_get m.store a ≡ Some h → is_temp (Some n) h.label ≡ false
      → outlives (end_slots m s) h.label ≡ true
  stays-out a h here there other = by h.label refl other
    where
      by : (l : Label) → h.label ≡ l → is_temp (Some n) l ≡ false → outlives (end_slots m s) l ≡ true
      by (Region r) lies other = refl
      by (Temp k) lies other = ap (λ b. b && not (k == top_window m.windows)) (p.temps a h k here there lies)
          ∙ ap not (ap (λ t. k == t) top-m ∙ other)
      by Frozen lies other = refl

  burial : Burial held behind (end_slots m s) [] given (Some n) []
  burial = record {
    closed = λ q j. elim (from q j) [ inl a ↦ a.closed | inr t ↦ t.closed ];
    alone = λ q c. record {
      slot_field = λ a b. slot-and-field m p.tidy once q c (end-back m s q a).0 (field-frames (end_slots m s) m.frames q b);
      field_field = λ a b. two-fields m p.tidy once q c (field-frames (end_slots m s) m.frames q a) (field-frames (end_slots m s) m.frames q b);
    };
    no_slot = λ q j a. (let was = end-back m s q a in elim (from q j) [
      | inl h ↦ (let same = two-slots m p.tidy once q h.closed was.0 h.place in was.1 h.place.slot h.behind (same.0 ∙ h.top) same.1)
      | inr t ↦ slot-and-field m p.tidy once q t.closed was.0 t.place
    ]);
    no_field = λ q j l other. (let b = field-frames (end_slots m s) m.frames q l in elim (from q j) [
      | inl h ↦ slot-and-field m p.tidy once q h.closed h.place b
      | inr t ↦
          (let at = two-fields m p.tidy once q t.closed t.place b in
          let holder : t.place.holder ≡ l.holder = same_Some t.place.holder l.holder
          (sym t.place.holder_there ∙ ap (slice_get m.store) at ∙ l.holder_there) in
          clash (is_temp (Some n) l.holder.label)
          (ap (is_temp (Some n)) (ap (λ (o : Seen). o.label) (sym holder) ∙ t.label) ∙ eq-eqb n n refl) other)
    ]);
    stack_free = λ q c h. off h;
    temps_owned = λ q c l here t. (let k = temp-label (Some n) l.holder.label t in
        in-right (closed_among f (drop s (top_slots f.frames))) (closed_by_temps f) q
        (to-temps q (field-frames (end_slots m s) m.frames q l) c here (k.2 ∙ ap Temp (sym (same_Some n k.0 k.1)))));
    slots_stay = λ j h i x k there at is l. clash
        (list_any (λ (h : Frame). list_any (is_to_temp (end_slots m s)) h.slots) (end_slots m s).frames)
        (any_passes_from_place (λ (h : Frame). list_any (is_to_temp (end_slots m s)) h.slots) (end_slots m s).frames j h there
        (any_passes_from_place (is_to_temp (end_slots m s)) h.slots i x at (to-temp k x is l))) no-slots;
    fields_stay = λ a h i x k here there other at is l. clash
        (list_any (λ (o : Seen). outlives (end_slots m s) o.label && list_any (is_to_temp (end_slots m s)) o.fields) m.store)
        (any_passes_from_place (λ (o : Seen). outlives (end_slots m s) o.label && list_any (is_to_temp (end_slots m s)) o.fields) m.store a h there
        (ap (λ b. b && list_any (is_to_temp (end_slots m s)) h.fields) (stays-out a h here there other)
        ∙ any_passes_from_place (is_to_temp (end_slots m s)) h.fields i x at (to-temp k x is l))) no-fields;
    stack_stays = λ j x k at is l. none-some x at;
    windows_stay = λ k is. subst (λ l. NotBelow l k) (sym e)
        (ap (has_window (v ∷ rest)) (sym (same_Some n k is)) ∙ (subst Differ e p.tidy.differ).1);
    owners_given = λ q c any. inl (let h = any-at (is_into m.store q) behind any in
        in-left (closed_among f (drop s (top_slots f.frames))) (closed_by_temps f) q
        (among-in held [] f m [] p (drop s (top_slots f.frames)) h.0 h.1.0 q (ap (λ l. slice_get l h.0) same ∙ h.1.1)
        (lead h.0 h.1.0 h.1.1) h.1.2 c));
  }

  buried : Half (left_held held m.store all (Some n)) [] (record (end_slots f s) { store = bury all (Some n) f.store }) (end_slots m s) []
  buried = part-bury held behind (end_slots f s) (end_slots m s) [] (part-end held [] f m [] p s [] tt (λ r c h. off h)) given (Some n) [] burial

  -- a temporary that isn't held is one of the window that ends, or wasn't held before
  lost : Lost (left_held held m.store all (Some n)) (record (end_slots m s) { windows = v ∷ rest })
  lost a h k away there lies = elim (cases_Bool (k == n)) [
    | inl same ↦
        (let is = eqb-true k n same in (
          p.tidy.numbers k (ap (λ l. has_window l k) e ∙ ap (λ b. b || has_window (v ∷ rest) k) (eq-eqb n k (sym is))),
          ap (has_window (v ∷ rest)) is ∙ (subst Differ e p.tidy.differ).1,
        ))
    | inr other ↦
        let x = p.lost_temps a h k (unburied held behind (end_slots f s) (end_slots m s) [] (part-end held [] f m [] p s [] tt (λ r c h. off h))
        given (Some n) [] burial a h k away there lies other) there lies in
        (x.0, or-right (n == k) (has_window (v ∷ rest) k) (sym (ap (λ l. has_window l k) e) ∙ x.1))
  ]

  no-temp : (a : ℕ) (h : Seen) → left_held held m.store all (Some n) a ≡ true → slice_get m.store a ≡ Some h → h.label ≡ Temp n → ⊥
  no-temp a h l there lies = clash (is_buried all (Some n) h) (ap (λ l. in_regions all l || is_temp (Some n) l) lies ∙ eq-eqb n n refl)
      (not-true (is_buried all (Some n) h)
      (sym (ap (λ (s : Option Seen). elim s [ None ↦ false | Some o ↦ not (is_buried all (Some n) o) ]) there) ∙ and-right (held a) _ l))

  pub part-leave : Part (left_held held m.store all (Some n)) []
      (record (record (end_slots f s) { store = bury all (Some n) f.store }) { windows = v ∷ rest })
      (record (end_slots m s) { windows = v ∷ rest }) []
  part-leave = whole (left_held held m.store all (Some n)) []
      (record (record (end_slots f s) { store = bury all (Some n) f.store }) { windows = v ∷ rest })
      (record (end_slots m s) { windows = v ∷ rest }) []
      (half-close (left_held held m.store all (Some n)) (record (end_slots f s) { store = bury all (Some n) f.store }) (end_slots m s)
      buried w (v ∷ rest) e (v, (rest, refl)) no-temp
      (owner-placed (left_held held m.store all (Some n)) (record (end_slots f s) { store = bury all (Some n) f.store }) (end_slots m s) buried
      w v rest e o)) lost

  -- the object of the owner is still held, and its place still leads into the region, which is closed
  pub owner-kept : OwnerHeld (left_held held m.store all (Some n)) m.store (v ∷ rest) w.owner
  owner-kept = (subst (λ l. OwnersHeld (left_held held m.store all (Some n)) m.store l) e buried.window_owners).0

  pub owner-into : owner_at (record (end_slots m s) { windows = v ∷ rest }) w ≡ true
  owner-into = subst (λ l. owner_leads (record (end_slots m s) { windows = l }) ≡ true) e o

  pub region-shut : is_open (v ∷ rest) w.region ≡ false
  region-shut = (subst Differ e p.tidy.differ).0

-- what ends with a window is closed
closed-among : (f : Machine) (vs : List Val) (q : ℕ) → In q (closed_among f vs) → is_open f.windows q ≡ false
closed-among f vs q j = let r = given-back (closed_into f) vs q j in (closed-back f r.1.0 q r.1.2).closed

pub closed-given : (f : Machine) (s : ℕ) (t : Option ℕ) (q : ℕ) → In q (left_with f s t).regions → is_open f.windows q ≡ false
closed-given f s None q j = closed-among f (drop s (top_slots f.frames)) q j
closed-given f s (Some n) q j = elim (in-split (closed_among f (drop s (top_slots f.frames))) (closed_by_temps f) q j) [
  | inl slot ↦ closed-among f (drop s (top_slots f.frames)) q slot
  | inr temp ↦
      (let h = mapped-back (λ (h : Seen). closed_among f h.fields) (filter (λ (h : Seen). is_top_temp f h.label) f.store) q temp in
      closed-among f h.1.0.fields q h.1.2)
]

region-no-temp : (t : Option ℕ) (r : ℕ) → is_temp t (Region r) ≡ false
region-no-temp None r = refl
region-no-temp (Some n) r = refl

-- what leads into an open region still leads to what is held
still-leads : (held : ℕ → Truth) (owners : List Val) (f m : Machine) (stack : List Val) → Part held owners f m stack → (s : ℕ) (t : Option ℕ)
    (r : ℕ) (v : Val) → is_open m.windows r ≡ true → is_into m.store r v ≡ true → leads_to held v ≡ true
    → leads_to (left_held held m.store (beneath_by_labels f.store (length f.managers) (left_with f s t).regions) t) v ≡ true
still-leads held owners f m stack p s t r val.Nil opened into h = refl
still-leads held owners f m stack p s t r (val.Int z) opened into h = refl
still-leads held owners f m stack p s t r (val.Bool b) opened into h = refl
still-leads held owners f m stack p s t r (val.Obj a) opened into h =
    by (slice_get m.store a) refl (into-label m.store r (val.Obj a) into)
  where
    all : List ℕ
    all = beneath_by_labels f.store (length f.managers) (left_with f s t).regions

    not-freed : (b : Truth) → in_regions all (Region r) ≡ b → b ≡ false
    not-freed false e = refl
    not-freed true e = clash (is_open m.windows r) opened
        (freed-closed held owners f m stack p (left_with f s t).regions t
        (λ q j. ap (λ ws. is_open ws q) (sym p.windows) ∙ closed-given f s t q j) r (member-in all r e))

    by : (o : Option Seen) → slice_get m.store a ≡ o → option_and_then (λ (o : Seen). Some o.label) o ≡ Some (Region r)
        → left_held held m.store all t a ≡ true
    by None there e = none-some (Region r) e
    by (Some o) there e =
        ap (λ b. b && elim (slice_get m.store a) [ None ↦ false | Some o ↦ not (is_buried all t o) ]) h
        ∙ ap (λ (s : Option Seen). elim s [ None ↦ false | Some o ↦ not (is_buried all t o) ]) there
        ∙ ap (λ l. not (in_regions all l || is_temp t l)) (same_Some o.label (Region r) e)
        ∙ ap (λ b. not (b || is_temp t (Region r))) (not-freed (in_regions all (Region r)) refl) ∙ ap not (region-no-temp t r)

-- what the end of a window needs
record MayLeave (m : Machine) (s : ℕ) : Type 0 where
  once : owned_once m ≡ true
  temps : temps_may_go (end_slots m s) ≡ true
  leads : owner_leads (end_slots m s) ≡ true

may-leave : (m : Machine) (s : ℕ) → may_leave [] m s ≡ true → MayLeave m s
may-leave m s n =
    let both = owned_once m && temps_may_go (end_slots m s) in
    let goes = and-left (both && owner_leads (end_slots m s)) (nat_le (place_of m.frames s) (top_base m.windows)) n in
    let two = and-left both (owner_leads (end_slots m s)) goes in record {
      once = and-left (owned_once m) (temps_may_go (end_slots m s)) two;
      temps = and-right (owned_once m) (temps_may_go (end_slots m s)) two;
      leads = and-right both (owner_leads (end_slots m s)) goes;
    }

-- behind the end of a window, of which these remain
abbrev after : Work → (s : ℕ) → Option ℕ → List Window → Work
after u s t ws = record (freed (Some (left_with u.machine s t)) u) {
  machine = record (end_slots (freed (Some (left_with u.machine s t)) u).machine s) { windows = ws };
}

-- the same over the growing store
abbrev beyond : Work → (s : ℕ) → List Window → Work
beyond w s ws = record w { machine = record (end_slots w.machine s) { windows = ws } }

module _ (u w : Work) (s : ℕ) (now : Match [] u w []) (may : MayLeave w.machine s) where
  -- What is held behind the end of a window: all that leads into its region, and the object of its owner.
  record Ended (ws : List Window) : Type 0 where
    match : Match [] (after u s (window_that_ends ws) (without_top ws)) (beyond w s (without_top ws)) []
    still : (v : Val) → is_into w.machine.store (top_region ws) v ≡ true → leads_to now.0 v ≡ true → leads_to match.0 v ≡ true
    owner : (q : Place) → top_owner ws ≡ Some q → OwnerGiven match.0 (beyond w s (without_top ws)).machine (top_region ws) q

  top-stays : (x : Window) (ws : List Window) → w.machine.windows ≡ x ∷ ws → is_open w.machine.windows x.region ≡ true
  top-stays x ws e = ap (λ l. is_open l x.region) e ∙ top-open (x ∷ ws) tt

  ended : (ws : List Window) → w.machine.windows ≡ ws → Ended ws
  ended [] e = absurd (subst SomeWindow e now.1.machine.tidy.some_window)
  ended (x ∷ []) e = record {
    match = (held, record { machine = last x e; input = now.1.input; printed = now.1.printed });
    still = λ v into h. still-leads now.0 [] u.machine w.machine [] now.1.machine s None x.region v (top-stays x [] e) into h;
    owner = λ q is. none-some q is;
  }
    where
      held : ℕ → Truth
      held = left_held now.0 w.machine.store
          (beneath_by_labels u.machine.store (length u.machine.managers) (closed_among u.machine (drop s (top_slots u.machine.frames)))) None

      last : (x : Window) → w.machine.windows ≡ x ∷ []
          → Part held [] (after u s None (x ∷ [])).machine (record (end_slots w.machine s) { windows = x ∷ [] }) []
      last x e =
          subst (λ l. Part held [] (after u s None l).machine (record (end_slots w.machine s) { windows = x ∷ [] }) [])
          (now.1.machine.windows ∙ e)
          (subst (λ l. Part held [] (after u s None u.machine.windows).machine (record (end_slots w.machine s) { windows = l }) []) e
          (part-remembers _ [] _ (end_slots w.machine s) [] (part-end-freed now.0 u.machine w.machine s now.1.machine may.once) u.machine.windows
          (λ r o. ap (λ ws. is_open ws r) now.1.machine.windows ∙ o)))
  ended (x ∷ v ∷ rest) e = record {
    match = (
      held,
      record {
        machine = part-remembers _ [] _ (record (end_slots w.machine s) { windows = v ∷ rest }) []
            (part-leave now.0 u.machine w.machine s now.1.machine x v rest e may.once may.temps may.leads) u.machine.windows
            (λ r o. ap (λ ws. is_open ws r) (now.1.machine.windows ∙ e) ∙ or_right (x.region == r) (is_open (v ∷ rest) r) o);
        input = now.1.input;
        printed = now.1.printed;
      },
    );
    still = λ y into h. still-leads now.0 [] u.machine w.machine [] now.1.machine s (Some x.number) x.region y (top-stays x (v ∷ rest) e) into h;
    owner = λ q is. record {
      held_there = subst (OwnerHeld held w.machine.store (v ∷ rest)) is
          (owner-kept now.0 u.machine w.machine s now.1.machine x v rest e may.once may.temps may.leads);
      into = sym (ap (λ (o : Option Place). elim o [
        | None ↦ false
        | Some p ↦ is_into w.machine.store x.region (value_at (end_slots w.machine s) p)
      ]) is) ∙ owner-into now.0 u.machine w.machine s now.1.machine x v rest e may.once may.temps may.leads;
      closed = region-shut now.0 u.machine w.machine s now.1.machine x v rest e may.once may.temps may.leads;
    };
  }
    where
      held : ℕ → Truth
      held = left_held now.0 w.machine.store (beneath_by_labels u.machine.store (length u.machine.managers)
          (closed_among u.machine (drop s (top_slots u.machine.frames)) ++ closed_by_temps u.machine)) (Some x.number)

module _ (code : Code) (at : ℕ) (also go : Go) (u w : Work) (taken : Truth) where
  pub leave-same : (s : ℕ) (stack : List Val) → needs code (i.Leave s) stack w.machine ≡ true → Match (owners_of taken stack) u w stack
      → GoesOn true also go → SameEnd (free_act code at (i.Leave s) also stack u) (act code at (i.Leave s) go stack w)
  leave-same s (x ∷ more) n m next = off n
  leave-same s [] n m next =
      let now = match-more taken u w [] m in
      next [] (after u s (window_that_ends u.machine.windows) (without_top u.machine.windows)) (beyond w s (without_top w.machine.windows))
      (subst (λ ws. Match [] (after u s (window_that_ends ws) (without_top ws)) (beyond w s (without_top w.machine.windows)) [])
      (sym now.1.machine.windows) (ended u w s now (may-leave w.machine s n) w.machine.windows refl).match)

  -- The same, and then what leads into the region of the window that ends goes to the place of its owner.
  pub leave-giving-same : (x s : ℕ) (stack : List Val) → needs code (i.LeaveGiving x s) stack w.machine ≡ true
      → Match (owners_of taken stack) u w stack → GoesOn true also go
      → SameEnd (free_act code at (i.LeaveGiving x s) also stack u) (act code at (i.LeaveGiving x s) go stack w)
  leave-giving-same x s (y ∷ more) n m next = off n
  leave-giving-same x s [] n m next =
      subst (λ ws. SameEnd (frees ws (slot_at u.machine x)) (grows (slot_at w.machine x))) (sym now.1.machine.windows)
      (subst (λ y. SameEnd (frees w.machine.windows y) (grows (slot_at w.machine x)))
      (sym (slot-same now.0 [] u.machine w.machine [] now.1.machine x))
      (by (slot_at w.machine x) (and-right (may_leave [] w.machine s) given two)
      (slot-leads now.0 [] u.machine w.machine [] now.1.machine x)))
    where
      now : Match [] u w []
      now = match-more taken u w [] m

      given : Truth
      given = is_nil_value (slot_at w.machine x) || is_into w.machine.store (top_region w.machine.windows) (slot_at w.machine x)

      two : (may_leave [] w.machine s && given) ≡ true
      two = and-left (may_leave [] w.machine s && given) (seen_by_owner w.machine s) n

      end : Ended u w s now (may-leave w.machine s (and-left (may_leave [] w.machine s) given two)) w.machine.windows
      end = ended u w s now (may-leave w.machine s (and-left (may_leave [] w.machine s) given two)) w.machine.windows refl

      -- behind the value that is given
      freed-with : List Window → Val → Work
      freed-with ws y = record (after u s (window_that_ends ws) (without_top ws)) {
        machine = put_at (top_owner ws) y (after u s (window_that_ends ws) (without_top ws)).machine;
      }

      grown-with : Val → Work
      grown-with y = record w { machine = put_at (top_owner w.machine.windows) y (left w.machine s) }

      frees : List Window → Val → Walked
      frees ws y = on_object (after u s (window_that_ends ws) (without_top ws)).machine.store y (λ o. also 0 [] (freed-with ws y))

      grows : Val → Walked
      grows y = on_object w.machine.store y (λ o. go 0 [] (grown-with y))

      matched : (y : Val) → is_into w.machine.store (top_region w.machine.windows) y ≡ true → leads_to end.match.0 y ≡ true
          → Match [] (freed-with w.machine.windows y) (grown-with y) []
      matched y into lead = (
        end.match.0,
        record {
          machine = part-given end.match.0 (after u s (window_that_ends w.machine.windows) (without_top w.machine.windows)).machine
              (left w.machine s) end.match.1.machine (top_region w.machine.windows) y into lead (top_owner w.machine.windows) end.owner;
          input = end.match.1.input;
          printed = end.match.1.printed;
        },
      )

      by : (y : Val) → (is_nil_value y || is_into w.machine.store (top_region w.machine.windows) y) ≡ true → leads_to now.0 y ≡ true
          → SameEnd (frees w.machine.windows y) (grows y)
      by val.Nil g lead = refl
      by (val.Int z) g lead = refl
      by (val.Bool b) g lead = refl
      by (val.Obj a) g lead =
          let still = end.still (val.Obj a) g lead in
          subst (λ r. SameEnd (elim r [ Ok o ↦ also 0 [] (freed-with w.machine.windows (val.Obj a)) | Err t ↦ Traps t ]) (grows (val.Obj a)))
          (sym (object-same end.match.0 [] (after u s (window_that_ends w.machine.windows) (without_top w.machine.windows)).machine
          (left w.machine s) [] end.match.1.machine (val.Obj a) still))
          (found (object_at w.machine.store (val.Obj a)) still)
        where
          found : (r : Result Seen Trap) → leads_to end.match.0 (val.Obj a) ≡ true
              → SameEnd (elim r [ Ok o ↦ also 0 [] (freed-with w.machine.windows (val.Obj a)) | Err t ↦ Traps t ])
              (elim r [ Ok o ↦ go 0 [] (grown-with (val.Obj a)) | Err t ↦ Traps t ])
          found (Err t) still = refl
          found (Ok o) still = next [] (freed-with w.machine.windows (val.Obj a)) (grown-with (val.Obj a)) (matched (val.Obj a) g still)
