-- Instructions that free: what a slot, a frame or the stack gives up.
use Rattle.std.proofs.Common.{◌≡◌, ℕ, zero, suc, ◌==◌, ◌≤◌, ◌⊎◌, inl, inr, true, false, Bool as Truth, List, [], ◌∷◌}
use Rattle.std.proofs.Common.{length, filter_map, Option, Some, None, unwrap_or, drop, refl, sym, ap, subst, ◌∙◌, arith, slice_get}
use Rattle.std.proofs.lemmas.Option.{same_Some}
use Rattle.std.proofs.lemmas.Bool.{eqb-true, or_cases}
use Rattle.std.specs.Prelude.{◌||◌, nat_lt}
use Rattle.std.specs.List.{list_any}
use Rattle.rg_base.specs.declared.value.Val.{Val}
use Rattle.rg_base.specs.declared.value.Val.TheVariants as val
use Rattle.rg_sound.proofs.Stores.Member.{In, filter-none, filter-some}
use Rattle.rg_stack.specs.Machine.{Machine, top_slots, slot_at, put_slot, end_slots}
use Rattle.rg_stack.specs.Effects.{beneath_by_labels}
use Rattle.rg_stack.specs.Needs.{closed_into, loose, owned_once, places_into}
use Rattle.rg_stack.specs.Places.{size_of}
use Rattle.rg_stack.specs.Labels.{is_open, is_into}
use Rattle.rg_stack.proofs.Basics.{none-some}
use Rattle.rg_held.specs.Frees.{closed_among, bury}
use Rattle.rg_held.specs.Part.{leads_to, SlotInto, FieldInto, Placed, Tidy, Part}
use Rattle.rg_held.proofs.Lists.{off, drop-back, any-at}
use Rattle.rg_held.proofs.Places.{ClosedRef, closed-back, closed-there, into-back, once}
use Rattle.rg_held.proofs.Places.{slot-counts, field-counts, slot-slot, slot-field, field-field}
use Rattle.rg_held.proofs.Parts.Part.{field-frames, closed-same, top-slot}
use Rattle.rg_held.proofs.Parts.Burial.{Alone, Burial, left_held, part-bury}
use Rattle.rg_held.proofs.Acts.Stack.{slot-leads, slot-same}
use Rattle.rg_held.proofs.Parts.Slot.{put-back, end-back, put-there, part-put, part-end}

-- regions into which values lead, by a value

pub given-in : {A : Type 0} (h : A → Option ℕ) (xs : List A) (i : ℕ) (x : A) (q : ℕ) → slice_get xs i ≡ Some x → h x ≡ Some q
    → In q (filter_map h xs)
given-in h [] i x q e is = none-some x e
given-in h (y ∷ ys) zero x q e is =
    let P : List ℕ → Type 0 = λ l. In q l in
    subst P (sym (filter-some h y q ys (ap h (same_Some y x e) ∙ is))) (inl refl)
given-in h (y ∷ ys) (suc i) x q e is = by (h y) refl (given-in h ys i x q e is)
  where
    P : List ℕ → Type 0
    P l = In q l

    by : (o : Option ℕ) → h y ≡ o → In q (filter_map h ys) → In q (filter_map h (y ∷ ys))
    by None g j = subst P (sym (filter-none h y ys g)) j
    by (Some r) g j = subst P (sym (filter-some h y r ys g)) (inr j)

pub given-back : {A : Type 0} (h : A → Option ℕ) (xs : List A) (q : ℕ) → In q (filter_map h xs)
    → (i : ℕ) × ((x : A) × (slice_get xs i ≡ Some x) × (h x ≡ Some q))
given-back h [] q j = absurd j
given-back {A = A} h (y ∷ ys) q j = by (h y) refl (given-back h ys q)
  where
    P : List ℕ → Type 0
    P l = In q l

    later : ((i : ℕ) × ((x : A) × (slice_get ys i ≡ Some x) × (h x ≡ Some q))) → (i : ℕ)
        × ((x : A) × (slice_get (y ∷ ys) i ≡ Some x) × (h x ≡ Some q))
    later r = (suc r.0, r.1)

    by : (o : Option ℕ) → h y ≡ o → (In q (filter_map h ys) → (i : ℕ) × ((x : A) × (slice_get ys i ≡ Some x) × (h x ≡ Some q)))
        → (i : ℕ) × ((x : A) × (slice_get (y ∷ ys) i ≡ Some x) × (h x ≡ Some q))
    by None g rest = later (rest (subst P (filter-none h y ys g) j))
    by (Some r) g rest = one (subst P (filter-some h y r ys g) j)
      where
        one : In q (r ∷ filter_map h ys) → (i : ℕ) × ((x : A) × (slice_get (y ∷ ys) i ≡ Some x) × (h x ≡ Some q))
        one (inl same) = (0, (y, refl, g ∙ ap Some same))
        one (inr k) = later (rest k)

-- no place leads into the closed regions into which these lead
abbrev pub Loose : Machine → List Val → Type 0
Loose m vs = (q : ℕ) → is_open m.windows q ≡ false → list_any (is_into m.store q) vs ≡ true → places_into m q ≡ 0

pub loose-one : (m : Machine) (v : Val) → loose m v ≡ true → Loose m (v ∷ [])
loose-one m v e q c any = elim (or_cases (is_into m.store q v) false any) [
  | inl into ↦ eqb-true (places_into m q) 0
      (ap (λ (o : Option ℕ). elim o [ None ↦ true | Some r ↦ places_into m r == 0 ]) (sym (closed-there m v q into c)) ∙ e)
  | inr none ↦ off none
]

-- a slot that leads into a region is a place
pub slot-at-into : (m : Machine) (s r : ℕ) → is_into m.store r (slot_at m s) ≡ true → (p : SlotInto m r) × (p.frame ≡ 0) × (p.slot ≡ s)
slot-at-into m s r into = by (slice_get (top_slots m.frames) s) refl into
  where
    by : (o : Option Val) → slice_get (top_slots m.frames) s ≡ o → is_into m.store r (unwrap_or o val.Nil) ≡ true
        → (p : SlotInto m r) × (p.frame ≡ 0) × (p.slot ≡ s)
    by None e into = off into
    by (Some v) e into = let g = top-slot m.frames s v e in (
      record { frame = 0; slot = s; holder = g.0; value = v; holder_there = g.1; value_there = g.2; into = into },
      refl,
      refl,
    )

pub top-into : (m : Machine) (j r : ℕ) (v : Val) → slice_get (top_slots m.frames) j ≡ Some v → is_into m.store r v ≡ true
    → (p : SlotInto m r) × (p.frame ≡ 0) × (p.slot ≡ j)
top-into m j r v e into = let g = top-slot m.frames j v e in (
  record { frame = 0; slot = j; holder = g.0; value = v; holder_there = g.1; value_there = g.2; into = into },
  refl,
  refl,
)

module _ (m : Machine) (t : Tidy m) (o : owned_once m ≡ true) where
  -- at most one place leads into a closed region that a value leads into
  pub most : (q : ℕ) (v : Val) → is_open m.windows q ≡ false → is_into m.store q v ≡ true → places_into m q ≤ 1
  most q v c into = let to = into-back m.store q v into in once m q o (t.labels to.address to.object q to.there to.label) c

  pub two-slots : (q : ℕ) → is_open m.windows q ≡ false → (a b : SlotInto m q) → (a.frame ≡ b.frame) × (a.slot ≡ b.slot)
  two-slots q c a b = slot-slot m q (most q a.value c a.into) a b

  pub slot-and-field : {B : Type 0} (q : ℕ) → is_open m.windows q ≡ false → SlotInto m q → FieldInto m q → B
  slot-and-field q c a b = slot-field m q (most q a.value c a.into) a b

  pub two-fields : (q : ℕ) → is_open m.windows q ≡ false → (a b : FieldInto m q) → a.object ≡ b.object
  two-fields q c a b = (field-field m q (most q a.value c a.into) a b).0

-- no place leads where none counts
pub no-place-slot : {B : Type 0} (m : Machine) (q : ℕ) → places_into m q ≡ 0 → SlotInto m q → B
no-place-slot m q e p = let h = slot-counts m q p in absurd (omega (arith, h, e))

pub no-place-field : {B : Type 0} (m : Machine) (q : ℕ) → places_into m q ≡ 0 → FieldInto m q → B
no-place-field m q e p = let h = field-counts m q p in absurd (omega (arith, h, e))

-- a burial without temporaries
pub plain-burial : (held : ℕ → Truth) (owners : List Val) (m : Machine) (stack : List Val) (regions : List ℕ) (kept : List Val)
    → ((q : ℕ) → In q regions → is_open m.windows q ≡ false) → ((q : ℕ) → is_open m.windows q ≡ false → Alone m q)
    → ((q : ℕ) → In q regions → SlotInto m q → ⊥) → ((q : ℕ) → In q regions → FieldInto m q → ⊥)
    → ((q : ℕ) → is_open m.windows q ≡ false → list_any (is_into m.store q) stack ≡ true → (In q regions → ⊥) × (FieldInto m q → ⊥))
    → ((q : ℕ) → is_open m.windows q ≡ false → list_any (is_into m.store q) owners ≡ true
    → In q regions ⊎ (Placed held m q ⊎ (list_any (is_into m.store q) kept ≡ true)))
    → Burial held owners m stack regions None kept
plain-burial held owners m stack regions kept closed alone no_slot no_field free given = record {
  closed = closed;
  alone = alone;
  no_slot = no_slot;
  no_field = λ q j l e. no_field q j l;
  stack_free = free;
  temps_owned = λ q c l h e. off e;
  slots_stay = λ n h s v k a b e l. none-some k e;
  fields_stay = λ a o j v k h t e at n l. none-some k n;
  stack_stays = λ j v k at e l. none-some k e;
  windows_stay = λ k e. none-some k e;
  owners_given = given;
}

module _ (held : ℕ → Truth) (owners : List Val) (f m : Machine) (stack : List Val) (p : Part held owners f m stack) where
  -- what values give up, as the machine that frees finds it
  pub among-in : (vs : List Val) (j : ℕ) (v : Val) (q : ℕ) → slice_get vs j ≡ Some v → leads_to held v ≡ true → is_into m.store q v ≡ true
      → is_open m.windows q ≡ false → In q (closed_among f vs)
  among-in vs j v q at lead into c = given-in (closed_into f) vs j v q at (closed-same held owners f m stack p v lead ∙ closed-there m v q into c)

  pub among-back : (vs : List Val) (q : ℕ) → ((j : ℕ) (v : Val) → slice_get vs j ≡ Some v → leads_to held v ≡ true) → In q (closed_among f vs)
      → (j : ℕ) × ((v : Val) × (slice_get vs j ≡ Some v) × ClosedRef m v q)
  among-back vs q lead k =
      let h = given-back (closed_into f) vs q k in
      (h.0, (h.1.0, h.1.1, closed-back m h.1.0 q (sym (closed-same held owners f m stack p h.1.0 (lead h.0 h.1.0 h.1.1)) ∙ h.1.2)))

-- `own`: the slot gives up what it owns, and gets what is on the stack
pub part-own : (held : ℕ → Truth) (f m : Machine) (v : Val) (s : ℕ) → Part held (v ∷ []) f m (v ∷ []) → nat_lt s (size_of m) ≡ true
    → owned_once m ≡ true → loose m v ≡ true
    → let regions : List ℕ = closed_among f (slot_at f s ∷ []) in
    let all : List ℕ = beneath_by_labels f.store (length f.managers) regions in
    Part (left_held held m.store all None) [] (put_slot (record f { store = bury all None f.store }) s v) (put_slot m s v) []
part-own held f m v s p less o l =
    part-bury held (slot_at m s ∷ []) (put_slot f s v) (put_slot m s v) [] written (closed_among f (slot_at f s ∷ [])) None []
    (plain-burial held (slot_at m s ∷ []) (put_slot m s v) [] (closed_among f (slot_at f s ∷ [])) [] (λ q j. (old q j).closed)
    (λ q c. record {
      slot_field = λ a b. elim (put-back m s v q a) [
        | inl into ↦ no-place-field m q (free q c into) (field-frames (put_slot m s v) m.frames q b)
        | inr was ↦ slot-and-field m p.tidy o q c was.0 (field-frames (put_slot m s v) m.frames q b)
      ];
      field_field = λ a b. two-fields m p.tidy o q c (field-frames (put_slot m s v) m.frames q a) (field-frames (put_slot m s v) m.frames q b);
    })
    (λ q j a. (let h = old q j in let place = slot-at-into m s q h.into in elim (put-back m s v q a) [
      | inl into ↦ no-place-slot m q (free q h.closed into) place.0
      | inr was ↦ (let same = two-slots m p.tidy o q h.closed was.0 place.0 in was.1 (same.0 ∙ place.1) (same.1 ∙ place.2))
    ]))
    (λ q j b. (let h = old q j in
    slot-and-field m p.tidy o q h.closed (slot-at-into m s q h.into).0 (field-frames (put_slot m s v) m.frames q b)))
    (λ q c e. off e)
    (λ q c any. elim (or_cases (is_into m.store q (slot_at m s)) false any) [
      | inl into ↦ inl (among-in held (v ∷ []) f m (v ∷ []) p (slot_at f s ∷ []) 0 (slot_at m s) q
          (ap Some (slot-same held (v ∷ []) f m (v ∷ []) p s)) (slot-leads held (v ∷ []) f m (v ∷ []) p s) into c)
      | inr none ↦ off none
    ]))
  where
    free : (q : ℕ) → is_open m.windows q ≡ false → is_into m.store q v ≡ true → places_into m q ≡ 0
    free q c into = loose-one m v l q c (ap (λ b. b || false) into)

    written : Part held (slot_at m s ∷ []) (put_slot f s v) (put_slot m s v) []
    written = part-put held (v ∷ []) f m (v ∷ []) p s v (slot_at m s ∷ []) [] p.on_stack.0 tt (λ r c into. inr (ap (λ b. b || false) into))
        (λ r c any. elim (or_cases (is_into m.store r v) false any) [
          | inl top ↦ inl (inl (put-there m s v r less top))
          | inr none ↦ off none
        ])

    old : (q : ℕ) → In q (closed_among f (slot_at f s ∷ [])) → ClosedRef m (slot_at m s) q
    old q j = one (among-back held (v ∷ []) f m (v ∷ []) p (slot_at f s ∷ []) q lead j)
      where
        same : slot_at f s ≡ slot_at m s
        same = slot-same held (v ∷ []) f m (v ∷ []) p s

        lead : (j : ℕ) (x : Val) → slice_get (slot_at f s ∷ []) j ≡ Some x → leads_to held x ≡ true
        lead zero x e = ap (leads_to held) (sym (same_Some (slot_at f s) x e) ∙ same) ∙ slot-leads held (v ∷ []) f m (v ∷ []) p s
        lead (suc j) x e = none-some x e

        one : ((j : ℕ) × ((x : Val) × (slice_get (slot_at f s ∷ []) j ≡ Some x) × ClosedRef m x q)) → ClosedRef m (slot_at m s) q
        one h = at h.0 h.1.0 h.1.1 h.1.2
          where
            at : (j : ℕ) (x : Val) → slice_get (slot_at f s ∷ []) j ≡ Some x → ClosedRef m x q → ClosedRef m (slot_at m s) q
            at zero x e c = subst (λ x. ClosedRef m x q) (sym (same_Some (slot_at f s) x e) ∙ same) c
            at (suc j) x e c = none-some x e

-- a slot of the topmost frame from one on, which leads into a closed region
pub record Ending (m : Machine) (s q : ℕ) : Type 0 where
  pub place : SlotInto m q
  pub top : place.frame ≡ 0
  pub behind : s ≤ place.slot
  pub closed : is_open m.windows q ≡ false

-- `end`: slots from one on give up what they own
pub part-end-freed : (held : ℕ → Truth) (f m : Machine) (s : ℕ) → Part held [] f m [] → owned_once m ≡ true
    → let regions : List ℕ = closed_among f (drop s (top_slots f.frames)) in
    let all : List ℕ = beneath_by_labels f.store (length f.managers) regions in
    Part (left_held held m.store all None) [] (end_slots (record f { store = bury all None f.store }) s) (end_slots m s) []
part-end-freed held f m s p o =
    part-bury held behind (end_slots f s) (end_slots m s) [] (part-end held [] f m [] p s [] tt (λ r c e. off e)) regions None []
    (plain-burial held behind (end_slots m s) [] regions [] (λ q j. (old q j).closed)
    (λ q c. record {
      slot_field = λ a b. slot-and-field m p.tidy o q c (end-back m s q a).0 (field-frames (end_slots m s) m.frames q b);
      field_field = λ a b. two-fields m p.tidy o q c (field-frames (end_slots m s) m.frames q a) (field-frames (end_slots m s) m.frames q b);
    })
    (λ q j a. (let h = old q j in let was = end-back m s q a in
    let same = two-slots m p.tidy o q h.closed was.0 h.place in was.1 h.place.slot h.behind (same.0 ∙ h.top) same.1))
    (λ q j b. slot-and-field m p.tidy o q (old q j).closed (old q j).place (field-frames (end_slots m s) m.frames q b))
    (λ q c e. off e) (λ q c any. inl (new q c any)))
  where
    regions : List ℕ
    regions = closed_among f (drop s (top_slots f.frames))

    behind : List Val
    behind = drop s (top_slots m.frames)

    same : drop s (top_slots f.frames) ≡ behind
    same = ap (λ fs. drop s (top_slots fs)) p.frames

    lead : (j : ℕ) (v : Val) → slice_get behind j ≡ Some v → leads_to held v ≡ true
    lead j v e = let b = drop-back (top_slots m.frames) s j v e in let g = top-slot m.frames b.0 v b.1 in p.slots 0 g.0 b.0 v g.1 g.2

    old : (q : ℕ) → In q regions → Ending m s q
    old q j =
        let h = among-back held [] f m [] p behind q lead (subst (λ l. In q (closed_among f l)) same j) in
        let b = drop-back (top_slots m.frames) s h.0 h.1.0 h.1.1 in
        let a = top-into m b.0 q h.1.0 b.1 h.1.2.into in record {
          place = a.0;
          top = a.1;
          behind = (let n = b.2 in let e = a.2 in omega (arith, n, e));
          closed = h.1.2.closed;
        }

    new : (q : ℕ) → is_open m.windows q ≡ false → list_any (is_into m.store q) behind ≡ true → In q regions
    new q c any = let h = any-at (is_into m.store q) behind any in
        among-in held [] f m [] p (drop s (top_slots f.frames)) h.0 h.1.0 q (ap (λ l. slice_get l h.0) same ∙ h.1.1) (lead h.0 h.1.0 h.1.1) h.1.2 c
