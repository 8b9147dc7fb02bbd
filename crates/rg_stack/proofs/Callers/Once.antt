-- At most one place leads into each closed region; and none into that of a value that is owned nowhere.
use Rattle.std.proofs.Common.{◌≡◌, ◌⊎◌, inl, inr, ℕ, ◌+◌, ◌==◌, nat_le, ◌≤◌, Bool as Truth, true, false, ◌||◌, cond, List}
use Rattle.std.proofs.Common.{[], ◌∷◌, Option, Some, None, length, slice_get, refl, sym, ap, ◌∙◌, arith}
use Rattle.std.specs.Prelude.{count_by}
use Rattle.std.proofs.lemmas.Bool.{le-leb, eq-eqb}
use Rattle.std.proofs.lemmas.List.Sums.{sum_by-cons}
use Rattle.rg_base.specs.declared.ty.Ty.{Ty}
use Rattle.rg_base.specs.declared.object.Label.{Label}
use Rattle.rg_base.specs.declared.object.Label.TheVariants.{Region}
use Rattle.rg_base.specs.declared.object.Place.{Place}
use Rattle.rg_base.specs.declared.object.Place.TheVariants as place
use Rattle.rg_base.specs.declared.object.Seen.{Seen}
use Rattle.rg_base.specs.declared.value.Val.{Val}
use Rattle.rg_tree.specs.Tree.{Class}
use Rattle.rg_rules.specs.State.{Frame as Body, Window as Opened}
use Rattle.rg_rules.specs.Owners.{leads_into}
use Rattle.rg_sound.specs.Windows.{IsOpen}
use Rattle.rg_sound.specs.Values.{Meets, ValuesFit}
use Rattle.rg_sound.proofs.Values.Right.{OwnsFreshAs}
use Rattle.rg_stack.specs.Machine.{Frame, Window, Machine}
use Rattle.rg_stack.specs.Shows.{ShowsFrames}
use Rattle.rg_stack.specs.Needs.{closed_into, slots_into, fields_into, places_into, owned_once, loose}
use Rattle.rg_stack.specs.Labels.{is_open, is_into, is_outside}
use Rattle.rg_stack.proofs.Callers.List.{all_below-each}
use Rattle.rg_stack.proofs.Needs.Count.{AtMostOne, sum-none, sum-one, count-none, count-one}
use Rattle.rg_stack.proofs.Callers.Lead.{ShowsFit, LeadsInto, into-leads, closed-into, shown-closed, value-owns}
use Rattle.rg_stack.proofs.Callers.Lead.{frame-leads, leads-more, field-leads}

place-var : (n i m j : ℕ) → ◌≡◌ {A = Place} (place.Var n i) (place.Var m j) → (n ≡ m) × (i ≡ j)
place-var n i m j e = (grind arith, grind arith)

place-field : (n i m j : ℕ) → ◌≡◌ {A = Place} (place.Field n i) (place.Field m j) → (n ≡ m) × (i ≡ j)
place-field n i m j e = (grind arith, grind arith)

place-apart : {B : Type 0} (n i m j : ℕ) → ◌≡◌ {A = Place} (place.Field n i) (place.Var m j) → B
place-apart n i m j e = grind arith

-- Slots

slots-none : (classes : List Class) (store : List Seen) (ps : List Opened) (r : ℕ) → (IsOpen ps (Region r) → ⊥) → (fs : List Frame) (bs : List Body) →
    ShowsFrames fs bs → ValuesFit store ps bs → ((n i : ℕ) → leads_into classes store bs (place.Var n i) ≡ Some r → ⊥) →
    slots_into store r fs ≡ 0
slots-none classes store ps r away [] bs h v none = refl
slots-none classes store ps r away (f ∷ fs) [] h v none = absurd h
slots-none classes store ps r away (f ∷ fs) (b ∷ bs) h v none =
    let first = count-none (is_into store r) f.slots (λ i x at e.
    none (length bs) i (frame-leads classes store ps f b bs i x r h.0 v.0 away at (into-leads store r x e))) in
    let rest = slots-none classes store ps r away fs bs h.1 v.1 (λ n i e. none n i ((leads-more classes store b bs n i r e).1)) in
    sum_by-cons (λ (f : Frame). count_by (is_into store r) f.slots) f fs ∙ omega (arith, first, rest)

-- none, or one that is an owner's
abbrev OneSlot : List Class → List Seen → List Body → (r n : ℕ) → Type 0
OneSlot classes store bs r n = (n ≡ 0) ⊎ ((n ≡ 1) × (m : ℕ) × (i : ℕ) × (leads_into classes store bs (place.Var m i) ≡ Some r))

slots-one : (classes : List Class) (store : List Seen) (ps : List Opened) (r : ℕ) → (IsOpen ps (Region r) → ⊥) → (fs : List Frame) (bs : List Body) →
    ShowsFrames fs bs → ValuesFit store ps bs →
    ((n i m j : ℕ) → leads_into classes store bs (place.Var n i) ≡ Some r → leads_into classes store bs (place.Var m j) ≡ Some r →
    (n ≡ m) × (i ≡ j)) → OneSlot classes store bs r (slots_into store r fs)
slots-one classes store ps r away [] bs h v one = inl refl
slots-one classes store ps r away (f ∷ fs) [] h v one = absurd h
slots-one classes store ps r away (f ∷ fs) (b ∷ bs) h v one =
    by (count-one (is_into store r) f.slots (λ i. leads_into classes store (b ∷ bs) (place.Var (length bs) i) ≡ Some r)
    (λ i x at e. frame-leads classes store ps f b bs i x r h.0 v.0 away at (into-leads store r x e))
    (λ i j p q. (one (length bs) i (length bs) j p q).1))
    (slots-one classes store ps r away fs bs h.1 v.1
    (λ n i m j p q. one n i m j ((leads-more classes store b bs n i r p).1) ((leads-more classes store b bs m j r q).1)))
  where
    cons : slots_into store r (f ∷ fs) ≡ count_by (is_into store r) f.slots + slots_into store r fs
    cons = sum_by-cons (λ (f : Frame). count_by (is_into store r) f.slots) f fs

    by : AtMostOne (count_by (is_into store r) f.slots) (λ i. leads_into classes store (b ∷ bs) (place.Var (length bs) i) ≡ Some r) →
        OneSlot classes store bs r (slots_into store r fs) → OneSlot classes store (b ∷ bs) r (slots_into store r (f ∷ fs))
    by (inl a) (inl c) = inl (cons ∙ omega (arith, a, c))
    by (inr a) (inl c) = let d = a.0 in inr (cons ∙ omega (arith, c, d), length bs, a.1, a.2)
    by (inl a) (inr c) = let d = c.0 in inr (cons ∙ omega (arith, a, d), c.1, c.2, (leads-more classes store b bs c.1 c.2 r c.3).1)
    by (inr a) (inr c) =
        let m = leads-more classes store b bs c.1 c.2 r c.3 in absurd (m.0 ((one c.1 c.2 (length bs) a.1 m.1 a.2).0))

-- Fields from outside

fields-none : (store : List Seen) (ws : List Window) (r : ℕ) →
    ((a k : ℕ) (o : Seen) (v : Val) → slice_get store a ≡ Some o → is_outside ws r o.label ≡ true → slice_get o.fields k ≡ Some v →
    is_into store r v ≡ true → ⊥) →
    fields_into store ws r store ≡ 0
fields-none store ws r none = sum-none (λ (o : Seen). cond (is_outside ws r o.label) (count_by (is_into store r) o.fields) 0) store
    (λ a o there. by a o there (is_outside ws r o.label) refl)
  where
    by : (a : ℕ) (o : Seen) → slice_get store a ≡ Some o → (b : Truth) → is_outside ws r o.label ≡ b →
        cond b (count_by (is_into store r) o.fields) 0 ≡ 0
    by a o there false e = refl
    by a o there true e = count-none (is_into store r) o.fields (λ k v at x. none a k o v there e at x)

-- an object with a field that is an owner's
abbrev OfOwner : List Class → List Seen → List Body → (r a : ℕ) → Type 0
OfOwner classes store bs r a = (k : ℕ) × (leads_into classes store bs (place.Field a k) ≡ Some r)

fields-one : (classes : List Class) (store : List Seen) (bs : List Body) (ws : List Window) (r : ℕ) →
    ((a k : ℕ) (o : Seen) (v : Val) → slice_get store a ≡ Some o → is_outside ws r o.label ≡ true → slice_get o.fields k ≡ Some v →
    is_into store r v ≡ true → leads_into classes store bs (place.Field a k) ≡ Some r) →
    ((n i m j : ℕ) → leads_into classes store bs (place.Field n i) ≡ Some r → leads_into classes store bs (place.Field m j) ≡ Some r →
    (n ≡ m) × (i ≡ j)) → AtMostOne (fields_into store ws r store) (OfOwner classes store bs r)
fields-one classes store bs ws r leads one =
    sum-one (λ (o : Seen). cond (is_outside ws r o.label) (count_by (is_into store r) o.fields) 0) store (OfOwner classes store bs r)
    (λ a o there. by a o there (is_outside ws r o.label) refl) (λ a c p q. (one a p.0 c q.0 p.1 q.1).0)
  where
    by : (a : ℕ) (o : Seen) → slice_get store a ≡ Some o → (b : Truth) → is_outside ws r o.label ≡ b →
        (cond b (count_by (is_into store r) o.fields) 0 ≡ 0) ⊎ ((cond b (count_by (is_into store r) o.fields) 0 ≡ 1) × OfOwner classes store bs r a)
    by a o there false e = inl refl
    by a o there true e = elim (count-one (is_into store r) o.fields (λ k. leads_into classes store bs (place.Field a k) ≡ Some r)
        (λ k v at x. leads a k o v there e at x) (λ k j p q. (one a k a j p q).1)) [
          | inl n ↦ inl n
          | inr f ↦ inr (f.0, (f.1, f.2))
        ]

-- Places

-- a field from outside that leads into a closed region is an owner's
into-owner : (classes : List Class) (m : Machine) (bodies : List Body) (opened : List Opened) → ShowsFit classes m bodies opened → (r : ℕ) →
    is_open m.windows r ≡ false → (a k : ℕ) (o : Seen) (v : Val) → slice_get m.store a ≡ Some o → is_outside m.windows r o.label ≡ true →
    slice_get o.fields k ≡ Some v → is_into m.store r v ≡ true → leads_into classes m.store bodies (place.Field a k) ≡ Some r
into-owner classes m bodies opened d r closed a k o v there outside at x =
    field-leads classes m bodies opened d a k r o v there outside at (record { leads = into-leads m.store r v x; closed = closed })

-- a closed region that nothing owns
pub places-none : (classes : List Class) (m : Machine) (bodies : List Body) (opened : List Opened) → ShowsFit classes m bodies opened → (r : ℕ) →
    is_open m.windows r ≡ false → ((p : Place) → leads_into classes m.store bodies p ≡ Some r → ⊥) → places_into m r ≡ 0
places-none classes m bodies opened d r closed none =
    let away = shown-closed d.sizes m.windows opened r d.windows closed in
    let first = slots-none classes m.store opened r away m.frames bodies d.slots d.fits.values (λ n i e. none (place.Var n i) e) in
    let second = fields-none m.store m.windows r
    (λ a k o v there outside at x. none (place.Field a k) (into-owner classes m bodies opened d r closed a k o v there outside at x)) in
    omega (arith, first, second)

-- a closed region
pub places-one : (classes : List Class) (m : Machine) (bodies : List Body) (opened : List Opened) → ShowsFit classes m bodies opened → (r : ℕ) →
    is_open m.windows r ≡ false → places_into m r ≤ 1
places-one classes m bodies opened d r closed =
    let away = shown-closed d.sizes m.windows opened r d.windows closed in
    by (slots-one classes m.store opened r away m.frames bodies d.slots d.fits.values
    (λ n i k j p q. place-var n i k j (d.fits.forest.one_owner (place.Var n i) (place.Var k j) r p q)))
    (fields-one classes m.store bodies m.windows r (into-owner classes m bodies opened d r closed)
    (λ n i k j p q. place-field n i k j (d.fits.forest.one_owner (place.Field n i) (place.Field k j) r p q)))
  where
    by : OneSlot classes m.store bodies r (slots_into m.store r m.frames) →
        AtMostOne (fields_into m.store m.windows r m.store) (OfOwner classes m.store bodies r) → places_into m r ≤ 1
    by (inl a) (inl b) = omega (arith, a, b)
    by (inl a) (inr b) = let c = b.0 in omega (arith, a, c)
    by (inr a) (inl b) = let c = a.0 in omega (arith, b, c)
    by (inr a) (inr b) = place-apart b.1 b.2.0 a.1 a.2
        (d.fits.forest.one_owner (place.Field b.1 b.2.0) (place.Var a.1 a.2) r b.2.1 a.3)

-- at most one place leads into each closed region
pub owned_once-fits : (classes : List Class) (m : Machine) (bodies : List Body) (opened : List Opened) → ShowsFit classes m bodies opened →
    owned_once m ≡ true
owned_once-fits classes m bodies opened d =
    all_below-each (length m.managers) (λ r. is_open m.windows r || nat_le (places_into m r) 1) (λ r l. by r (is_open m.windows r) refl)
  where
    by : (r : ℕ) (b : Truth) → is_open m.windows r ≡ b → (b || nat_le (places_into m r) 1) ≡ true
    by r true e = refl
    by r false e = le-leb (places_into m r) 1 (places-one classes m bodies opened d r e)

-- A value that is owned nowhere

fresh-none : (classes : List Class) (m : Machine) (bodies : List Body) (opened us : List Opened) → ShowsFit classes m bodies opened →
    ((l : Label) → IsOpen us l → IsOpen opened l) → (t : Ty) (v : Val) → Meets m.store us t v → OwnsFreshAs classes m.store bodies t v → (r : ℕ) →
    LeadsInto m.store r v → is_open m.windows r ≡ false → (p : Place) → leads_into classes m.store bodies p ≡ Some r → ⊥
fresh-none classes m bodies opened us d up t v meets fresh r l closed p e =
    let owns = value-owns m.store us t v r meets (λ o. shown-closed d.sizes m.windows opened r d.windows closed (up (Region r) o)) l in
    (fresh r owns).1 p e

-- nothing leads into the region into which it does
pub loose-fits : (classes : List Class) (m : Machine) (bodies : List Body) (opened us : List Opened) → ShowsFit classes m bodies opened →
    ((l : Label) → IsOpen us l → IsOpen opened l) → (t : Ty) (v : Val) → Meets m.store us t v → OwnsFreshAs classes m.store bodies t v →
    loose m v ≡ true
loose-fits classes m bodies opened us d up t v meets fresh = by (closed_into m v) refl
  where
    by : (q : Option ℕ) → closed_into m v ≡ q → elim q [ None ↦ true | Some r ↦ places_into m r == 0 ] ≡ true
    by None e = refl
    by (Some r) e =
        let c = closed-into m v r e in
        eq-eqb (places_into m r) 0
        (places-none classes m bodies opened d r c.closed (fresh-none classes m bodies opened us d up t v meets fresh r c.leads c.closed))
