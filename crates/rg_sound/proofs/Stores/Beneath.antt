-- The regions beneath others: owner references from them lead to no other, after as many links as regions were made.
use Rattle.std.proofs.Common.{◌≡◌, refl, sym, ◌∙◌, ap, subst, ◌⊎◌, inl, inr, ℕ, zero, suc, ◌<◌, ◌≤◌, Bool as Truth, true, false, if◌then◌else◌, List}
use Rattle.std.proofs.Common.{[], ◌∷◌, ◌++◌, filter_map, Option, Some, None, option_and_then, option_to_list, slice_get, arith}
use Rattle.std.proofs.lemmas.Option.{same_Some}
use Rattle.rg_base.specs.declared.object.Label.{Label}
use Rattle.rg_base.specs.declared.object.Label.TheVariants.{Region, Temp, Frozen}
use Rattle.rg_base.specs.declared.object.Seen.{Seen}
use Rattle.rg_base.specs.declared.value.Val.{Val}
use Rattle.rg_tree.specs.Tree.{Field as FieldOfClass, Class}
use Rattle.rg_rules.specs.Types.{fields_of}
use Rattle.rg_rules.specs.State.{Frame, Window}
use Rattle.rg_rules.specs.Regions.{region_of, region_at, owned_as, owned_in, owned_by, in_regions, led_from, joined_with, beneath}
use Rattle.rg_rules.specs.Owners.{owned_by_slot, owned_by_field, Parent, Above, direct, further}
use Rattle.rg_rules.proofs.Region.{beneath-suc}
use Rattle.rg_sound.specs.Numbers.{LabelGiven}
use Rattle.rg_sound.proofs.Basics.{none-some}
use Rattle.rg_sound.proofs.Owners.Data.{Data}
use Rattle.rg_sound.proofs.Stores.Member.{In, among-in, in-among, in-left, in-right, in-split, joined-old, joined-new, joined-back, missing}
use Rattle.rg_sound.proofs.Stores.Member.{filter-in}
use Rattle.rg_sound.proofs.Stores.Member.{filter-back, counted, counted-most, counted-rises}
use Rattle.rg_sound.proofs.Values.Declared.{owned_slot}

-- The owner references of objects, as lists and by their places

owned-in : (classes : List Class) (fs : List FieldOfClass) (vs : List Val) (k a : ℕ) → owned_slot classes fs vs k ≡ Some a →
    In a (owned_in classes fs vs)
owned-in classes [] vs k a h = none-some h
owned-in classes (f ∷ fs) [] k a h = absurd (nothing (slice_get (f ∷ fs) k) h)
  where
    nothing : (o : Option FieldOfClass) → option_and_then (λ (f : FieldOfClass). option_and_then (owned_as classes f) None) o ≡ Some a → ⊥
    nothing None e = none-some e
    nothing (Some g) e = none-some e
owned-in classes (f ∷ fs) (v ∷ vs) zero a h = in-left (option_to_list (owned_as classes f v)) (owned_in classes fs vs) a (by (owned_as classes f v) h)
  where
    by : (o : Option ℕ) → o ≡ Some a → In a (option_to_list o)
    by None e = none-some e
    by (Some b) e = inl (same_Some b a e)
owned-in classes (f ∷ fs) (v ∷ vs) (suc k) a h = in-right (option_to_list (owned_as classes f v)) (owned_in classes fs vs) a
    (owned-in classes fs vs k a h)

owned-back : (classes : List Class) (fs : List FieldOfClass) (vs : List Val) (a : ℕ) → In a (owned_in classes fs vs) →
    (k : ℕ) × (owned_slot classes fs vs k ≡ Some a)
owned-back classes [] vs a h = absurd h
owned-back classes (f ∷ fs) [] a h = absurd h
owned-back classes (f ∷ fs) (v ∷ vs) a h = elim (in-split (option_to_list (owned_as classes f v)) (owned_in classes fs vs) a h) [
  | inl here ↦ (0, by (owned_as classes f v) here)
  | inr there ↦ (let r = owned-back classes fs vs a there in (suc r.0, r.1))
]
  where
    by : (o : Option ℕ) → In a (option_to_list o) → o ≡ Some a
    by None e = absurd e
    by (Some b) (inl e) = ap Some e
    by (Some b) (inr e) = absurd e

by-in : (classes : List Class) (o : Seen) (k a : ℕ) → owned_by_field classes o k ≡ Some a → In a (owned_by classes o)
by-in classes o k a h = by o.label h
  where
    by : (l : Label) → elim l [ Region r ↦ owned_by_slot classes o k | Temp n ↦ owned_by_slot classes o k | Frozen ↦ None ] ≡ Some a →
        In a (elim l [
          | Region r ↦ owned_in classes (fields_of classes o.class) o.fields
          | Temp n ↦
              owned_in classes (fields_of classes o.class) o.fields
          | Frozen ↦ []
        ])
    by (Region r) e = owned-in classes (fields_of classes o.class) o.fields k a e
    by (Temp n) e = owned-in classes (fields_of classes o.class) o.fields k a e
    by Frozen e = none-some e

by-back : (classes : List Class) (o : Seen) (a : ℕ) → In a (owned_by classes o) → (k : ℕ) × (owned_by_field classes o k ≡ Some a)
by-back classes o a h = by o.label h
  where
    by : (l : Label) → In a (elim l [
      | Region r ↦ owned_in classes (fields_of classes o.class) o.fields
      | Temp n ↦
          owned_in classes (fields_of classes o.class) o.fields
      | Frozen ↦ []
    ]) →
        (k : ℕ) × (elim l [ Region r ↦ owned_by_slot classes o k | Temp n ↦ owned_by_slot classes o k | Frozen ↦ None ] ≡ Some a)
    by (Region r) e = owned-back classes (fields_of classes o.class) o.fields a e
    by (Temp n) e = owned-back classes (fields_of classes o.class) o.fields a e
    by Frozen e = absurd e

-- an owner reference into a region, in an object whose label passes a test
pub record Led (classes : List Class) (store : List Seen) (test : Label → Truth) (os : List Seen) (r : ℕ) : Type 0 where
  pub object : ℕ
  pub field : ℕ
  pub holder : Seen
  pub there : slice_get os object ≡ Some holder
  pub passes : test holder.label ≡ true
  pub leads : option_and_then (region_at store) (owned_by_field classes holder field) ≡ Some r

pub led-in : (classes : List Class) (store : List Seen) (test : Label → Truth) (os : List Seen) (r : ℕ) → Led classes store test os r →
    In r (led_from classes store test os)
led-in classes store test [] r h = none-some h.there
led-in classes store test (o ∷ os) r h = by h.object h.there (test o.label) refl (λ l. led-in classes store test os r l)
  where
    here : owned_by_field classes o h.field ≡ owned_by_field classes h.holder h.field → In r (filter_map (region_at store) (owned_by classes o))
    here e = address (owned_by_field classes h.holder h.field) h.leads e
      where
        address : (a : Option ℕ) → option_and_then (region_at store) a ≡ Some r → owned_by_field classes o h.field ≡ a →
            In r (filter_map (region_at store) (owned_by classes o))
        address None l e = none-some l
        address (Some a) l e = filter-in (region_at store) (owned_by classes o) a r (by-in classes o h.field a e) l

    by : (n : ℕ) → slice_get (o ∷ os) n ≡ Some h.holder → (b : Truth) → test o.label ≡ b →
        (Led classes store test os r → In r (led_from classes store test os)) →
        In r (if b then filter_map (region_at store) (owned_by classes o) ++ led_from classes store test os else led_from classes store test os)
    by zero at true e rest = let same : o ≡ h.holder = same_Some o h.holder at in
        in-left _ _ r (here (ap (λ (q : Seen). owned_by_field classes q h.field) same))
    by zero at false e rest = let same : o ≡ h.holder = same_Some o h.holder at in
        let c : true ≡ false = sym h.passes ∙ ap (λ (q : Seen). test q.label) (sym same) ∙ e in grind arith
    by (suc n) at true e rest = in-right _ _ r
        (rest (record { object = n; field = h.field; holder = h.holder; there = at; passes = h.passes; leads = h.leads }))
    by (suc n) at false e rest = rest (record { object = n; field = h.field; holder = h.holder; there = at; passes = h.passes; leads = h.leads })

pub led-back : (classes : List Class) (store : List Seen) (test : Label → Truth) (os : List Seen) (r : ℕ) → In r (led_from classes store test os) →
    Led classes store test os r
led-back classes store test [] r h = absurd h
led-back classes store test (o ∷ os) r h = by (test o.label) refl h (λ i. led-back classes store test os r i)
  where
    later : Led classes store test os r → Led classes store test (o ∷ os) r
    later l = record { object = suc l.object; field = l.field; holder = l.holder; there = l.there; passes = l.passes; leads = l.leads }

    by : (b : Truth) → test o.label ≡ b →
        In r (if b then filter_map (region_at store) (owned_by classes o) ++ led_from classes store test os else led_from classes store test os) →
        (In r (led_from classes store test os) → Led classes store test os r) → Led classes store test (o ∷ os) r
    by false e i rest = later (rest i)
    by true e i rest = elim (in-split (filter_map (region_at store) (owned_by classes o)) (led_from classes store test os) r i) [
      | inl first_one ↦
          (let a = filter-back (region_at store) (owned_by classes o) r first_one in
          let k = by-back classes o a.0 a.1 in
          record { object = 0; field = k.0; holder = o; there = refl; passes = e; leads = ap (option_and_then (region_at store)) k.1 ∙ a.2 })
      | inr behind ↦ later (rest behind)
    ]

-- Parents

-- a parent among these leads to its child
parent-led : (classes : List Class) (store : List Seen) (rs : List ℕ) (p r : ℕ) → In p rs → Parent classes store p r →
    Led classes store (in_regions rs) store r
parent-led classes store rs p r i h = by (slice_get store h.object) refl
  where
    label : (l : Label) → region_of l ≡ Some p → in_regions rs l ≡ true
    label (Region q) e = let P : ℕ → Type 0 = λ z. In z rs in in-among rs q (subst P (sym (same_Some q p e)) i)
    label (Temp n) e = none-some e
    label Frozen e = none-some e

    by : (o : Option Seen) → slice_get store h.object ≡ o → Led classes store (in_regions rs) store r
    by None e = none-some (sym (ap (option_and_then (λ (q : Seen). region_of q.label)) e) ∙ h.lies)
    by (Some o) e = record {
      object = h.object;
      field = h.field;
      holder = o;
      there = e;
      passes = label o.label (sym (ap (option_and_then (λ (q : Seen). region_of q.label)) e) ∙ h.lies);
      leads = sym (ap (λ (q : Option Seen). option_and_then (region_at store) (option_and_then (λ (z : Seen). owned_by_field classes z h.field) q))
          e) ∙ h.leads;
    }

led-parent : (classes : List Class) (store : List Seen) (rs : List ℕ) (r : ℕ) → Led classes store (in_regions rs) store r →
    (p : ℕ) × In p rs × Parent classes store p r
led-parent classes store rs r h = by h.holder.label refl h.passes
  where
    by : (l : Label) → h.holder.label ≡ l → in_regions rs l ≡ true → (p : ℕ) × In p rs × Parent classes store p r
    by (Region q) e i = (
      q,
      among-in rs q i,
      record {
        object = h.object;
        field = h.field;
        lies = ap (option_and_then (λ (q : Seen). region_of q.label)) h.there ∙ ap region_of e;
        leads = ap (λ (q : Option Seen). option_and_then (region_at store) (option_and_then (λ (z : Seen). owned_by_field classes z h.field) q))
            h.there ∙ h.leads;
      },
    )
    by (Temp n) e i = grind arith
    by Frozen e i = grind arith

-- from these regions owner references lead to no other
abbrev pub Closed : List Class → List Seen → List ℕ → Type 0
Closed classes store rs = (p r : ℕ) → In p rs → Parent classes store p r → In r rs

-- a region's number was given
pub region-given : (classes : List Class) (store : List Seen) (frames : List Frame) (ws : List Window) (regions made : ℕ) →
    Data classes store frames ws regions made →
    (b r : ℕ) → region_at store b ≡ Some r → r < regions
region-given classes store frames ws regions made d b r e = by (slice_get store b) refl e
  where
    label-given : (l : Label) → LabelGiven regions made l → region_of l ≡ Some r → r < regions
    label-given (Region n) g k = let one : n ≡ r = same_Some n r k in omega (arith, g, one)
    label-given (Temp n) g k = none-some k
    label-given Frozen g k = none-some k

    by : (p : Option Seen) → slice_get store b ≡ p → option_and_then (λ (y : Seen). region_of y.label) p ≡ Some r → r < regions
    by None a k = none-some k
    by (Some p) a k = label-given p.label (d.numbers.labels b p a) k

module _ (classes : List Class) (store : List Seen) where
  -- the regions to which these lead
  abbrev more : List ℕ → List ℕ
  more rs = led_from classes store (in_regions rs) store

  led-bound : (bound : ℕ) → ((b r : ℕ) → region_at store b ≡ Some r → r < bound) → (rs : List ℕ) (r : ℕ) → In r (more rs) → r < bound
  led-bound bound given rs r i = let l = led-back classes store (in_regions rs) store r i in by (owned_by_field classes l.holder l.field) l.leads
    where
      by : (a : Option ℕ) → option_and_then (region_at store) a ≡ Some r → r < bound
      by None e = none-some e
      by (Some a) e = given a r e

  all-closed : (rs : List ℕ) → ((r : ℕ) → In r (more rs) → In r rs) → Closed classes store rs
  all-closed rs f p r i h = f r (led-in classes store (in_regions rs) store r (parent-led classes store rs p r i h))

  closed-joined : (rs : List ℕ) → Closed classes store rs → Closed classes store (joined_with rs (more rs))
  closed-joined rs c p r i h = joined-old rs (more rs) r (c p r (elim (joined-back rs (more rs) p i) [
    | inl here ↦ here
    | inr led ↦ (let l = led-parent classes store rs p (led-back classes store (in_regions rs) store p led) in c l.0 p l.1 l.2)
  ]) h)

  -- each link leads to another region, until there is none
  grows : (bound : ℕ) → ((b r : ℕ) → region_at store b ≡ Some r → r < bound) → (k : ℕ) (rs : List ℕ) →
      Closed classes store (beneath classes store k rs) ⊎ (k ≤ counted bound (beneath classes store k rs))
  grows bound given zero rs = inr (omega arith)
  grows bound given (suc k) rs =
      let P : List ℕ → Type 0 = λ q. Closed classes store q ⊎ (suc k ≤ counted bound q) in
      subst P (sym (beneath-suc classes store k rs)) (by (beneath classes store k rs) (grows bound given k rs))
    where
      by : (now : List ℕ) → Closed classes store now ⊎ (k ≤ counted bound now) →
          Closed classes store (joined_with now (more now)) ⊎ (suc k ≤ counted bound (joined_with now (more now)))
      by now (inl c) = inl (closed-joined now c)
      by now (inr l) = elim (missing now (more now)) [
        | inl all ↦ inl (closed-joined now (all-closed now all))
        | inr m ↦
            (let rise = counted-rises bound now (joined_with now (more now)) (λ n i. joined-old now (more now) n i) m.0
            (led-bound bound given now m.0 m.1) m.2 (joined-new now (more now) m.0 m.1) in
            inr (omega (arith, l, rise)))
      ]

  -- as many links as there are numbers are enough
  pub beneath-closed : (bound : ℕ) → ((b r : ℕ) → region_at store b ≡ Some r → r < bound) → (rs : List ℕ) →
      Closed classes store (beneath classes store bound rs)
  beneath-closed bound given rs = by (beneath classes store bound rs) (grows bound given bound rs)
    where
      by : (now : List ℕ) → Closed classes store now ⊎ (bound ≤ counted bound now) → Closed classes store now
      by now (inl c) = c
      by now (inr l) = elim (missing now (more now)) [
        | inl all ↦ all-closed now all
        | inr m ↦
            (let rise = counted-rises bound now (joined_with now (more now)) (λ n i. joined-old now (more now) n i) m.0
            (led-bound bound given now m.0 m.1) m.2 (joined-new now (more now) m.0 m.1) in
            let most = counted-most bound (joined_with now (more now)) in absurd (omega (arith, l, rise, most)))
      ]

  pub beneath-start : (k : ℕ) (rs : List ℕ) (r : ℕ) → In r rs → In r (beneath classes store k rs)
  beneath-start zero rs r i = i
  beneath-start (suc k) rs r i = beneath-start k (joined_with rs (more rs)) r (joined-old rs (more rs) r i)

  -- each of them is one of the first, or has its parent among them
  pub beneath-from : (k : ℕ) (rs : List ℕ) (r : ℕ) → In r (beneath classes store k rs) →
      In r rs ⊎ ((p : ℕ) × In p (beneath classes store k rs) × Parent classes store p r)
  beneath-from zero rs r i = inl i
  beneath-from (suc k) rs r i =
      let P : List ℕ → Type 0 = λ q. In r q in
      let Q : List ℕ → Type 0 = λ q. In r rs ⊎ ((p : ℕ) × In p q × Parent classes store p r) in
      subst Q (sym (beneath-suc classes store k rs)) (by (beneath classes store k rs) (beneath-from k rs r)
      (subst P (beneath-suc classes store k rs) i))
    where
      by : (now : List ℕ) → (In r now → In r rs ⊎ ((p : ℕ) × In p now × Parent classes store p r)) → In r (joined_with now (more now)) →
          In r rs ⊎ ((p : ℕ) × In p (joined_with now (more now)) × Parent classes store p r)
      by now before j = elim (joined-back now (more now) r j) [
        | inl here ↦ elim (before here) [ inl start ↦ inl start | inr q ↦ inr (q.0, joined-old now (more now) q.0 q.1, q.2) ]
        | inr led ↦ (let l = led-parent classes store now r (led-back classes store (in_regions now) store r led) in
            inr (l.0, joined-old now (more now) l.0 l.1, l.2))
      ]

  -- each of them is one of the first, or one of those is above it
  pub beneath-above : (k : ℕ) (rs : List ℕ) (r : ℕ) → In r (beneath classes store k rs) → In r rs ⊎ ((p : ℕ) × In p rs × Above classes store p r)
  beneath-above zero rs r i = inl i
  beneath-above (suc k) rs r i =
      let P : List ℕ → Type 0 = λ q. In r q in by (beneath classes store k rs) (λ q. beneath-above k rs q)
      (subst P (beneath-suc classes store k rs) i)
    where
      by : (now : List ℕ) → ((q : ℕ) → In q now → In q rs ⊎ ((p : ℕ) × In p rs × Above classes store p q)) → In r (joined_with now (more now)) →
          In r rs ⊎ ((p : ℕ) × In p rs × Above classes store p r)
      by now before j = elim (joined-back now (more now) r j) [
        | inl here ↦ before r here
        | inr led ↦
            (let l = led-parent classes store now r (led-back classes store (in_regions now) store r led) in
            elim (before l.0 l.1) [ inl start ↦ inr (l.0, start, direct l.2) | inr q ↦ inr (q.0, q.1, further q.2 l.2) ])
      ]
