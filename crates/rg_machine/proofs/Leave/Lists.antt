-- What goes with a window, where what its slots own went before: the regions that its temporaries own then are those that they own now, without
-- those that went.
use Rattle.std.proofs.Common.{◌≡◌, ◌==◌, ◌-◌, ◌^◌, ◌||◌, ◌⊎◌, inl, inr, ℕ, zero, suc, Bool as Truth, true, false, if◌then◌else◌, List, [], ◌∷◌, ◌++◌}
use Rattle.std.proofs.Common.{filter, filter_map, flat_map, find, is_some, cond, Option, Some, None, option_map, option_and_then, slice_get}
use Rattle.std.proofs.Common.{refl, sym, ap, ◌∙◌}
use Rattle.std.specs.List.{cons_option}
use Rattle.std.proofs.lemmas.Bool.{false≢true, eq-eqb as eq-is, eqb-true as eq-true}
use Rattle.std.proofs.lemmas.Option.{none-some, same_Some, slice_get-map}
use Rattle.rg_base.specs.declared.object.Label.{Label}
use Rattle.rg_base.specs.declared.object.Label.TheVariants.{Region, Temp, Frozen}
use Rattle.rg_base.specs.declared.object.Seen.{Seen}
use Rattle.rg_base.specs.declared.value.Val.{Val}
use Rattle.rg_rules.specs.Regions.{address, among, in_regions, region_at, region_of}
use Rattle.rg_sound.proofs.LocalRoots.{label-region}
use Rattle.rg_stack.specs.Machine.{Machine, Window}
use Rattle.rg_stack.specs.Tops.{top_window}
use Rattle.rg_stack.specs.Needs.{closed_into, closed_of, is_top_temp}
use Rattle.rg_stack.specs.Labels.{is_open, label_of}
use Rattle.rg_held.specs.Frees.{buried, bury, closed_among, closed_by_temps}
use Rattle.rg_held.specs.Gone.{gone}
use Rattle.rg_view.specs.Links.{ByTemp, Link, Reached, first, next, Spans}
use Rattle.rg_view.specs.Names.{Names}
use Rattle.rg_view.proofs.Callers.Gone.Lists.{among-append}
use Rattle.rg_view.proofs.Callers.Link.{link-at}

-- An object of a store in which some are buried

seen-same : (regions : List ℕ) (o : Seen) → in_regions regions o.label ≡ false → buried regions None o ≡ o
seen-same regions o e = ap (λ b. if b || false then gone else o) e

pub seen-was : (regions : List ℕ) (store : List Seen) (a : ℕ) (h : Seen) → slice_get (bury regions None store) a ≡ Some h
    → (h ≡ gone) ⊎ ((slice_get store a ≡ Some h) × (in_regions regions h.label ≡ false))
seen-was regions store a h e = by (slice_get store a) refl (sym (slice_get-map (buried regions None) store a) ∙ e)
  where
    by : (o : Option Seen) → slice_get store a ≡ o → option_map (buried regions None) (slice_get store a) ≡ Some h
        → (h ≡ gone) ⊎ ((slice_get store a ≡ Some h) × (in_regions regions h.label ≡ false))
    by None f e = absurd (none-some h (sym (ap (option_map (buried regions None)) f) ∙ e))
    by (Some o) f e = test (in_regions regions o.label) refl
      where
        is : buried regions None o ≡ h
        is = same_Some (buried regions None o) h (sym (ap (option_map (buried regions None)) f) ∙ e)

        test : (b : Truth) → in_regions regions o.label ≡ b → (h ≡ gone) ⊎ ((slice_get store a ≡ Some h) × (in_regions regions h.label ≡ false))
        test true i = inl (sym is ∙ ap (λ b. if b || false then gone else o) i)
        test false i =
            let same : o ≡ h = sym (seen-same regions o i) ∙ is in
            inr (f ∙ ap Some same, sym (ap (λ (x : Seen). in_regions regions x.label) same) ∙ i)

pub seen-stays : (regions : List ℕ) (store : List Seen) (a : ℕ) (h : Seen) → slice_get store a ≡ Some h → in_regions regions h.label ≡ false
    → slice_get (bury regions None store) a ≡ Some h
seen-stays regions store a h e i =
    slice_get-map (buried regions None) store a ∙ ap (option_map (buried regions None)) e ∙ ap Some (seen-same regions h i)

-- Links in it

-- the object at an address that lies in a region
at-region : (store : List Seen) (a r : ℕ) → region_at store a ≡ Some r → (o : Seen) × (slice_get store a ≡ Some o) × (o.label ≡ Region r)
at-region store a r e = by (slice_get store a) refl
  where
    by : (x : Option Seen) → slice_get store a ≡ x → (o : Seen) × (slice_get store a ≡ Some o) × (o.label ≡ Region r)
    by None f = absurd (none-some r (sym (ap (option_and_then (λ (o : Seen). region_of o.label)) f) ∙ e))
    by (Some o) f = (o, f, label-region o.label r (sym (ap (option_and_then (λ (o : Seen). region_of o.label)) f) ∙ e))

region-at : (store : List Seen) (a r : ℕ) (o : Seen) → slice_get store a ≡ Some o → o.label ≡ Region r → region_at store a ≡ Some r
region-at store a r o e l = ap (option_and_then (λ (o : Seen). region_of o.label)) e ∙ ap region_of l

gone-region : (r : ℕ) (o : Seen) → o ≡ gone → o.label ≡ Region r → ⊥
gone-region r o is l = differ (2 ^ 64 - 1) (sym (ap (λ (x : Seen). x.label) is) ∙ l)
  where
    differ : (n : ℕ) → Temp n ≡ Region r → ⊥
    differ n e = cc

module _ (store : List Seen) (regions : List ℕ) where
  abbrev less : List Seen
  less = bury regions None store

  region-was : (a r : ℕ) → region_at less a ≡ Some r → region_at store a ≡ Some r
  region-was a r e =
      let o = at-region less a r e in
      elim (seen-was regions store a o.0 o.1) [
        | inl is ↦ absurd (gone-region r o.0 is o.2)
        | inr was ↦ region-at store a r o.0 was.0 o.2
      ]

  region-stays : (a r : ℕ) → region_at store a ≡ Some r → among regions r ≡ false → region_at less a ≡ Some r
  region-stays a r e out =
      let o = at-region store a r e in
      region-at less a r o.0 (seen-stays regions store a o.0 o.1 (ap (in_regions regions) o.2 ∙ out)) o.2

  link-was : (p r : ℕ) → Link less p r → Link store p r
  link-was p r l = elim (seen-was regions store l.object l.holder l.there) [
    | inl is ↦ absurd (gone-region p l.holder is l.lies)
    | inr was ↦ link-at l.object l.holder l.field l.address was.0 l.lies l.value (region-was l.address r l.leads)
  ]

  link-stays : (p r : ℕ) → Link store p r → among regions p ≡ false → among regions r ≡ false → Link less p r
  link-stays p r l from to =
      link-at l.object l.holder l.field l.address
      (seen-stays regions store l.object l.holder l.there (ap (in_regions regions) l.lies ∙ from)) l.lies l.value
      (region-stays l.address r l.leads to)

  -- Values that lead into closed regions

  closed-parts : (ws : List Window) (s : List Seen) (v : Val) (r : ℕ) → option_and_then (closed_of ws) (label_of s v) ≡ Some r
      → (a : ℕ) × (address v ≡ Some a) × (region_at s a ≡ Some r) × (is_open ws r ≡ false)
  closed-parts ws s v r e = by (address v) refl e
    where
      label : (l : Label) → closed_of ws l ≡ Some r → (l ≡ Region r) × (is_open ws r ≡ false)
      label (Region n) c = test (is_open ws n) refl c
        where
          test : (b : Truth) → is_open ws n ≡ b → (if b then None else Some n) ≡ Some r → (Region n ≡ Region r) × (is_open ws r ≡ false)
          test true o c = absurd (none-some r c)
          test false o c = let same : n ≡ r = same_Some n r c in (ap Region same, ap (is_open ws) (sym same) ∙ o)
      label (Temp n) c = absurd (none-some r c)
      label Frozen c = absurd (none-some r c)

      at : (a : ℕ) (o : Option Seen) → slice_get s a ≡ o
          → option_and_then (closed_of ws) (option_and_then (λ (o : Seen). Some o.label) (slice_get s a)) ≡ Some r
          → (region_at s a ≡ Some r) × (is_open ws r ≡ false)
      at a None f e = absurd (none-some r (sym (ap (λ o. option_and_then (closed_of ws) (option_and_then (λ (o : Seen). Some o.label) o)) f) ∙ e))
      at a (Some o) f e =
          let x = label o.label (sym (ap (λ o. option_and_then (closed_of ws) (option_and_then (λ (o : Seen). Some o.label) o)) f) ∙ e) in
          (region-at s a r o f x.0, x.1)

      by : (x : Option ℕ) → address v ≡ x
          → option_and_then (closed_of ws) (option_and_then (λ a. option_and_then (λ (o : Seen). Some o.label) (slice_get s a)) x) ≡ Some r
          → (a : ℕ) × (address v ≡ Some a) × (region_at s a ≡ Some r) × (is_open ws r ≡ false)
      by None f e = absurd (none-some r e)
      by (Some a) f e = let x = at a (slice_get s a) refl e in (a, f, x.0, x.1)

  closed-make : (ws : List Window) (s : List Seen) (v : Val) (a r : ℕ) → address v ≡ Some a → region_at s a ≡ Some r → is_open ws r ≡ false
      → option_and_then (closed_of ws) (label_of s v) ≡ Some r
  closed-make ws s v a r e at out =
      let o = at-region s a r at in
      ap (λ x. option_and_then (closed_of ws) (option_and_then (λ a. option_and_then (λ (o : Seen). Some o.label) (slice_get s a)) x)) e
      ∙ ap (λ x. option_and_then (closed_of ws) (option_and_then (λ (o : Seen). Some o.label) x)) o.1
      ∙ ap (closed_of ws) o.2
      ∙ ap (λ b. if b then None else Some r) out

-- What temporaries own

module _ (m n : Machine) (regions : List ℕ) (windows : n.windows ≡ m.windows) (store : n.store ≡ bury regions None m.store) where
  top-same : (l : Label) → is_top_temp n l ≡ is_top_temp m l
  top-same (Region r) = refl
  top-same (Temp k) = ap (λ ws. k == top_window ws) windows
  top-same Frozen = refl

  temp-apart : (l : Label) → is_top_temp m l ≡ true → in_regions regions l ≡ false
  temp-apart (Region r) e = absurd (false≢true e)
  temp-apart (Temp k) e = refl
  temp-apart Frozen e = refl

  pub by-temp-was : (r : ℕ) → ByTemp n r → ByTemp m r
  by-temp-was r x = elim (seen-was regions m.store x.object x.holder (ap (λ s. slice_get s x.object) (sym store) ∙ x.there)) [
    | inl is ↦ absurd (none-some x.value (ap (λ (o : Seen). slice_get o.fields x.field) (sym is) ∙ x.stands))
    | inr was ↦
        (let c = closed-parts m.store regions m.windows (bury regions None m.store) x.value r
        (ap (λ s. option_and_then (closed_of m.windows) (label_of s x.value)) (sym store)
        ∙ ap (λ ws. option_and_then (closed_of ws) (label_of n.store x.value)) (sym windows) ∙ x.leads) in
        record {
          object = x.object;
          holder = x.holder;
          there = was.0;
          temp = sym (top-same x.holder.label) ∙ x.temp;
          field = x.field;
          value = x.value;
          stands = x.stands;
          leads = closed-make m.store regions m.windows m.store x.value c.0 r c.1 (region-was m.store regions c.0 r c.2) c.3;
        })
  ]

  pub by-temp-stays : (r : ℕ) → ByTemp m r → among regions r ≡ false → ByTemp n r
  by-temp-stays r x out =
      let c = closed-parts m.store regions m.windows m.store x.value r x.leads in
      record {
        object = x.object;
        holder = x.holder;
        there =
            ap (λ s. slice_get s x.object) store
            ∙ seen-stays regions m.store x.object x.holder x.there (temp-apart x.holder.label x.temp);
        temp = top-same x.holder.label ∙ x.temp;
        field = x.field;
        value = x.value;
        stands = x.stands;
        leads =
            ap (λ ws. option_and_then (closed_of ws) (label_of n.store x.value)) windows
            ∙ ap (λ s. option_and_then (closed_of m.windows) (label_of s x.value)) store
            ∙ closed-make m.store regions m.windows (bury regions None m.store) x.value c.0 r c.1
            (region-stays m.store regions c.0 r c.2 out) c.3;
      }

-- What is reached from both

pub spans-names : (store : List Seen) (tops regions : List ℕ) → Spans store tops regions → Names regions (Reached store tops)
spans-names store tops regions s = record { all = reach; only = s.only }
  where
    reach : (r : ℕ) → Reached store tops r → among regions r ≡ true
    reach r (first i) = s.start r i
    reach r (next {p = p} {r = q} x l) = s.along p q (reach p x) l

-- a test that the first of two passes
pub sooner : (t u : Truth) → t ≡ true → (t || u) ≡ true
sooner true u e = refl
sooner false u e = absurd (false≢true e)

module _ (store : List Seen) (early more left regions late : List ℕ) (one : Spans store early regions)
    (two : Spans (bury regions None store) left late) (was : (r : ℕ) → among left r ≡ true → among more r ≡ true)
    (stays : (r : ℕ) → among more r ≡ true → among regions r ≡ false → among left r ≡ true) where
  later : (t u : Truth) → u ≡ true → (t || u) ≡ true
  later true u e = refl
  later false u e = e

  reach-more : (r : ℕ) → Reached store early r → Reached store (early ++ more) r
  reach-more r (first i) = first (among-append early more r ∙ sooner (among early r) (among more r) i)
  reach-more r (next {p = p} {r = q} x l) = next (reach-more p x) l

  reach-left : (r : ℕ) → Reached (bury regions None store) left r → Reached store (early ++ more) r
  reach-left r (first i) = first (among-append early more r ∙ later (among early r) (among more r) (was r i))
  reach-left r (next {p = p} {r = q} x l) = next (reach-left p x) (link-was store regions p q l)

  in-either : (r : ℕ) → Reached store (early ++ more) r → (among regions r || among late r) ≡ true
  in-either r (first i) = by (among early r) refl (sym (among-append early more r) ∙ i)
    where
      test : (t : Truth) → among regions r ≡ t → among more r ≡ true → (t || among late r) ≡ true
      test true e i = refl
      test false e i = two.start r (stays r i e)

      by : (t : Truth) → among early r ≡ t → (t || among more r) ≡ true → (among regions r || among late r) ≡ true
      by true e i = sooner (among regions r) (among late r) (one.start r e)
      by false e i = test (among regions r) refl i
  in-either r (next {p = p} {r = q} x l) = by (among regions p) refl (in-either p x)
    where
      test : (t : Truth) → among regions q ≡ t → among regions p ≡ false → among late p ≡ true → (t || among late q) ≡ true
      test true e out i = refl
      test false e out i = two.along p q i (link-stays store regions p q l out e)

      by : (t : Truth) → among regions p ≡ t → (t || among late p) ≡ true → (among regions q || among late q) ≡ true
      by true e i = sooner (among regions q) (among late q) (one.along p q e l)
      by false e i = test (among regions q) refl e i

  pub split-names : Names (regions ++ late) (Reached store (early ++ more))
  split-names = record {
    all = λ r x. among-append regions late r ∙ in-either r x;
    only = λ r i. by r (among regions r) refl (sym (among-append regions late r) ∙ i);
  }
    where
      by : (r : ℕ) (t : Truth) → among regions r ≡ t → (t || among late r) ≡ true → Reached store (early ++ more) r
      by r true e i = reach-more r (one.only r e)
      by r false e i = reach-left r (two.only r i)

-- The list of regions that temporaries own

among-here : (x r : ℕ) (xs : List ℕ) → x ≡ r → among (x ∷ xs) r ≡ true
among-here x r xs e = ap (λ b. is_some (cond b (Some x) (find (λ m. m == r) xs))) (eq-is x r e)

among-later : (x r : ℕ) (xs : List ℕ) → among xs r ≡ true → among (x ∷ xs) r ≡ true
among-later x r xs e = by (x == r)
  where
    by : (b : Truth) → is_some (cond b (Some x) (find (λ m. m == r) xs)) ≡ true
    by true = refl
    by false = e

among-cases : (x r : ℕ) (xs : List ℕ) → among (x ∷ xs) r ≡ true → (x ≡ r) ⊎ (among xs r ≡ true)
among-cases x r xs e = by (x == r) refl e
  where
    by : (b : Truth) → (x == r) ≡ b → is_some (cond b (Some x) (find (λ m. m == r) xs)) ≡ true → (x ≡ r) ⊎ (among xs r ≡ true)
    by true is e = inl (eq-true x r is)
    by false is e = inr e

pub chosen-back : (f : Val → Option ℕ) (vs : List Val) (r : ℕ) → among (filter_map f vs) r ≡ true
    → (i : ℕ) × (v : Val) × (slice_get vs i ≡ Some v) × (f v ≡ Some r)
chosen-back f [] r e = absurd (false≢true e)
chosen-back f (v ∷ vs) r e = by (f v) refl e (λ i. chosen-back f vs r i)
  where
    by : (o : Option ℕ) → f v ≡ o → among (cons_option o (filter_map f vs)) r ≡ true
        → (among (filter_map f vs) r ≡ true → (i : ℕ) × (x : Val) × (slice_get vs i ≡ Some x) × (f x ≡ Some r))
        → (i : ℕ) × (x : Val) × (slice_get (v ∷ vs) i ≡ Some x) × (f x ≡ Some r)
    by None is e rest = let b = rest e in (suc b.0, b.1, b.2, b.3)
    by (Some x) is e rest = elim (among-cases x r (filter_map f vs) e) [
      | inl same ↦ (0, v, refl, is ∙ ap Some same)
      | inr on ↦ (let b = rest on in (suc b.0, b.1, b.2, b.3))
    ]

chosen-in : (f : Val → Option ℕ) (vs : List Val) (i r : ℕ) (v : Val) → slice_get vs i ≡ Some v → f v ≡ Some r → among (filter_map f vs) r ≡ true
chosen-in f [] i r v e is = absurd (none-some v e)
chosen-in f (x ∷ vs) zero r v e is =
    ap (λ o. among (cons_option o (filter_map f vs)) r) (ap f (same_Some x v e) ∙ is) ∙ among-here r r (filter_map f vs) refl
chosen-in f (x ∷ vs) (suc i) r v e is = by (f x) (chosen-in f vs i r v e is)
  where
    by : (o : Option ℕ) → among (filter_map f vs) r ≡ true → among (cons_option o (filter_map f vs)) r ≡ true
    by None on = on
    by (Some y) on = among-later y r (filter_map f vs) on

-- those of the objects that pass a test
picked-back : (test : Seen → Truth) (f : Seen → List ℕ) (os : List Seen) (r : ℕ) → among (flat_map f (filter test os)) r ≡ true
    → (i : ℕ) × (o : Seen) × (slice_get os i ≡ Some o) × (test o ≡ true) × (among (f o) r ≡ true)
picked-back test f [] r e = absurd (false≢true e)
picked-back test f (o ∷ os) r e = by (test o) refl e (λ i. picked-back test f os r i)
  where
    rest : ((i : ℕ) × (x : Seen) × (slice_get os i ≡ Some x) × (test x ≡ true) × (among (f x) r ≡ true))
        → (i : ℕ) × (x : Seen) × (slice_get (o ∷ os) i ≡ Some x) × (test x ≡ true) × (among (f x) r ≡ true)
    rest b = (suc b.0, b.1, b.2, b.3, b.4)

    either : (t : Truth) → among (f o) r ≡ t → (t || among (flat_map f (filter test os)) r) ≡ true → test o ≡ true
        → (among (flat_map f (filter test os)) r ≡ true
        → (i : ℕ) × (x : Seen) × (slice_get os i ≡ Some x) × (test x ≡ true) × (among (f x) r ≡ true))
        → (i : ℕ) × (x : Seen) × (slice_get (o ∷ os) i ≡ Some x) × (test x ≡ true) × (among (f x) r ≡ true)
    either true is e passes on = (0, o, refl, passes, is)
    either false is e passes on = rest (on e)

    by : (t : Truth) → test o ≡ t → among (flat_map f (cond t (o ∷ filter test os) (filter test os))) r ≡ true
        → (among (flat_map f (filter test os)) r ≡ true
        → (i : ℕ) × (x : Seen) × (slice_get os i ≡ Some x) × (test x ≡ true) × (among (f x) r ≡ true))
        → (i : ℕ) × (x : Seen) × (slice_get (o ∷ os) i ≡ Some x) × (test x ≡ true) × (among (f x) r ≡ true)
    by true is e on =
        either (among (f o) r) refl (sym (among-append (f o) (flat_map f (filter test os)) r) ∙ e) is on
    by false is e on = rest (on e)

picked-in : (test : Seen → Truth) (f : Seen → List ℕ) (os : List Seen) (i r : ℕ) (o : Seen) → slice_get os i ≡ Some o → test o ≡ true
    → among (f o) r ≡ true → among (flat_map f (filter test os)) r ≡ true
picked-in test f [] i r o e is h = absurd (none-some o e)
picked-in test f (x ∷ os) zero r o e is h =
    let same : x ≡ o = same_Some x o e in
    ap (λ t. among (flat_map f (cond t (x ∷ filter test os) (filter test os))) r) (ap test same ∙ is)
    ∙ among-append (f x) (flat_map f (filter test os)) r
    ∙ ap (λ t. t || among (flat_map f (filter test os)) r) (ap (λ y. among (f y) r) same ∙ h)
picked-in test f (x ∷ os) (suc i) r o e is h = by (test x) (picked-in test f os i r o e is h)
  where
    later : (t u : Truth) → u ≡ true → (t || u) ≡ true
    later true u e = refl
    later false u e = e

    by : (t : Truth) → among (flat_map f (filter test os)) r ≡ true
        → among (flat_map f (cond t (x ∷ filter test os) (filter test os))) r ≡ true
    by true on = among-append (f x) (flat_map f (filter test os)) r ∙ later (among (f x) r) (among (flat_map f (filter test os)) r) on
    by false on = on

pub by-temps : (m : Machine) → Names (closed_by_temps m) (ByTemp m)
by-temps m = record {
  all = λ r x.
      picked-in (λ (o : Seen). is_top_temp m o.label) (λ (o : Seen). closed_among m o.fields) m.store x.object r x.holder x.there x.temp
      (chosen-in (closed_into m) x.holder.fields x.field r x.value x.stands x.leads);
  only = λ r i.
      let b = picked-back (λ (o : Seen). is_top_temp m o.label) (λ (o : Seen). closed_among m o.fields) m.store r i in
      let c = chosen-back (closed_into m) b.1.fields r b.4 in
      record {
        object = b.0;
        holder = b.1;
        there = b.2;
        temp = b.3;
        field = c.0;
        value = c.1;
        stands = c.2;
        leads = c.3;
      };
}
