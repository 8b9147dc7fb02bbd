-- What is reached, as paths: an object is among those that are reached by at most so many links exactly where it is at the end of a path of no
-- more; each stands there once. And lists: behind each other, and without repeats, one of which has all that the other has.
use Rattle.std.proofs.Common.{◌≡◌, ◌⊎◌, inl, inr, ℕ, zero, suc, ◌≤◌, ◌+◌, ◌==◌, Bool as Truth, true, false, if◌then◌else◌, List, [], ◌∷◌, ◌++◌}
use Rattle.std.proofs.Common.{length, cond, flat_map, map, option_map, Option, Some, None, slice_get, refl, sym, ap, ◌∙◌, subst, arith}
use Rattle.std.proofs.lemmas.Bool.{false≢true}
use Rattle.std.proofs.lemmas.Option.{none-some, same_Some, slice_get-map}
use Rattle.rg_base.specs.declared.object.Seen.{Seen}
use Rattle.rg_base.specs.declared.value.Val.{Val}
use Rattle.rg_base.specs.declared.value.Val.TheVariants as val
use Rattle.rg_rules.specs.Reach.{addresses, inside, is_region, led_from_object, reach_of, reached, size_of}
use Rattle.rg_rules.specs.Regions.{among, joined_with, region_at}
use Rattle.rg_rules.proofs.Region.{reached-suc}
use Rattle.rg_sound.proofs.Stores.Member.{In, among-not, in-split, joined-back, joined-new, joined-old}
use Rattle.rg_stack.proofs.Callers.Label.{flat_in as flat-in, flat_back as flat-back}

-- Lists behind each other

pub get-right : {A : Type 0} → (xs ys : List A) (i : ℕ) (y : A) → slice_get ys i ≡ Some y → slice_get (xs ++ ys) (length xs + i) ≡ Some y
get-right [] ys i y e = let same : i ≡ 0 + i = omega arith in ap (slice_get ys) (sym same) ∙ e
get-right (x ∷ xs) ys i y e =
    let same : suc (length xs + i) ≡ suc (length xs) + i = omega arith in
    ap (slice_get (x ∷ xs ++ ys)) (sym same) ∙ get-right xs ys i y e

-- Lists without repeats

abbrev pub Distinct : List ℕ → Type 0
Distinct [] = Unit {0}
Distinct (n ∷ ns) = (In n ns → ⊥) × Distinct ns

-- the others, without one of them
pub record Without (n : ℕ) (ns : List ℕ) : Type 0 where
  pub rest : List ℕ
  pub count : length ns ≡ suc (length rest)
  pub others : (m : ℕ) → In m ns → (m ≡ n) ⊎ In m rest

pub without : (n : ℕ) (ns : List ℕ) → In n ns → Without n ns
without n [] i = absurd i
without n (m ∷ ms) (inl e) = record {
  rest = ms;
  count = refl;
  others = λ k i. elim i [ inl same ↦ inl (sym same ∙ e) | inr on ↦ inr on ];
}
without n (m ∷ ms) (inr i) =
    let w = without n ms i in
    record {
      rest = m ∷ w.rest;
      count = ap suc w.count;
      others = λ k j. elim j [
        | inl same ↦ inr (inl same)
        | inr on ↦ elim (w.others k on) [ inl e ↦ inl e | inr y ↦ inr (inr y) ]
      ];
    }

-- a list without repeats is no longer than one that has all of it
pub no-longer : (ns ms : List ℕ) → Distinct ns → ((n : ℕ) → In n ns → In n ms) → length ns ≤ length ms
no-longer [] ms d all = omega arith
no-longer (n ∷ ns) ms d all =
    let w = without n ms (all n (inl refl)) in
    let rest = no-longer ns w.rest d.1 (λ m i. elim (w.others m (all m (inr i))) [
      | inl same ↦ absurd (d.0 (subst (λ k. In k ns) same i))
      | inr on ↦ on
    ]) in
    let count = w.count in
    omega (arith, rest, count)

distinct-push : (ns : List ℕ) (m : ℕ) → Distinct ns → (In m ns → ⊥) → Distinct (ns ++ m ∷ [])
distinct-push [] m d out = (λ i. i, tt)
distinct-push (n ∷ ns) m d out = (
  λ i. elim (in-split ns (m ∷ []) n i) [
    | inl here ↦ d.0 here
    | inr last ↦ elim last [ inl same ↦ out (inl (sym same)) | inr none ↦ none ]
  ],
  distinct-push ns m d.1 (λ i. out (inr i)),
)

distinct-joined : (ns ms : List ℕ) → Distinct ns → Distinct (joined_with ns ms)
distinct-joined ns [] d = d
distinct-joined ns (m ∷ ms) d = distinct-joined (if among ns m then ns else ns ++ m ∷ []) ms (by (among ns m) refl)
  where
    by : (b : Truth) → among ns m ≡ b → Distinct (if b then ns else ns ++ m ∷ [])
    by true e = d
    by false e = distinct-push ns m d (among-not ns m e)

distinct-reached : (r : ℕ) (store : List Seen) (k : ℕ) (found : List ℕ) → Distinct found → Distinct (reached r store k found)
distinct-reached r store zero found d = d
distinct-reached r store (suc k) found d =
    distinct-reached r store k (joined_with found (inside r store (flat_map (led_from_object store) found)))
    (distinct-joined found (inside r store (flat_map (led_from_object store) found)) d)

pub distinct-reach : (r : ℕ) (store : List Seen) (roots : List ℕ) → Distinct (reach_of r store roots)
distinct-reach r store roots =
    distinct-reached r store (size_of r store) (joined_with [] (inside r store roots)) (distinct-joined [] (inside r store roots) tt)

-- What is among lists that are made from others

is-region : (r : ℕ) (o : Option ℕ) → is_region r o ≡ true → o ≡ Some r
is-region r None e = absurd (false≢true e)
is-region r (Some q) e = let same : r ≡ q = grind (arith, e) in ap Some (sym same)

region-is : (r : ℕ) (o : Option ℕ) → o ≡ Some r → is_region r o ≡ true
region-is r o e = ap (is_region r) e ∙ same
  where
    same : (r == r) ≡ true
    same = grind arith

inside-in : (r : ℕ) (store : List Seen) (found : List ℕ) (a : ℕ) → In a found → region_at store a ≡ Some r → In a (inside r store found)
inside-in r store [] a i e = i
inside-in r store (b ∷ bs) a i e = by (is_region r (region_at store b)) refl i (λ on. inside-in r store bs a on e)
  where
    by : (t : Truth) → is_region r (region_at store b) ≡ t → In a (b ∷ bs) → (In a bs → In a (inside r store bs))
        → In a (cond t (b ∷ inside r store bs) (inside r store bs))
    by true is (inl same) rest = inl same
    by true is (inr on) rest = inr (rest on)
    by false is (inl same) rest =
        absurd (false≢true (sym is ∙ region-is r (region_at store b) (ap (region_at store) same ∙ e)))
    by false is (inr on) rest = rest on

inside-back : (r : ℕ) (store : List Seen) (found : List ℕ) (a : ℕ) → In a (inside r store found) → In a found × (region_at store a ≡ Some r)
inside-back r store [] a i = absurd i
inside-back r store (b ∷ bs) a i = by (is_region r (region_at store b)) refl i (inside-back r store bs a)
  where
    by : (t : Truth) → is_region r (region_at store b) ≡ t → In a (cond t (b ∷ inside r store bs) (inside r store bs))
        → (In a (inside r store bs) → In a bs × (region_at store a ≡ Some r)) → In a (b ∷ bs) × (region_at store a ≡ Some r)
    by true is (inl same) rest = (inl same, ap (region_at store) (sym same) ∙ is-region r (region_at store b) is)
    by true is (inr on) rest = let x = rest on in (inr x.0, x.1)
    by false is on rest = let x = rest on in (inr x.0, x.1)

-- the addresses to which values lead
pub addresses-in : (vs : List Val) (k a : ℕ) → slice_get vs k ≡ Some (val.Obj a) → In a (addresses vs)
addresses-in [] k a e = absurd (none-some (val.Obj a) e)
addresses-in (v ∷ vs) zero a e = subst (λ x. In a (addresses (x ∷ vs))) (sym (same_Some v (val.Obj a) e)) (inl refl)
addresses-in (val.Nil ∷ vs) (suc k) a e = addresses-in vs k a e
addresses-in (val.Int z ∷ vs) (suc k) a e = addresses-in vs k a e
addresses-in (val.Bool b ∷ vs) (suc k) a e = addresses-in vs k a e
addresses-in (val.Obj b ∷ vs) (suc k) a e = inr (addresses-in vs k a e)

pub addresses-back : (vs : List Val) (a : ℕ) → In a (addresses vs) → (k : ℕ) × (slice_get vs k ≡ Some (val.Obj a))
addresses-back [] a i = absurd i
addresses-back (val.Nil ∷ vs) a i = let x = addresses-back vs a i in (suc x.0, x.1)
addresses-back (val.Int z ∷ vs) a i = let x = addresses-back vs a i in (suc x.0, x.1)
addresses-back (val.Bool b ∷ vs) a i = let x = addresses-back vs a i in (suc x.0, x.1)
addresses-back (val.Obj b ∷ vs) a (inl e) = (0, ap (λ n. Some (val.Obj n)) e)
addresses-back (val.Obj b ∷ vs) a (inr i) = let x = addresses-back vs a i in (suc x.0, x.1)

pub mapped-leads : {A : Type 0} → (f : A → Val) (xs : List A) (k a : ℕ) (x : A) → slice_get xs k ≡ Some x → f x ≡ val.Obj a
    → In a (addresses (map f xs))
mapped-leads f xs k a x e is = addresses-in (map f xs) k a (slice_get-map f xs k ∙ ap (option_map f) e ∙ ap Some is)

pub led-in : (store : List Seen) (p k a : ℕ) (o : Seen) → slice_get store p ≡ Some o → slice_get o.fields k ≡ Some (val.Obj a)
    → In a (led_from_object store p)
led-in store p k a o there e =
    subst (λ (x : Option Seen). In a (elim x [ None ↦ [] | Some o ↦ addresses o.fields ])) (sym there) (addresses-in o.fields k a e)

pub led-back : (store : List Seen) (p a : ℕ) → In a (led_from_object store p)
    → (o : Seen) × (slice_get store p ≡ Some o) × ((k : ℕ) × (slice_get o.fields k ≡ Some (val.Obj a)))
led-back store p a i = by (slice_get store p) refl i
  where
    by : (x : Option Seen) → slice_get store p ≡ x → In a (elim x [ None ↦ [] | Some o ↦ addresses o.fields ])
        → (o : Seen) × (slice_get store p ≡ Some o) × ((k : ℕ) × (slice_get o.fields k ≡ Some (val.Obj a)))
    by None e i = absurd i
    by (Some o) e i = (o, e, addresses-back o.fields a i)

-- Paths

module _ (r : ℕ) (store : List Seen) (roots : List ℕ) where
  -- an object of the region at the end of a path of so many links from a root, through objects of the region
  abbrev pub Trail : ℕ → ℕ → Type 0
  Trail zero a = (region_at store a ≡ Some r) × In a roots
  Trail (suc n) a = (region_at store a ≡ Some r) × ((p : ℕ) × Trail n p × In a (led_from_object store p))

  abbrev first : List ℕ
  first = joined_with [] (inside r store roots)

  abbrev by_links : ℕ → List ℕ
  by_links k = reached r store k first

  abbrev led : ℕ → List ℕ
  led k = inside r store (flat_map (led_from_object store) (by_links k))

  longer : (k a : ℕ) → In a (by_links k) → In a (by_links (suc k))
  longer k a i = subst (In a) (sym (reached-suc r store k first)) (joined-old (by_links k) (led k) a i)

  -- a path leads to what is reached
  trail-reached : (k n a : ℕ) → n ≤ k → Trail n a → In a (by_links k)
  trail-reached zero zero a le t = joined-new [] (inside r store roots) a (inside-in r store roots a t.1 t.0)
  trail-reached zero (suc n) a le t = absurd (omega (arith, le))
  trail-reached (suc k) zero a le t = longer k a (trail-reached k zero a (omega arith) t)
  trail-reached (suc k) (suc n) a le t =
      let before = trail-reached k n t.1.0 (omega (arith, le)) t.1.1 in
      subst (In a) (sym (reached-suc r store k first)) (joined-new (by_links k) (led k) a
      (inside-in r store (flat_map (led_from_object store) (by_links k)) a
      (flat-in (led_from_object store) (by_links k) t.1.0 a before t.1.2) t.0))

  -- what is reached is at the end of a path
  reached-trail : (k a : ℕ) → In a (by_links k) → (n : ℕ) × Trail n a
  reached-trail zero a i = elim (joined-back [] (inside r store roots) a i) [
    | inl none ↦ absurd none
    | inr new ↦ (let x = inside-back r store roots a new in (0, (x.1, x.0)))
  ]
  reached-trail (suc k) a i =
      elim (joined-back (by_links k) (led k) a (subst (In a) (reached-suc r store k first) i)) [
        | inl old ↦ reached-trail k a old
        | inr new ↦
            (let x = inside-back r store (flat_map (led_from_object store) (by_links k)) a new in
            let y = flat-back (led_from_object store) (by_links k) a x.0 in
            let t = reached-trail k y.0 y.1 in
            (suc t.0, (x.1, (y.0, t.1, y.2))))
      ]

  pub trail-in : (n a : ℕ) → n ≤ size_of r store → Trail n a → In a (reach_of r store roots)
  trail-in n a le t = trail-reached (size_of r store) n a le t

  pub trail-back : (a : ℕ) → In a (reach_of r store roots) → (n : ℕ) × Trail n a
  trail-back a i = reached-trail (size_of r store) a i
