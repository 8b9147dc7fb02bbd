-- What the last in a cown's queue is.
use Rattle.std.proofs.Common.{◌≡◌, ℕ, zero, suc, ◌+◌, ◌<◌, Bool, true, false, List, [], ◌∷◌, ◌++◌, length, filter_map}
use Rattle.std.proofs.Common.{All, Option, Some, None, unwrap_or, slice_get, refl, ap, ◌∙◌, subst, arith}
use Rattle.std.specs.Prelude.{if◌then◌else◌}
use Rattle.std.specs.List.{cons_option}
use Rattle.std.specs.Option.{option_or}
use Rattle.rg_queues.specs.Queues.{names, last_from, last_over, right_in_front}

-- it is the last behaviour over the cown, where there is one: counted from that of a number on
abbrev pub IsLastFrom : (number : ℕ) → (all : List (List ℕ)) → (cown : ℕ) → Option ℕ → Type 0
IsLastFrom i all n None = (p : ℕ) (ns : List ℕ) → slice_get all p ≡ Some ns → names ns n ≡ false
IsLastFrom i all n (Some k) =
    (p : ℕ) × (k ≡ i + p) × ((ns : List ℕ) × (slice_get all p ≡ Some ns) × (names ns n ≡ true))
    × ((q : ℕ) (ms : List ℕ) → p < q → slice_get all q ≡ Some ms → names ms n ≡ false)

some_is : {A : Type 0} → (a b : A) → Some a ≡ Some b → a ≡ b
some_is a b e = ap (λ o. unwrap_or o a) e

onto-none : (i : ℕ) (ns : List ℕ) (all : List (List ℕ)) (n : ℕ) (b : Bool) → names ns n ≡ b → IsLastFrom (suc i) all n None
    → IsLastFrom i (ns ∷ all) n (if b then Some i else None)
onto-none i ns all n true e h = (zero, omega arith, (ns, refl, e), after)
  where
    after : (q : ℕ) (ms : List ℕ) → 0 < q → slice_get (ns ∷ all) q ≡ Some ms → names ms n ≡ false
    after zero ms l at = absurd (omega (arith, l))
    after (suc q) ms l at = h q ms at
onto-none i ns all n false e h = none
  where
    none : (p : ℕ) (ms : List ℕ) → slice_get (ns ∷ all) p ≡ Some ms → names ms n ≡ false
    none zero ms at = subst (λ z. names z n ≡ false) (some_is ns ms at) e
    none (suc p) ms at = h p ms at

onto-some : (i : ℕ) (ns : List ℕ) (all : List (List ℕ)) (n k : ℕ) → IsLastFrom (suc i) all n (Some k) → IsLastFrom i (ns ∷ all) n (Some k)
onto-some i ns all n k h = (suc h.0, omega (arith, h.1), h.2, after)
  where
    after : (q : ℕ) (ms : List ℕ) → suc h.0 < q → slice_get (ns ∷ all) q ≡ Some ms → names ms n ≡ false
    after zero ms l at = absurd (omega (arith, l))
    after (suc q) ms l at = h.3 q ms (omega (arith, l)) at

last-is-from : (i : ℕ) (all : List (List ℕ)) (n : ℕ) → IsLastFrom i all n (last_from i all n)
last-is-from i [] n = λ p ns at. cc
last-is-from i (ns ∷ all) n = by (last_from (suc i) all n) (last-is-from (suc i) all n)
  where
    by : (o : Option ℕ) → IsLastFrom (suc i) all n o → IsLastFrom i (ns ∷ all) n (option_or o (if names ns n then Some i else None))
    by None h = onto-none i ns all n (names ns n) refl h
    by (Some k) h = onto-some i ns all n k h

-- For callers

pub last-is : (all : List (List ℕ)) (n : ℕ) → IsLastFrom 0 all n (last_over all n)
last-is all n = last-is-from 0 all n

-- one behaviour more

last-push-from : (i : ℕ) (all : List (List ℕ)) (ns : List ℕ) (n : ℕ)
    → last_from i (all ++ ns ∷ []) n ≡ (if names ns n then Some (i + length all) else last_from i all n)
last-push-from i [] ns n = by (names ns n)
  where
    by : (b : Bool) → option_or None (if b then Some i else None) ≡ (if b then Some (i + 0) else None)
    by true = ap Some (omega arith)
    by false = refl
last-push-from i (ms ∷ all) ns n = by (names ns n) (last_from (suc i) (all ++ ns ∷ []) n) (last-push-from (suc i) all ns n)
  where
    by : (b : Bool) (o : Option ℕ) → o ≡ (if b then Some (suc i + length all) else last_from (suc i) all n)
        → option_or o (if names ms n then Some i else None)
        ≡ (if b then Some (i + suc (length all)) else option_or (last_from (suc i) all n) (if names ms n then Some i else None))
    by true o e = let same : suc i + length all ≡ i + suc (length all) = omega arith in
        ap (λ z. option_or z (if names ms n then Some i else None)) e ∙ ap Some same
    by false o e = ap (λ z. option_or z (if names ms n then Some i else None)) e

pub last-push : (all : List (List ℕ)) (ns : List ℕ) (n : ℕ)
    → last_over (all ++ ns ∷ []) n ≡ (if names ns n then Some (length all) else last_over all n)
last-push all ns n =
    let same : 0 + length all ≡ length all = omega arith in
    last-push-from 0 all ns n ∙ ap (λ k. if names ns n then Some k else last_over all n) same

-- those right in front come before

within-length : {X : Type 0} → (xs : List X) (p : ℕ) (x : X) → slice_get xs p ≡ Some x → p < length xs
within-length [] p x e = absurd (cc)
within-length (y ∷ xs) zero x e = omega arith
within-length (y ∷ xs) (suc p) x e = let l = within-length xs p x e in omega (arith, l)

all-found : (f : ℕ → Option ℕ) (most : ℕ) (ns : List ℕ) → ((n k : ℕ) → f n ≡ Some k → k < most) → All (λ k. k < most) (filter_map f ns)
all-found f most [] h = λ i d l. absurd (omega (arith, l))
all-found f most (n ∷ ns) h = by (f n) refl (all-found f most ns h)
  where
    put : (k : ℕ) (ks : List ℕ) → k < most → All (λ j. j < most) ks → All (λ j. j < most) (k ∷ ks)
    put k ks e rest zero d l = e
    put k ks e rest (suc i) d l = rest i d (omega (arith, l))

    by : (o : Option ℕ) → f n ≡ o → All (λ k. k < most) (filter_map f ns) → All (λ k. k < most) (cons_option o (filter_map f ns))
    by None e rest = rest
    by (Some k) e rest = put k (filter_map f ns) (h n k e) rest

pub front-below : (before : List (List ℕ)) (ns : List ℕ) → All (λ k. k < length before) (right_in_front before ns)
front-below before ns = all-found (last_over before) (length before) ns (λ n k e.
    let last = subst (λ o. IsLastFrom 0 before n o) e (last-is before n) in
    let l = within-length before last.0 last.2.0 last.2.1 in
    omega (arith, l, last.1))
