-- Counts over lists, and over lists of lists: none where no element passes, one where any two that pass are the same.
use Rattle.std.proofs.Common.{◌≡◌, ◌⊎◌, inl, inr, ℕ, suc, Bool as Truth, true, false, cond, List, [], ◌∷◌, Some, slice_get, refl}
use Rattle.std.proofs.Common.{◌∙◌, arith}
use Rattle.std.specs.Prelude.{count_by, sum_by}
use Rattle.std.proofs.lemmas.List.Sums.{sum_by-cons}

-- a sum of nothing
pub sum-none : {A : Type 0} (g : A → ℕ) (xs : List A) → ((i : ℕ) (x : A) → slice_get xs i ≡ Some x → g x ≡ 0) → sum_by g xs ≡ 0
sum-none g [] h = refl
sum-none g (x ∷ xs) h =
    let first = h 0 x refl in
    let rest = sum-none g xs (λ i y e. h (suc i) y e) in sum_by-cons g x xs ∙ omega (arith, first, rest)

-- a sum that is nothing, or one at some place
abbrev pub AtMostOne : ℕ → (ℕ → Type 0) → Type 0
AtMostOne n P = (n ≡ 0) ⊎ ((n ≡ 1) × (i : ℕ) × P i)

pub sum-one : {A : Type 0} (g : A → ℕ) (xs : List A) (P : ℕ → Type 0) →
    ((i : ℕ) (x : A) → slice_get xs i ≡ Some x → (g x ≡ 0) ⊎ ((g x ≡ 1) × P i)) → ((i j : ℕ) → P i → P j → i ≡ j) → AtMostOne (sum_by g xs) P
sum-one g [] P each one = inl refl
sum-one g (x ∷ xs) P each one = by (each 0 x refl)
    (sum-one g xs (λ i. P (suc i)) (λ i y e. each (suc i) y e) (λ i j p q. let same = one (suc i) (suc j) p q in omega (arith, same)))
  where
    by : (g x ≡ 0) ⊎ ((g x ≡ 1) × P 0) → AtMostOne (sum_by g xs) (λ i. P (suc i)) → AtMostOne (sum_by g (x ∷ xs)) P
    by (inl a) (inl b) = inl (sum_by-cons g x xs ∙ omega (arith, a, b))
    by (inl a) (inr b) = let c = b.0 in inr (sum_by-cons g x xs ∙ omega (arith, a, c), suc b.1, b.2)
    by (inr a) (inl b) = let c = a.0 in inr (sum_by-cons g x xs ∙ omega (arith, b, c), 0, a.1)
    by (inr a) (inr b) = let same = one 0 (suc b.1) a.1 b.2 in absurd (omega (arith, same))

-- how many pass
pub count-none : {A : Type 0} (test : A → Truth) (xs : List A) → ((i : ℕ) (x : A) → slice_get xs i ≡ Some x → test x ≡ true → ⊥) →
    count_by test xs ≡ 0
count-none test xs h = sum-none (λ x. cond (test x) 1 0) xs (λ i x e. by (test x) (h i x e))
  where
    by : (b : Truth) → (b ≡ true → ⊥) → ◌≡◌ {A = ℕ} (cond b 1 0) 0
    by true never = absurd (never refl)
    by false never = refl

pub count-one : {A : Type 0} (test : A → Truth) (xs : List A) (P : ℕ → Type 0) →
    ((i : ℕ) (x : A) → slice_get xs i ≡ Some x → test x ≡ true → P i) → ((i j : ℕ) → P i → P j → i ≡ j) → AtMostOne (count_by test xs) P
count-one test xs P each one = sum-one (λ x. cond (test x) 1 0) xs P (λ i x e. by i (test x) (each i x e)) one
  where
    by : (i : ℕ) (b : Truth) → (b ≡ true → P i) → (◌≡◌ {A = ℕ} (cond b 1 0) 0) ⊎ ((◌≡◌ {A = ℕ} (cond b 1 0) 1) × P i)
    by i true p = inr (refl, p refl)
    by i false p = inl refl
