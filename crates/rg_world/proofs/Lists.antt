-- Lists that are written at a place.
use Rattle.std.proofs.Common.{◌≡◌, ◌≢◌, ℕ, zero, suc, ◌<◌, ◌≤◌, ◌⊎◌, inl, inr, Bool, ◌&&◌, List, [], ◌∷◌, length, set, Some, slice_get, refl, ap}
use Rattle.std.proofs.Common.{◌∙◌, arith}
use Rattle.std.specs.List.{list_all}

pub get-same : {X : Type 0} → (xs : List X) (i : ℕ) (y : X) → i < length xs → slice_get (set xs i y) i ≡ Some y
get-same [] i y l = absurd (omega (arith, l))
get-same (x ∷ xs) zero y l = refl
get-same (x ∷ xs) (suc i) y l = get-same xs i y (omega (arith, l))

pub get-other : {X : Type 0} → (xs : List X) (i j : ℕ) (y : X) → j ≢ i → slice_get (set xs i y) j ≡ slice_get xs j
get-other [] i j y d = refl
get-other (x ∷ xs) zero zero y d = absurd (d refl)
get-other (x ∷ xs) zero (suc j) y d = refl
get-other (x ∷ xs) (suc i) zero y d = refl
get-other (x ∷ xs) (suc i) (suc j) y d = get-other xs i j y (λ e. d (ap suc e))

-- past the end nothing is written
pub set-past : {X : Type 0} → (xs : List X) (i : ℕ) (y : X) → length xs ≤ i → set xs i y ≡ xs
set-past [] i y l = refl
set-past (x ∷ xs) zero y l = absurd (omega (arith, l))
set-past (x ∷ xs) (suc i) y l = ap (λ zs. x ∷ zs) (set-past xs i y (omega (arith, l)))

pub same_or_not : (a b : ℕ) → (a ≡ b) ⊎ (a ≢ b)
same_or_not zero zero = inl refl
same_or_not zero (suc b) = inr (λ e. absurd (omega (arith, e)))
same_or_not (suc a) zero = inr (λ e. absurd (omega (arith, e)))
same_or_not (suc a) (suc b) = up (same_or_not a b)
  where
    up : (a ≡ b) ⊎ (a ≢ b) → (suc a ≡ suc b) ⊎ (suc a ≢ suc b)
    up (inl e) = inl (ap suc e)
    up (inr d) = inr (λ e. d (omega (arith, e)))

pub within_or_past : (a b : ℕ) → (a < b) ⊎ (b ≤ a)
within_or_past a zero = inr (omega arith)
within_or_past zero (suc b) = inl (omega arith)
within_or_past (suc a) (suc b) = up (within_or_past a b)
  where
    up : (a < b) ⊎ (b ≤ a) → (suc a < suc b) ⊎ (suc b ≤ suc a)
    up (inl l) = inl (omega (arith, l))
    up (inr l) = inr (omega (arith, l))

-- tests that are alike
pub all-alike : {X : Type 0} → (p q : X → Bool) (xs : List X) → ((x : X) → p x ≡ q x) → list_all p xs ≡ list_all q xs
all-alike p q [] same = refl
all-alike p q (x ∷ xs) same = ap (λ b. b && list_all p xs) (same x) ∙ ap (λ b. q x && b) (all-alike p q xs same)
