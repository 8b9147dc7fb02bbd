-- Words that are written from a place on, one or two of them.
use Rattle.std.proofs.Common.{◌≡◌, ◌<◌, ◌+◌, ◌++◌, ◌∷◌, ◌∙◌, ℕ, zero, suc, [], List, length, take, drop, slice_set, refl, ap, arith}
use Rattle.rg_base.specs.declared.value.Word.{Word}

one : (xs : List Word) (at : ℕ) (w : Word) → at < length xs → slice_set xs at w ≡ take at xs ++ (w ∷ drop (suc at) xs)
one [] at w lt = absurd (omega (arith, lt))
one (x ∷ xs) zero w lt = refl
one (x ∷ xs) (suc n) w lt = ap (λ ys. x ∷ ys) (one xs n w (omega (arith, lt)))

pub write-one : (xs : List Word) (at : ℕ) (w : Word) → at < length xs → slice_set xs at w ≡ take at xs ++ (w ∷ drop (at + 1) xs)
write-one xs at w lt = let e : suc at ≡ at + 1 = omega arith in one xs at w lt ∙ ap (λ n. take at xs ++ (w ∷ drop n xs)) e

two : (xs : List Word) (at : ℕ) (w x : Word) → suc at < length xs
    → slice_set (slice_set xs at w) (suc at) x ≡ take at xs ++ (w ∷ x ∷ drop (suc (suc at)) xs)
two [] at w x lt = absurd (omega (arith, lt))
two (y ∷ []) zero w x lt = absurd (omega (arith, lt))
two (y ∷ z ∷ zs) zero w x lt = refl
two (y ∷ ys) (suc n) w x lt = ap (λ zs. y ∷ zs) (two ys n w x (omega (arith, lt)))

pub write-two : (xs : List Word) (at : ℕ) (w x : Word) → at + 1 < length xs
    → slice_set (slice_set xs at w) (at + 1) x ≡ take at xs ++ (w ∷ x ∷ drop (at + 2) xs)
write-two xs at w x lt =
    let e : suc at ≡ at + 1 = omega arith in
    let f : suc (suc at) ≡ at + 2 = omega arith in
    ap (λ n. slice_set (slice_set xs at w) n x) (sym-of e) ∙ two xs at w x (omega (arith, lt)) ∙ ap (λ n. take at xs ++ (w ∷ x ∷ drop n xs)) f
  where
    sym-of : suc at ≡ at + 1 → at + 1 ≡ suc at
    sym-of e = omega (arith, e)
