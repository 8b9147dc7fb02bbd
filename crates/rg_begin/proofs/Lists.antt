-- Lists by what stands at each place.
use Rattle.std.proofs.Common.{◌≡◌, ◌<◌, ◌+◌, ◌-◌, inl, inr, ℕ, zero, suc, List, [], ◌∷◌, ◌++◌, length, slice_get, refl, sym, ap, ◌∙◌, subst, arith}
use Rattle.std.proofs.Common.{length-append}
use Rattle.std.proofs.lemmas.Bool.{cases_lt}
use Rattle.std.proofs.lemmas.Option.{same_Some}

pub get-left : {A : Type 0} (xs ys : List A) (i : ℕ) → i < length xs → slice_get (xs ++ ys) i ≡ slice_get xs i
get-left [] ys i l = absurd (omega (arith, l))
get-left (x ∷ xs) ys zero l = refl
get-left (x ∷ xs) ys (suc i) l = get-left xs ys i (omega (arith, l))

pub get-right : {A : Type 0} (xs ys : List A) (i : ℕ) → slice_get (xs ++ ys) (length xs + i) ≡ slice_get ys i
get-right [] ys i = let e : 0 + i ≡ i = omega arith in ap (slice_get ys) e
get-right (x ∷ xs) ys i =
    let e : length (x ∷ xs) + i ≡ suc (length xs + i) = omega arith in
    ap (slice_get (x ∷ (xs ++ ys))) e ∙ get-right xs ys i

-- lists of one length with the same at each place
pub same-within : {A : Type 0} (zs ys : List A) → length zs ≡ length ys → ((i : ℕ) → i < length ys → slice_get zs i ≡ slice_get ys i) → zs ≡ ys
same-within [] [] n h = refl
same-within [] (y ∷ ys) n h = absurd (omega (arith, n))
same-within (z ∷ zs) [] n h = absurd (omega (arith, n))
same-within (z ∷ zs) (y ∷ ys) n h =
    let e : z ≡ y = same_Some z y (h 0 (omega arith)) in
    ap (λ x. x ∷ zs) e ∙ ap (λ xs. y ∷ xs) (same-within zs ys (omega (arith, n)) (λ i l. h (suc i) (omega (arith, l))))

-- a list that has at its places what stands in the one, and behind it what stands in the other
pub append-by : {A : Type 0} (zs xs ys : List A) → length zs ≡ length xs + length ys
    → ((i : ℕ) → i < length xs → slice_get zs i ≡ slice_get xs i)
    → ((i : ℕ) → i < length ys → slice_get zs (length xs + i) ≡ slice_get ys i) → zs ≡ xs ++ ys
append-by zs xs ys n a b =
    same-within zs (xs ++ ys) (n ∙ sym (length-append xs ys)) (λ i l. elim (cases_lt i (length xs)) [
      | inl lt ↦ a i lt ∙ sym (get-left xs ys i lt)
      | inr le ↦
          let e : length xs + (i - length xs) ≡ i = omega (arith, le) in
          subst (λ j. slice_get zs j ≡ slice_get (xs ++ ys) j) e
          (b (i - length xs) (omega (arith, l, le, length-append xs ys)) ∙ sym (get-right xs ys (i - length xs)))
    ])
