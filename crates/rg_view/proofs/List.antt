-- Lists by what stands at each place, and lists made from numbers.
use Rattle.std.proofs.Common.{◌≡◌, ◌≤◌, ◌<◌, ℕ, zero, suc, ◌+◌, List, [], ◌∷◌, ◌++◌, map}
use Rattle.std.proofs.Common.{slice_get, refl, ap, ◌∙◌, arith}
use Rattle.std.specs.List.{range_with_len}
use Rattle.std.proofs.lemmas.Option.{same_Some}
use Rattle.std.proofs.lemmas.List.{map-append}

pub same_lists : {A : Type 0} → (xs ys : List A) → ((i : ℕ) → slice_get xs i ≡ slice_get ys i) → xs ≡ ys
same_lists [] [] h = refl
same_lists [] (y ∷ ys) h = let e = h 0 in absurd cc
same_lists (x ∷ xs) [] h = let e = h 0 in absurd cc
same_lists (x ∷ xs) (y ∷ ys) h =
    let e : x ≡ y = same_Some x y (h 0) in
    ap (λ z. z ∷ xs) e ∙ ap (λ zs. y ∷ zs) (same_lists xs ys (λ i. h (suc i)))

-- the same function on some numbers
pub map-numbers : {A : Type 0} → (f g : ℕ → A) (a n : ℕ) → ((i : ℕ) → a ≤ i → i < a + n → f i ≡ g i)
    → map f (range_with_len a n) ≡ map g (range_with_len a n)
map-numbers f g a zero h = refl
map-numbers f g a (suc n) h =
    ap (λ z. z ∷ map f (range_with_len (a + 1) n)) (h a (omega arith) (omega arith))
    ∙ ap (λ zs. g a ∷ zs) (map-numbers f g (a + 1) n (λ i le lt. h i (omega (arith, le)) (omega (arith, lt))))

pub map-map : {A B : Type 0} → (f : ℕ → A) (g : A → B) (ns : List ℕ) → map g (map f ns) ≡ map (λ n. g (f n)) ns
map-map f g [] = refl
map-map f g (n ∷ ns) = ap (λ zs. g (f n) ∷ zs) (map-map f g ns)

-- one number more
numbers-last : (a n j : ℕ) → a + n ≡ j → range_with_len a (suc n) ≡ range_with_len a n ++ j ∷ []
numbers-last a zero j e = let same : a ≡ j = omega (arith, e) in ap (λ k. k ∷ []) same
numbers-last a (suc n) j e = ap (λ l. a ∷ l) (numbers-last (a + 1) n j (omega (arith, e)))

pub map-more : {A : Type 0} → (f : ℕ → A) (n m : ℕ) → m ≡ n + 1
    → map f (range_with_len 0 m) ≡ map f (range_with_len 0 n) ++ f n ∷ []
map-more f n m e =
    let on : m ≡ suc n = omega (arith, e) in
    let z : 0 + n ≡ n = omega arith in
    ap (λ k. map f (range_with_len 0 k)) on ∙ ap (map f) (numbers-last 0 n n z) ∙ map-append f (range_with_len 0 n) (n ∷ [])
