-- Elements of lists: of one that is written, that grows, that ends, and how many pass a test. For crates above too.
use Rattle.std.proofs.Common.{◌≡◌, ℕ, zero, suc, ◌+◌, ◌<◌, ◌≤◌, ◌⊎◌, inl, inr, true, false, true≢false, Bool as Truth, List, [], ◌∷◌, ◌++◌}
use Rattle.std.proofs.Common.{length, replicate, take, drop, reverse, Some, None, refl, sym, ap, ◌∙◌, arith, slice_get, slice_set}
use Rattle.std.specs.Prelude.{sum_by, count_by, cond, ◌||◌}
use Rattle.std.specs.List.{list_any}
use Rattle.std.proofs.lemmas.List.Sums.{sum_by-cons}
use Rattle.std.proofs.lemmas.List.{reverse-append}
use Rattle.std.proofs.lemmas.Option.{same_Some}
use Rattle.std.proofs.lemmas.Map.Keys.{any_passes_from_place}
use Rattle.rg_tree.proofs.TreesFrom.{slice_get-push}
use Rattle.rg_stack.proofs.Basics.{none-some}

pub off : {B : Type 0} → false ≡ true → B
off e = absurd (true≢false (sym e))

-- an element of a written list is the new one, or was there
pub set-back : {A : Type 0} (xs : List A) (i j : ℕ) (v u : A) → slice_get (slice_set xs i v) j ≡ Some u
    → ((i ≡ j) × (u ≡ v)) ⊎ (slice_get xs j ≡ Some u)
set-back [] i j v u e = inr e
set-back (x ∷ xs) zero zero v u e = inl (refl, same_Some u v (sym e))
set-back (x ∷ xs) zero (suc j) v u e = inr e
set-back (x ∷ xs) (suc i) zero v u e = inr e
set-back (x ∷ xs) (suc i) (suc j) v u e = elim (set-back xs i j v u e) [ inl h ↦ inl (ap suc h.0, h.1) | inr h ↦ inr h ]

-- the new one is there, and the others stay
pub set-new : {A : Type 0} (xs : List A) (i : ℕ) (v : A) → i < length xs → slice_get (slice_set xs i v) i ≡ Some v
set-new [] i v h = absurd (omega (arith, h))
set-new (x ∷ xs) zero v h = refl
set-new (x ∷ xs) (suc i) v h = let less : i < length xs = omega (arith, h) in set-new xs i v less

pub set-old : {A : Type 0} (xs : List A) (i j : ℕ) (v u : A) → slice_get xs j ≡ Some u → (i ≡ j) ⊎ (slice_get (slice_set xs i v) j ≡ Some u)
set-old [] i j v u e = inr e
set-old (x ∷ xs) zero zero v u e = inl refl
set-old (x ∷ xs) zero (suc j) v u e = inr e
set-old (x ∷ xs) (suc i) zero v u e = inr e
set-old (x ∷ xs) (suc i) (suc j) v u e = elim (set-old xs i j v u e) [ inl h ↦ inl (ap suc h) | inr h ↦ inr h ]

pub set-apart : {A : Type 0} (xs : List A) (i j : ℕ) (v : A) → (i ≡ j → ⊥) → slice_get (slice_set xs i v) j ≡ slice_get xs j
set-apart [] i j v h = refl
set-apart (x ∷ xs) zero zero v h = absurd (h refl)
set-apart (x ∷ xs) zero (suc j) v h = refl
set-apart (x ∷ xs) (suc i) zero v h = refl
set-apart (x ∷ xs) (suc i) (suc j) v h = set-apart xs i j v (λ e. h (ap suc e))

-- the written one, or another
pub set-other : {A : Type 0} (xs : List A) (i j : ℕ) (v u : A) → slice_get (slice_set xs i v) j ≡ Some u
    → (u ≡ v) ⊎ ((slice_get xs j ≡ Some u) × (i ≡ j → ⊥))
set-other [] i j v u e = none-some u e
set-other (x ∷ xs) zero zero v u e = inl (same_Some u v (sym e))
set-other (x ∷ xs) zero (suc j) v u e = inr (e, λ h. omega (arith, h))
set-other (x ∷ xs) (suc i) zero v u e = inr (e, λ h. omega (arith, h))
set-other (x ∷ xs) (suc i) (suc j) v u e = elim (set-other xs i j v u e) [
  | inl h ↦ inl h
  | inr h ↦ (let n = h.1 in inr (h.0, λ d. n (omega (arith, d))))
]

-- an element of a list with one more is the last, or was there
pub push-back : {A : Type 0} (xs : List A) (y u : A) (j : ℕ) → slice_get (xs ++ y ∷ []) j ≡ Some u
    → ((j ≡ length xs) × (u ≡ y)) ⊎ (slice_get xs j ≡ Some u)
push-back [] y u zero e = inl (refl, same_Some u y (sym e))
push-back [] y u (suc j) e = none-some u e
push-back (x ∷ xs) y u zero e = inr e
push-back (x ∷ xs) y u (suc j) e = elim (push-back xs y u j e) [
  | inl h ↦ (let n : suc j ≡ length (x ∷ xs) = (let a = h.0 in omega (arith, a)) in inl (n, h.1))
  | inr h ↦ inr h
]

pub push-old : {A : Type 0} (xs : List A) (y u : A) (j : ℕ) → slice_get xs j ≡ Some u → slice_get (xs ++ y ∷ []) j ≡ Some u
push-old [] y u j e = none-some u e
push-old (x ∷ xs) y u zero e = e
push-old (x ∷ xs) y u (suc j) e = push-old xs y u j e

pub push-below : {A : Type 0} (xs : List A) (y : A) (j : ℕ) → j < length xs → slice_get (xs ++ y ∷ []) j ≡ slice_get xs j
push-below [] y j h = absurd (omega (arith, h))
push-below (x ∷ xs) y zero h = refl
push-below (x ∷ xs) y (suc j) h = let less : j < length xs = omega (arith, h) in push-below xs y j less

pub push-past : {A : Type 0} (xs : List A) (y : A) (j : ℕ) → length xs < j → slice_get (xs ++ y ∷ []) j ≡ None
push-past [] y zero h = absurd (omega (arith, h))
push-past [] y (suc j) h = refl
push-past (x ∷ xs) y zero h = absurd (omega (arith, h))
push-past (x ∷ xs) y (suc j) h = let less : length xs < j = omega (arith, h) in push-past xs y j less

-- an element of a list that ends at a place and goes on with the same is that, or stands in front
pub ended-back : {A : Type 0} (xs : List A) (n k j : ℕ) (d u : A) → slice_get (take n xs ++ replicate k d) j ≡ Some u
    → (u ≡ d) ⊎ ((slice_get xs j ≡ Some u) × (j < n))
ended-back xs zero k j d u e = inl (same k j e)
  where
    same : (k j : ℕ) → slice_get (replicate k d) j ≡ Some u → u ≡ d
    same zero j e = none-some u e
    same (suc k) zero e = same_Some u d (sym e)
    same (suc k) (suc j) e = same k j e
ended-back [] (suc n) k j d u e = inl (same k j e)
  where
    same : (k j : ℕ) → slice_get (replicate k d) j ≡ Some u → u ≡ d
    same zero j e = none-some u e
    same (suc k) zero e = same_Some u d (sym e)
    same (suc k) (suc j) e = same k j e
ended-back (x ∷ xs) (suc n) k zero d u e = inr (e, omega arith)
ended-back (x ∷ xs) (suc n) k (suc j) d u e = elim (ended-back xs n k j d u e) [
  | inl h ↦ inl h
  | inr h ↦ (let a = h.1 in inr (h.0, omega (arith, a)))
]

pub ended-front : {A : Type 0} (xs : List A) (n k j : ℕ) (d u : A) → slice_get xs j ≡ Some u → j < n
    → slice_get (take n xs ++ replicate k d) j ≡ Some u
ended-front xs zero k j d u e h = absurd (omega (arith, h))
ended-front [] (suc n) k j d u e h = none-some u e
ended-front (x ∷ xs) (suc n) k zero d u e h = e
ended-front (x ∷ xs) (suc n) k (suc j) d u e h = let less : j < n = omega (arith, h) in ended-front xs n k j d u e less

-- elements behind a place
pub drop-at : {A : Type 0} (xs : List A) (n j : ℕ) (u : A) → slice_get xs j ≡ Some u → (j < n) ⊎ ((i : ℕ) × (slice_get (drop n xs) i ≡ Some u))
drop-at xs zero j u e = inr (j, e)
drop-at [] (suc n) j u e = none-some u e
drop-at (x ∷ xs) (suc n) zero u e = inl (omega arith)
drop-at (x ∷ xs) (suc n) (suc j) u e = elim (drop-at xs n j u e) [ inl h ↦ inl (omega (arith, h)) | inr h ↦ inr h ]

pub drop-back : {A : Type 0} (xs : List A) (n i : ℕ) (u : A) → slice_get (drop n xs) i ≡ Some u
    → (j : ℕ) × (slice_get xs j ≡ Some u) × (n ≤ j)
drop-back xs zero i u e = (i, e, omega arith)
drop-back [] (suc n) i u e = none-some u e
drop-back (x ∷ xs) (suc n) i u e = let h = drop-back xs n i u e in let a = h.2 in (suc h.0, h.1, omega (arith, a))

-- elements of a list that is turned round, and of two lists behind each other

pub reverse-cons : {A : Type 0} (x : A) (xs : List A) → reverse (x ∷ xs) ≡ reverse xs ++ x ∷ []
reverse-cons x xs = reverse-append (x ∷ []) xs

pub reverse-back : {A : Type 0} (xs : List A) (i : ℕ) (u : A) → slice_get (reverse xs) i ≡ Some u → (j : ℕ) × (slice_get xs j ≡ Some u)
reverse-back [] i u e = none-some u e
reverse-back (x ∷ xs) i u e = elim (push-back (reverse xs) x u i (ap (λ l. slice_get l i) (sym (reverse-cons x xs)) ∙ e)) [
  | inl h ↦ (0, ap Some (sym h.1))
  | inr h ↦ (let r = reverse-back xs i u h in (suc r.0, r.1))
]

pub reverse-in : {A : Type 0} (xs : List A) (j : ℕ) (u : A) → slice_get xs j ≡ Some u → (i : ℕ) × (slice_get (reverse xs) i ≡ Some u)
reverse-in [] j u e = none-some u e
reverse-in (x ∷ xs) zero u e =
    (length (reverse xs), ap (λ l. slice_get l (length (reverse xs))) (reverse-cons x xs) ∙ slice_get-push (reverse xs) x ∙ e)
reverse-in (x ∷ xs) (suc j) u e =
    let h = reverse-in xs j u e in (h.0, ap (λ l. slice_get l h.0) (reverse-cons x xs) ∙ push-old (reverse xs) x u h.0 h.1)

pub append-back : {A : Type 0} (xs ys : List A) (i : ℕ) (u : A) → slice_get (xs ++ ys) i ≡ Some u
    → ((j : ℕ) × (slice_get xs j ≡ Some u)) ⊎ ((j : ℕ) × (slice_get ys j ≡ Some u))
append-back [] ys i u e = inr (i, e)
append-back (x ∷ xs) ys zero u e = inl (0, e)
append-back (x ∷ xs) ys (suc i) u e = elim (append-back xs ys i u e) [ inl h ↦ inl (suc h.0, h.1) | inr h ↦ inr h ]

pub append-left : {A : Type 0} (xs ys : List A) (i : ℕ) (u : A) → slice_get xs i ≡ Some u → slice_get (xs ++ ys) i ≡ Some u
append-left [] ys i u e = none-some u e
append-left (x ∷ xs) ys zero u e = e
append-left (x ∷ xs) ys (suc i) u e = append-left xs ys i u e

pub replicate-back : {A : Type 0} (k j : ℕ) (d u : A) → slice_get (replicate k d) j ≡ Some u → u ≡ d
replicate-back zero j d u e = none-some u e
replicate-back (suc k) zero d u e = same_Some u d (sym e)
replicate-back (suc k) (suc j) d u e = replicate-back k j d u e

pub take-whole : {A : Type 0} (xs : List A) (n : ℕ) → length xs ≡ n → take n xs ≡ xs
take-whole [] zero e = refl
take-whole [] (suc n) e = refl
take-whole (x ∷ xs) zero e = absurd (omega (arith, e))
take-whole (x ∷ xs) (suc n) e = ap (λ l. x ∷ l) (take-whole xs n (omega (arith, e)))

-- counts

pub sum-one : {A : Type 0} (f : A → ℕ) (xs : List A) (i : ℕ) (x : A) → slice_get xs i ≡ Some x → f x ≤ sum_by f xs
sum-one f [] i x e = none-some x e
sum-one f (y ∷ ys) zero x e = let c = sum_by-cons f y ys in let s : f y ≡ f x = ap f (same_Some y x e) in omega (arith, c, s)
sum-one f (y ∷ ys) (suc i) x e = let c = sum_by-cons f y ys in let h = sum-one f ys i x e in omega (arith, c, h)

pub sum-two : {A : Type 0} (f : A → ℕ) (xs : List A) (i j : ℕ) (x y : A) → slice_get xs i ≡ Some x → slice_get xs j ≡ Some y
    → (i ≡ j) ⊎ (f x + f y ≤ sum_by f xs)
sum-two f [] i j x y e d = none-some x e
sum-two f (z ∷ zs) zero zero x y e d = inl refl
sum-two f (z ∷ zs) zero (suc j) x y e d =
    let c = sum_by-cons f z zs in let s : f z ≡ f x = ap f (same_Some z x e) in let h = sum-one f zs j y d in inr (omega (arith, c, s, h))
sum-two f (z ∷ zs) (suc i) zero x y e d =
    let c = sum_by-cons f z zs in let s : f z ≡ f y = ap f (same_Some z y d) in let h = sum-one f zs i x e in inr (omega (arith, c, s, h))
sum-two f (z ∷ zs) (suc i) (suc j) x y e d = elim (sum-two f zs i j x y e d) [
  | inl same ↦ inl (ap suc same)
  | inr h ↦ (let c = sum_by-cons f z zs in inr (omega (arith, c, h)))
]

one : (b : Truth) → b ≡ true → ◌≡◌ {A = ℕ} (cond b 1 0) 1
one true e = refl
one false e = off e

pub count-one : {A : Type 0} (p : A → Truth) (xs : List A) (i : ℕ) (x : A) → slice_get xs i ≡ Some x → p x ≡ true → 1 ≤ count_by p xs
count-one p xs i x e t = let h = sum-one (λ x. cond (p x) 1 0) xs i x e in let o = one (p x) t in omega (arith, h, o)

pub count-two : {A : Type 0} (p : A → Truth) (xs : List A) (i j : ℕ) (x y : A) → slice_get xs i ≡ Some x → slice_get xs j ≡ Some y
    → p x ≡ true → p y ≡ true → (i ≡ j) ⊎ (2 ≤ count_by p xs)
count-two p xs i j x y e d t s = elim (sum-two (λ x. cond (p x) 1 0) xs i j x y e d) [
  | inl same ↦ inl same
  | inr h ↦ (let o = one (p x) t in let q = one (p y) s in inr (omega (arith, h, o, q)))
]

-- a test that one of some passes
pub any-at : {A : Type 0} (p : A → Truth) (xs : List A) → list_any p xs ≡ true → (i : ℕ) × ((x : A) × (slice_get xs i ≡ Some x) × (p x ≡ true))
any-at {A = A} p [] e = off e
any-at {A = A} p (x ∷ xs) e = by (p x) refl e (any-at p xs)
  where
    by : (b : Truth) → p x ≡ b → (b || list_any p xs) ≡ true
        → (list_any p xs ≡ true → (i : ℕ) × ((y : A) × (slice_get xs i ≡ Some y) × (p y ≡ true)))
        → (i : ℕ) × ((y : A) × (slice_get (x ∷ xs) i ≡ Some y) × (p y ≡ true))
    by true t e rest = (0, (x, refl, t))
    by false t e rest = let h = rest e in (suc h.0, h.1)

pub any-left : {A : Type 0} (p : A → Truth) (xs ys : List A) → list_any p xs ≡ true → list_any p (xs ++ ys) ≡ true
any-left p xs ys e = let h = any-at p xs e in any_passes_from_place p (xs ++ ys) h.0 h.1.0 (append-left xs ys h.0 h.1.0 h.1.1) h.1.2

pub any-right : {A : Type 0} (p : A → Truth) (xs ys : List A) → list_any p ys ≡ true → list_any p (xs ++ ys) ≡ true
any-right p [] ys e = e
any-right p (x ∷ xs) ys e = by (p x) (any-right p xs ys e)
  where
    by : (b : Truth) → list_any p (xs ++ ys) ≡ true → (b || list_any p (xs ++ ys)) ≡ true
    by true h = refl
    by false h = h

pub any-split : {A : Type 0} (p : A → Truth) (xs ys : List A) → list_any p (xs ++ ys) ≡ true → (list_any p xs ≡ true) ⊎ (list_any p ys ≡ true)
any-split p xs ys e = let h = any-at p (xs ++ ys) e in elim (append-back xs ys h.0 h.1.0 h.1.1) [
  | inl l ↦ inl (any_passes_from_place p xs l.0 h.1.0 l.1 h.1.2)
  | inr r ↦ inr (any_passes_from_place p ys r.0 h.1.0 r.1 h.1.2)
]
