-- What is left of a list, the elements that are there, and what holds of all.
use Rattle.std.proofs.Common.{◌≡◌, ℕ, zero, suc, ◌+◌, ◌<◌, List, [], ◌∷◌, ◌++◌, All, map, length, drop, slice_get, Some, refl, ap}
use Rattle.std.proofs.Common.{◌∙◌, append_assoc, arith}
use Rattle.std.proofs.lemmas.List.{length_push}
use Rattle.std.proofs.lemmas.List.Elements.{All-nil, All-cons, All-head, All-tail}

-- the next element, and what is left behind it
pub drop-get : {X : Type 0} (xs : List X) (i : ℕ) (x : X) → slice_get xs i ≡ Some x → drop i xs ≡ x ∷ drop (suc i) xs
drop-get [] i x h = grind arith
drop-get (y ∷ ys) zero x h = let e : y ≡ x = grind arith in rw e refl
drop-get (y ∷ ys) (suc i) x h = drop-get ys i x h

-- the same, behind it at its number and one
pub drop-here : {X : Type 0} (xs : List X) (i : ℕ) (x : X) → slice_get xs i ≡ Some x → drop i xs ≡ x ∷ drop (i + 1) xs
drop-here xs i x h = let one : suc i ≡ i + 1 = omega arith in drop-get xs i x h ∙ ap (λ n. x ∷ drop n xs) one

-- what is done gains the next element
pub push-rest : {X : Type 0} (done rest all : List X) (x : X) → done ++ x ∷ rest ≡ all → (done ++ x ∷ []) ++ rest ≡ all
push-rest done rest all x h = rw append_assoc h

-- an element of each index within the list
pub there : {X : Type 0} (xs : List X) (i : ℕ) → i < length xs → (x : X) × (slice_get xs i ≡ Some x)
there [] i l = absurd (omega arith)
there (x ∷ xs) zero l = (x, refl)
there (x ∷ xs) (suc i) l = there xs i (omega arith)

-- the number of the element that was put last
pub below : {R : Type 0} (old new : List R) (r : R) (n : ℕ) → new ≡ old ++ r ∷ [] → n ≡ length old → n < length new
below old new r n e l = omega (arith, ap length e, length_push old r)

-- what holds of all values of a function
pub All-unmap : {X Y : Type 0} (P : X → Type 0) (f : Y → X) (ys : List Y) → All P (map f ys) → All (λ y. P (f y)) ys
All-unmap P f [] all = All-nil (λ y. P (f y))
All-unmap P f (y ∷ ys) all =
    All-cons (λ y. P (f y)) y ys (All-head P (f y) (map f ys) all) (All-unmap P f ys (All-tail P (f y) (map f ys) all))
