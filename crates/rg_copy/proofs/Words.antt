-- Lists of words that are changed one by one (docs/architecture.md, "A manager that moves its cells").
use Rattle.std.proofs.Common.{◌≡◌, ℕ, ◌+◌, zero, suc, List, [], ◌∷◌, length, map, Some, refl, ap, sym, ◌∙◌}
use Rattle.std.proofs.Common.{slice_get, set, take, drop, arith}
use Rattle.std.proofs.lemmas.Option.{same_Some}
use Rattle.rg_base.specs.declared.value.Word.{Word}
use Rattle.rg_copy.specs.Inner.Moves.{first_changed, changed_from}

-- the next word is as it was
pub first-get : (f : Word → Word) (k : ℕ) (xs : List Word) → slice_get (first_changed f k xs) k ≡ slice_get xs k
first-get f zero xs = refl
first-get f (suc k) [] = refl
first-get f (suc k) (x ∷ xs) = first-get f k xs

-- .. and is changed
pub first-set : (f : Word → Word) (k : ℕ) (xs : List Word) (w : Word) → slice_get xs k ≡ Some w
    → set (first_changed f k xs) k (f w) ≡ first_changed f (suc k) xs
first-set f zero [] w e = cc
first-set f zero (x ∷ xs) w e = ap (λ y. f y ∷ xs) (sym (same_Some x w e))
first-set f (suc k) [] w e = cc
first-set f (suc k) (x ∷ xs) w e = ap (λ ys. f x ∷ ys) (first-set f k xs w e)

-- a word that stays needs no write
pub first-skip : (f : Word → Word) (k : ℕ) (xs : List Word) (w : Word) → slice_get xs k ≡ Some w → f w ≡ w
    → first_changed f (suc k) xs ≡ first_changed f k xs
first-skip f zero [] w e q = cc
first-skip f zero (x ∷ xs) w e q =
    let z : x ≡ w = same_Some x w e in ap (λ y. y ∷ xs) (ap f z ∙ q ∙ sym z)
first-skip f (suc k) [] w e q = cc
first-skip f (suc k) (x ∷ xs) w e q = ap (λ ys. f x ∷ ys) (first-skip f k xs w e q)

pub first-all : (f : Word → Word) (xs : List Word) → first_changed f (length xs) xs ≡ map f xs
first-all f [] = refl
first-all f (x ∷ xs) = ap (λ ys. f x ∷ ys) (first-all f xs)

pub first-length : (f : Word → Word) (k : ℕ) (xs : List Word) → length (first_changed f k xs) ≡ length xs
first-length f zero xs = refl
first-length f (suc k) [] = refl
first-length f (suc k) (x ∷ xs) = ap suc (first-length f k xs)

-- the same from a place on
pub from-none : (f : Word → Word) (b : ℕ) (xs : List Word) → changed_from f b zero xs ≡ xs
from-none f zero xs = refl
from-none f (suc b) [] = refl
from-none f (suc b) (x ∷ xs) = ap (λ ys. x ∷ ys) (from-none f b xs)

pub from-get : (f : Word → Word) (b k : ℕ) (xs : List Word)
    → slice_get (drop b (changed_from f b k xs)) k ≡ slice_get (drop b xs) k
from-get f zero k xs = first-get f k xs
from-get f (suc b) k [] = refl
from-get f (suc b) k (x ∷ xs) = from-get f b k xs

pub from-set : (f : Word → Word) (b k i : ℕ) (xs : List Word) (w : Word) → i ≡ b + k → slice_get (drop b xs) k ≡ Some w
    → set (changed_from f b k xs) i (f w) ≡ changed_from f b (suc k) xs
from-set f zero k i xs w q e =
    let z : i ≡ k = omega (arith, q) in
    ap (λ j. set (first_changed f k xs) j (f w)) z ∙ first-set f k xs w e
from-set f (suc b) k i [] w q e = cc
from-set f (suc b) k zero (x ∷ xs) w q e = absurd (omega (arith, q))
from-set f (suc b) k (suc i) (x ∷ xs) w q e =
    let z : i ≡ b + k = omega (arith, q) in
    ap (λ ys. x ∷ ys) (from-set f b k i xs w z e)

pub from-skip : (f : Word → Word) (b k : ℕ) (xs : List Word) (w : Word) → slice_get (drop b xs) k ≡ Some w → f w ≡ w
    → changed_from f b (suc k) xs ≡ changed_from f b k xs
from-skip f zero k xs w e q = first-skip f k xs w e q
from-skip f (suc b) k [] w e q = refl
from-skip f (suc b) k (x ∷ xs) w e q = ap (λ ys. x ∷ ys) (from-skip f b k xs w e q)

pub from-drop : (f : Word → Word) (b : ℕ) (xs : List Word)
    → drop b (changed_from f b (length (drop b xs)) xs) ≡ map f (drop b xs)
from-drop f zero xs = first-all f xs
from-drop f (suc b) [] = refl
from-drop f (suc b) (x ∷ xs) = from-drop f b xs

pub from-take : (f : Word → Word) (b k : ℕ) (xs : List Word) → take b (changed_from f b k xs) ≡ take b xs
from-take f zero k xs = refl
from-take f (suc b) k [] = refl
from-take f (suc b) k (x ∷ xs) = ap (λ ys. x ∷ ys) (from-take f b k xs)

pub from-length : (f : Word → Word) (b k : ℕ) (xs : List Word)
    → length (drop b (changed_from f b k xs)) ≡ length (drop b xs)
from-length f zero k xs = first-length f k xs
from-length f (suc b) k [] = refl
from-length f (suc b) k (x ∷ xs) = from-length f b k xs

-- changes that agree
pub map-agree : (f g : Word → Word) → ((w : Word) → f w ≡ g w) → (xs : List Word) → map f xs ≡ map g xs
map-agree f g h [] = refl
map-agree f g h (x ∷ xs) = ap (λ y. y ∷ map f xs) (h x) ∙ ap (λ ys. g x ∷ ys) (map-agree f g h xs)
