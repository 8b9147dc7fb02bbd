-- Lists by the element at each place.
use Rattle.std.proofs.Common.{◌≡◌, ◌≢◌, ℕ, ◌<◌, zero, suc, List, [], ◌∷◌, ◌++◌, length, map, Some, None, get_or, set, refl, ap, sym, ◌∙◌}
use Rattle.std.specs.Prelude.{slice_get, option_map}
use Rattle.std.proofs.lemmas.Option.{same_Some, slice_get_within, get_or_from_slice_get, slice_get-get_or}

-- lists with the same element at each place are one
pub list-ext : {X : Type 0} (xs ys : List X) → ((i : ℕ) → slice_get xs i ≡ slice_get ys i) → xs ≡ ys
list-ext [] [] h = refl
list-ext [] (y ∷ ys) h = let e : None ≡ Some y = h 0 in cc
list-ext (x ∷ xs) [] h = let e : Some x ≡ None = h 0 in cc
list-ext (x ∷ xs) (y ∷ ys) h =
    ap (λ z. z ∷ xs) (same_Some x y (h 0)) ∙ ap (λ zs. y ∷ zs) (list-ext xs ys (λ i. h (suc i)))

pub get-map : {X Y : Type 0} (f : X → Y) (xs : List X) (i : ℕ) → slice_get (map f xs) i ≡ option_map f (slice_get xs i)
get-map f [] i = refl
get-map f (x ∷ xs) zero = refl
get-map f (x ∷ xs) (suc i) = get-map f xs i

pub get-same : {X : Type 0} (xs : List X) (i : ℕ) (x v : X) → slice_get xs i ≡ Some x → slice_get (set xs i v) i ≡ Some v
get-same [] i x v e = let no : None ≡ Some x = e in cc
get-same (y ∷ xs) zero x v e = refl
get-same (y ∷ xs) (suc i) x v e = get-same xs i x v e

pub get-other : {X : Type 0} (xs : List X) (i k : ℕ) (v : X) → k ≢ i → slice_get (set xs i v) k ≡ slice_get xs k
get-other [] i k v d = refl
get-other (x ∷ xs) zero zero v d = absurd (d refl)
get-other (x ∷ xs) zero (suc k) v d = refl
get-other (x ∷ xs) (suc i) zero v d = refl
get-other (x ∷ xs) (suc i) (suc k) v d = get-other xs i k v (λ e. d (ap suc e))

-- a list that is written as it was
pub set-as_was : {X : Type 0} (xs : List X) (i : ℕ) (x : X) → slice_get xs i ≡ Some x → set xs i x ≡ xs
set-as_was [] i x e = refl
set-as_was (y ∷ xs) zero x e = ap (λ z. z ∷ xs) (sym (same_Some y x e))
set-as_was (y ∷ xs) (suc i) x e = ap (λ zs. y ∷ zs) (set-as_was xs i x e)

pub get-end : {X : Type 0} (xs : List X) (x : X) → slice_get (xs ++ x ∷ []) (length xs) ≡ Some x
get-end [] x = refl
get-end (y ∷ xs) x = get-end xs x

pub get-before : {X : Type 0} (xs : List X) (x : X) (i : ℕ) → i ≢ length xs → slice_get (xs ++ x ∷ []) i ≡ slice_get xs i
get-before [] x zero d = absurd (d refl)
get-before [] x (suc i) d = refl
get-before (y ∷ xs) x zero d = refl
get-before (y ∷ xs) x (suc i) d = get-before xs x i (λ e. d (ap suc e))

pub get-past : {X : Type 0} (xs : List X) → slice_get xs (length xs) ≡ None
get-past [] = refl
get-past (x ∷ xs) = get-past xs

pub within : {X : Type 0} (xs : List X) (i : ℕ) (x : X) → slice_get xs i ≡ Some x → i < length xs
within xs i x e = slice_get_within xs i x e

-- an element that was read by its index
pub got : {X : Type 0} (xs : List X) (i : ℕ) (x : X) → i < length xs → x ≡ get_or xs i x → slice_get xs i ≡ Some x
got xs i x l e = slice_get-get_or xs i x l ∙ ap Some (sym e)

-- a map's list, read by a default
pub or-map : {X Y : Type 0} (f : X → Y) (d : Y) (xs : List X) (i : ℕ) (x : X) → slice_get xs i ≡ Some x → get_or (map f xs) i d ≡ f x
or-map f d xs i x e = get_or_from_slice_get (map f xs) i (f x) d (get-map f xs i ∙ ap (option_map f) e)

-- lists of which a place reads the same, by a default, too
pub or-same : {X : Type 0} (xs ys : List X) (i : ℕ) (d : X) → slice_get xs i ≡ slice_get ys i → get_or xs i d ≡ get_or ys i d
or-same [] [] i d e = refl
or-same [] (y ∷ ys) zero d e = let no : None ≡ Some y = e in cc
or-same [] (y ∷ ys) (suc i) d e = or-same [] ys i d e
or-same (x ∷ xs) [] zero d e = let no : Some x ≡ None = e in cc
or-same (x ∷ xs) [] (suc i) d e = or-same xs [] i d e
or-same (x ∷ xs) (y ∷ ys) zero d e = same_Some x y e
or-same (x ∷ xs) (y ∷ ys) (suc i) d e = or-same xs ys i d e

-- a map of a list that is written where it maps the same
pub map-kept : {X Y : Type 0} (f : X → Y) (xs : List X) (i : ℕ) (x v : X) → slice_get xs i ≡ Some x → f v ≡ f x → map f (set xs i v) ≡ map f xs
map-kept f [] i x v e h = refl
map-kept f (y ∷ xs) zero x v e h = ap (λ z. z ∷ map f xs) (h ∙ ap f (sym (same_Some y x e)))
map-kept f (y ∷ xs) (suc i) x v e h = ap (λ zs. f y ∷ zs) (map-kept f xs i x v e h)
