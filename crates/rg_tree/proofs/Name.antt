-- Names by their numbers, and keys that are seen as their bytes.
use Rattle.std.proofs.Common.{◌≡◌, ℕ, ◌+◌, Bool, true, false, cond, not, List, [], ◌∷◌, ◌++◌, map, length, get_or, position, None, Some, Option, ◌≢◌}
use Rattle.std.proofs.Common.{◌<◌, if◌then◌else◌, is_some, slice_get, bytes_eq, refl, sym, ap, ◌∙◌, arith}
use Rattle.std.specs.List.{list_any, position_or_len}
use Rattle.std.proofs.lemmas.List.Sums.{prefix_len-le-length, prefix_len_passes}
use Rattle.std.proofs.lemmas.List.Folds.{position_or_len_push}
use Rattle.std.proofs.lemmas.List.Quantifiers.{position-Some, all_pairs_push}
use Rattle.std.proofs.lemmas.List.{map-append, length-map, length-append}
use Rattle.std.proofs.lemmas.Option.{slice_get-get_or}
use Rattle.std.proofs.lemmas.Slice.Eq.{bytes_eq-Decides}
use Rattle.rg_tree.specs.Rows.Tables.{number_of, with_name, AreDistinct}

-- what is nowhere has the length for its place
absent_is_length : {X : Type 0} (p : X → Bool) (xs : List X) → position p xs ≡ None → position_or_len p xs ≡ length xs
absent_is_length p xs h = grind (arith, prefix_len-le-length (λ x. not (p x)) xs)

module _ {X : Type 0} (f : X → List ℕ) where
  position_or_len-map : (p : List ℕ → Bool) (xs : List X) → position_or_len p (map f xs) ≡ position_or_len (λ x. p (f x)) xs
  position_or_len-map p [] = refl
  position_or_len-map p (x ∷ xs) = ap (λ n. cond (not (p (f x))) (1 + n) 0) (position_or_len-map p xs)

  -- a name is looked for among the keys as among their bytes
  pub position-map : (p : List ℕ → Bool) (xs : List X) → position p (map f xs) ≡ position (λ x. p (f x)) xs
  position-map p xs = rw (position_or_len-map p xs, length-map xs f) refl

  absent_key : (p : X → Bool) (xs : List X) → position p xs ≡ None → list_any p xs ≡ false
  absent_key p xs h = absent p xs (absent_is_length p xs h)
    where
      absent : (p : X → Bool) (xs : List X) → position_or_len p xs ≡ length xs → list_any p xs ≡ false
      absent p [] h = refl
      absent p (x ∷ xs) h = grind (arith, absent p xs)

  -- an absent key goes last, so its name does
  pub map-insert_new : (xs : List X) (k : X) → number_of (map f xs) (f k) ≡ None
      → map f (cond (list_any (λ x. bytes_eq (f k) (f x)) xs) xs (xs ++ k ∷ [])) ≡ map f xs ++ f k ∷ []
  map-insert_new xs k h =
      rw (absent_key (λ x. bytes_eq (f k) (f x)) xs (sym (position-map (bytes_eq (f k)) xs) ∙ h)) (map-append f xs (k ∷ []))

-- a name that isn't there differs from each
differs : (names : List (List ℕ)) (name : List ℕ) → number_of names name ≡ None → (k : ℕ) (d : List ℕ) → k < length names → get_or names k d ≢ name
differs names name h k d l e =
    let none : position_or_len (bytes_eq name) names ≡ length names = absent_is_length (bytes_eq name) names h in
    let apart = prefix_len_passes (λ x. not (bytes_eq name x)) names k d (omega arith) in
    let same : bytes_eq name (get_or names k d) ≡ true = (bytes_eq-Decides name (get_or names k d)).1 (sym e) in
    cc

-- names that differ stay so with one more
pub AreDistinct-with_name : (names : List (List ℕ)) (name : List ℕ) → AreDistinct names → AreDistinct (with_name names name)
AreDistinct-with_name names name h = by (number_of names name) refl
  where
    by : (o : Option ℕ) → number_of names name ≡ o → AreDistinct (if is_some (number_of names name) then names else names ++ name ∷ [])
    by None e = rw e (all_pairs_push (λ a b. a ≢ b) names name h (differs names name e))
    by (Some i) e = rw e h

-- the name at a number
pub slice_get-number_of : (names : List (List ℕ)) (name : List ℕ) (i : ℕ) → number_of names name ≡ Some i → slice_get names i ≡ Some name
slice_get-number_of names name i h =
    let p = position-Some (bytes_eq name) names i [] h in
    slice_get-get_or names i [] p.0 ∙ ap Some (sym ((bytes_eq-Decides name (get_or names i [])).0 p.1))

-- a new name's number is the length
pub number_of-new : (names : List (List ℕ)) (name : List ℕ) → number_of names name ≡ None → number_of (names ++ name ∷ []) name ≡ Some (length names)
number_of-new names name h =
    let last : position_or_len (bytes_eq name) names ≡ length names = absent_is_length (bytes_eq name) names h in
    let same : bytes_eq name name ≡ true = (bytes_eq-Decides name name).1 refl in
    grind (arith, position_or_len_push (bytes_eq name) names name, length-append names (name ∷ []))
