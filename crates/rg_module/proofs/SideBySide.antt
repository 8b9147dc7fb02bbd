-- Instructions beside their maps.
use Rattle.std.proofs.Common.{◌≡◌, ℕ, zero, suc, ◌+◌, ◌≤◌, List, [], ◌∷◌, ◌++◌, length, zip, take, slice_get}
use Rattle.std.proofs.Common.{Some, refl, sym, ap, subst, ◌∙◌, min, append_assoc, arith}
use Rattle.std.specs.List.{flat_map, AllByRecursion}
use Rattle.std.proofs.lemmas.List.{take_more, take_all, append-nil, length-append}
use Rattle.std.proofs.lemmas.Slice.Zip.{length-zip}
use Rattle.std.proofs.lemmas.List.Concat.{flat_map-append}
use Rattle.std.proofs.lemmas.Option.{get_or_from_slice_get, slice_get_within}
use Rattle.rg_base.specs.declared.ty.Ty.{Ty}
use Rattle.rg_code.specs.declared.op.Op.{Op}
use Rattle.rg_code.specs.Code.{Code, empty, with_op}
use Rattle.rg_module.specs.Parts.{Parts}
use Rattle.rg_module.specs.Inner.Rows.{IsBare}
use Rattle.rg_spell.specs.Spelling.{four, counted, row_bytes, FitsRow}
use Rattle.rg_module.specs.Spelling.{rows_of, IsSpelt}

-- an element of each list, side by side
pub zip-get : {A B : Type 0} (xs : List A) (ys : List B) (n : ℕ) (x : A) (y : B) → slice_get xs n ≡ Some x → slice_get ys n ≡ Some y
    → slice_get (zip xs ys) n ≡ Some (x, y)
zip-get [] ys n x y e f = absurd cc
zip-get (a ∷ xs) [] n x y e f = absurd cc
zip-get (a ∷ xs) (b ∷ ys) zero x y e f = cc
zip-get (a ∷ xs) (b ∷ ys) (suc n) x y e f = zip-get xs ys n x y e f

-- one more of both
pub zip-push : {A B : Type 0} (xs : List A) (ys : List B) (x : A) (y : B) → length ys ≡ length xs → zip (xs ++ x ∷ []) (ys ++ y ∷ []) ≡ zip xs ys
    ++ (x, y) ∷ []
zip-push [] [] x y e = refl
zip-push [] (b ∷ ys) x y e = absurd (omega (arith, e))
zip-push (a ∷ xs) [] x y e = absurd (omega (arith, e))
zip-push (a ∷ xs) (b ∷ ys) x y e = let less : length ys ≡ length xs = omega (arith, e) in ap (λ zs. (a, b) ∷ zs) (zip-push xs ys x y less)

-- what holds of each element
pub each : {A : Type 0} (P : A → Type 0) (xs : List A) (n : ℕ) (x : A) → AllByRecursion P xs → slice_get xs n ≡ Some x → P x
each P [] n x all e = absurd cc
each P (a ∷ xs) zero x all e = let same : a ≡ x = cc in subst P same all.0
each P (a ∷ xs) (suc n) x all e = each P xs n x all.1 e

-- one more piece
pub one_piece : {A : Type 0} (f : A → List ℕ) (xs : List A) (n : ℕ) (x : A) → slice_get xs n ≡ Some x → flat_map f (take (n + 1) xs)
    ≡ flat_map f (take n xs) ++ (f x ++ [])
one_piece f xs n x e =
    let more : take (n + 1) xs ≡ take n xs ++ x ∷ [] = take_more xs n x (slice_get_within xs n x e)
    ∙ ap (λ y. take n xs ++ y ∷ []) (get_or_from_slice_get xs n x x e) in
    ap (flat_map f) more ∙ flat_map-append f (take n xs) (x ∷ [])

-- as many rows as instructions
pub rows-length : (m : Parts) → length m.maps ≡ length m.code.ops → length (rows_of m) ≡ length m.code.ops
rows-length m e = length-zip m.code.ops m.maps ∙ least (length m.code.ops) (length m.maps) e
  where
    least : (n k : ℕ) → k ≡ n → min n k ≡ n
    least n k e = omega (arith, e)

-- the row at an address fits
pub row-fits : (m : Parts) (at : ℕ) (o : Op) (ts : List Ty) → IsSpelt m → slice_get m.code.ops at ≡ Some o → slice_get m.maps at ≡ Some ts
    → FitsRow (o, ts)
row-fits m at o ts spelt e f = each FitsRow (rows_of m) at (o, ts) spelt.rows.1 (zip-get m.code.ops m.maps at o ts e f)

-- one row more is written
pub row-written : (m : Parts) (front out new : List ℕ) (at : ℕ) (o : Op) (ts : List Ty) → slice_get m.code.ops at ≡ Some o → slice_get m.maps at
    ≡ Some ts
    → out ≡ front ++ flat_map row_bytes (take at (rows_of m)) → new ≡ out ++ row_bytes (o, ts) → new ≡ front
    ++ flat_map row_bytes (take (at + 1) (rows_of m))
row-written m front out new at o ts e f before now =
    let more = one_piece row_bytes (rows_of m) at (o, ts) (zip-get m.code.ops m.maps at o ts e f) in
    now ∙ ap (λ (y : List ℕ). y ++ row_bytes (o, ts)) before
    ∙ append_assoc front (flat_map row_bytes (take at (rows_of m))) (row_bytes (o, ts))
    ∙ ap (λ (y : List ℕ). front ++ y) (ap (λ (z : List ℕ). flat_map row_bytes (take at (rows_of m)) ++ z) (sym (append-nil (row_bytes (o, ts))))
    ∙ sym more)

-- the count is written, and no row yet
pub rows-start : (m : Parts) (front out : List ℕ) (count : ℕ) → length m.maps ≡ length m.code.ops → count ≡ length m.code.ops → out ≡ front
    ++ four count
    → out ≡ (front ++ four (length (rows_of m))) ++ flat_map row_bytes (take 0 (rows_of m))
rows-start m front out count e n is =
    is ∙ ap (λ (k : ℕ). front ++ four k) (n ∙ sym (rows-length m e)) ∙ sym (append-nil (front ++ four (length (rows_of m))))

-- all rows are written
pub rows-end : (m : Parts) (front out : List ℕ) (at : ℕ) → length m.maps ≡ length m.code.ops → length m.code.ops ≤ at
    → out ≡ (front ++ four (length (rows_of m))) ++ flat_map row_bytes (take at (rows_of m)) → out ≡ front ++ counted row_bytes (rows_of m)
rows-end m front out at e le is =
    let all : take at (rows_of m) ≡ rows_of m = take_all at (rows_of m) (omega (arith, le, rows-length m e)) in
    is ∙ ap (λ (rs : List (Op × List Ty)). (front ++ four (length (rows_of m))) ++ flat_map row_bytes rs) all
    ∙ append_assoc front (four (length (rows_of m))) (flat_map row_bytes (rows_of m))

-- one instruction more is read, with its map
pub bare-push : (c new : Code) (maps news : List (List Ty)) (o : Op) (ts : List Ty) → IsBare c maps → new ≡ with_op c o → news ≡ maps ++ ts ∷ []
    → IsBare new news
bare-push c new maps news o ts now is more =
    let ops-are : new.ops ≡ c.ops ++ o ∷ [] = ap (λ (d : Code). d.ops) is in
    let longer : length (maps ++ ts ∷ []) ≡ length (c.ops ++ o ∷ []) =
    length-append maps (ts ∷ []) ∙ ap (λ (n : ℕ). n + 1) now.even ∙ sym (length-append c.ops (o ∷ [])) in
    record {
      even = ap length more ∙ longer ∙ ap length (sym ops-are);
      bare = is ∙ ap (λ (d : Code). record d { ops = c.ops ++ o ∷ [] }) now.bare ∙ ap (λ (os : List Op). record empty { ops = os }) (sym ops-are);
    }

pub rows-push : (c new : Code) (maps news : List (List Ty)) (o : Op) (ts : List Ty) → IsBare c maps → new ≡ with_op c o → news ≡ maps ++ ts ∷ []
    → zip new.ops news ≡ zip c.ops maps ++ (o, ts) ∷ []
rows-push c new maps news o ts now is more =
    ap (λ (d : Code). zip d.ops news) is ∙ ap (λ (ms : List (List Ty)). zip (c.ops ++ o ∷ []) ms) more ∙ zip-push c.ops maps o ts now.even
