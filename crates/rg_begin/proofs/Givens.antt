-- One field more of what a behaviour begins with.
use Rattle.std.proofs.Common.{◌≡◌, ℕ, zero, suc, ◌+◌, List, [], ◌∷◌, ◌++◌, length, map, take, drop, Some, slice_get, slice_set}
use Rattle.std.proofs.Common.{refl, sym, ap, ◌∙◌, arith, append_assoc, length-append}
use Rattle.std.proofs.lemmas.List.{append-nil, length-map}
use Rattle.std.proofs.lemmas.Option.{none-some, same_Some}
use Rattle.rg_base.specs.declared.object.Seen.{Seen}
use Rattle.rg_base.specs.declared.words.Manager.{Manager}
use Rattle.rg_base.specs.declared.value.Val.{Val}
use Rattle.rg_base.specs.declared.value.Val.TheVariants.{Obj}
use Rattle.rg_cown.specs.Cargo.{CargoList}
use Rattle.rg_opening.specs.declared.given.Given.{Given}
use Rattle.rg_opening.specs.declared.given.Given.TheVariants.{Start, Held}
use Rattle.rg_opening.specs.Opening.{object_from, field_values, content_objects, content_managers}

-- Lists

pub take-one : {A : Type 0} (xs : List A) (k : ℕ) (x : A) → slice_get xs k ≡ Some x → take (suc k) xs ≡ take k xs ++ x ∷ []
take-one [] k x e = absurd (none-some x e)
take-one (y ∷ ys) zero x e = ap (λ z. z ∷ []) (same_Some y x e)
take-one (y ∷ ys) (suc k) x e = ap (λ zs. y ∷ zs) (take-one ys k x e)

pub drop-one : {A : Type 0} (xs : List A) (k : ℕ) (x : A) → slice_get xs k ≡ Some x → drop k xs ≡ x ∷ drop (suc k) xs
drop-one [] k x e = absurd (none-some x e)
drop-one (y ∷ ys) zero x e = ap (λ z. z ∷ ys) (same_Some y x e)
drop-one (y ∷ ys) (suc k) x e = drop-one ys k x e

pub take-length : {A : Type 0} (xs : List A) (k : ℕ) (x : A) → slice_get xs k ≡ Some x → length (take k xs) ≡ k
take-length [] k x e = absurd (none-some x e)
take-length (y ∷ ys) zero x e = refl
take-length (y ∷ ys) (suc k) x e = ap suc (take-length ys k x e)

pub take-whole : {A : Type 0} (xs : List A) → take (length xs) xs ≡ xs
take-whole [] = refl
take-whole (x ∷ xs) = ap (λ ys. x ∷ ys) (take-whole xs)

pub drop-whole : {A : Type 0} (xs : List A) → drop (length xs) xs ≡ []
drop-whole [] = refl
drop-whole (x ∷ xs) = drop-whole xs

pub set-behind : {A : Type 0} (xs ys : List A) (x y : A) → slice_set (xs ++ x ∷ ys) (length xs) y ≡ xs ++ y ∷ ys
set-behind [] ys x y = refl
set-behind (z ∷ zs) ys x y = ap (λ us. z ∷ us) (set-behind zs ys x y)

pub get-behind : {A : Type 0} (xs ys : List A) (x : A) → slice_get (xs ++ x ∷ ys) (length xs) ≡ Some x
get-behind [] ys x = refl
get-behind (z ∷ zs) ys x = get-behind zs ys x

-- How many objects and regions stand in front of what comes next

abbrev pub objects_behind : (objects : ℕ) → List Given → ℕ
objects_behind n [] = n
objects_behind n (Start v ∷ gs) = objects_behind n gs
objects_behind n (Held c ∷ gs) = objects_behind (n + length c.cells) gs

abbrev pub regions_behind : (regions : ℕ) → List Given → ℕ
regions_behind r [] = r
regions_behind r (Start v ∷ gs) = regions_behind r gs
regions_behind r (Held c ∷ gs) = regions_behind (r + length c.managers) gs

pub objects-many : (n r : ℕ) (gs : List Given) → objects_behind n gs ≡ n + length (content_objects n r gs)
objects-many n r [] = omega arith
objects-many n r (Start v ∷ gs) = objects-many n r gs
objects-many n r (Held c ∷ gs) =
    let f = object_from n r in
    let rest = content_objects (n + length c.cells) (r + length c.managers) gs in
    let on = objects-many (n + length c.cells) (r + length c.managers) gs in
    omega (arith, on, length-append (map f c.cells) rest, length-map c.cells f)

pub regions-many : (r : ℕ) (gs : List Given) → regions_behind r gs ≡ r + length (content_managers gs)
regions-many r [] = omega arith
regions-many r (Start v ∷ gs) = regions-many r gs
regions-many r (Held c ∷ gs) =
    let on = regions-many (r + length c.managers) gs in
    omega (arith, on, length-append c.managers (content_managers gs))

-- One more

pub values-length : (n : ℕ) (gs : List Given) → length (field_values n gs) ≡ length gs
values-length n [] = refl
values-length n (Start v ∷ gs) = ap suc (values-length n gs)
values-length n (Held c ∷ gs) = ap suc (values-length (n + length c.cells) gs)

pub values-start : (n : ℕ) (gs : List Given) (v : Val) → field_values n (gs ++ Start v ∷ []) ≡ field_values n gs ++ v ∷ []
values-start n [] v = refl
values-start n (Start w ∷ gs) v = ap (λ vs. w ∷ vs) (values-start n gs v)
values-start n (Held d ∷ gs) v = ap (λ vs. Obj n ∷ vs) (values-start (n + length d.cells) gs v)

pub values-held : (n : ℕ) (gs : List Given) (c : CargoList)
    → field_values n (gs ++ Held c ∷ []) ≡ field_values n gs ++ Obj (objects_behind n gs) ∷ []
values-held n [] c = refl
values-held n (Start w ∷ gs) c = ap (λ vs. w ∷ vs) (values-held n gs c)
values-held n (Held d ∷ gs) c = ap (λ vs. Obj n ∷ vs) (values-held (n + length d.cells) gs c)

pub objects-start : (n r : ℕ) (gs : List Given) (v : Val) → content_objects n r (gs ++ Start v ∷ []) ≡ content_objects n r gs
objects-start n r [] v = refl
objects-start n r (Start w ∷ gs) v = objects-start n r gs v
objects-start n r (Held d ∷ gs) v =
    ap (λ (os : List Seen). map (object_from n r) d.cells ++ os) (objects-start (n + length d.cells) (r + length d.managers) gs v)

pub objects-held : (n r : ℕ) (gs : List Given) (c : CargoList) → content_objects n r (gs ++ Held c ∷ [])
    ≡ content_objects n r gs ++ map (object_from (objects_behind n gs) (regions_behind r gs)) c.cells
objects-held n r [] c = append-nil (map (object_from n r) c.cells)
objects-held n r (Start w ∷ gs) c = objects-held n r gs c
objects-held n r (Held d ∷ gs) c =
    let m = n + length d.cells in
    let q = r + length d.managers in
    ap (λ (os : List Seen). map (object_from n r) d.cells ++ os) (objects-held m q gs c)
    ∙ sym (append_assoc (map (object_from n r) d.cells) (content_objects m q gs)
    (map (object_from (objects_behind m gs) (regions_behind q gs)) c.cells))

pub managers-start : (gs : List Given) (v : Val) → content_managers (gs ++ Start v ∷ []) ≡ content_managers gs
managers-start [] v = refl
managers-start (Start w ∷ gs) v = managers-start gs v
managers-start (Held d ∷ gs) v = ap (λ (ms : List Manager). d.managers ++ ms) (managers-start gs v)

pub managers-held : (gs : List Given) (c : CargoList) → content_managers (gs ++ Held c ∷ []) ≡ content_managers gs ++ c.managers
managers-held [] c = append-nil c.managers
managers-held (Start w ∷ gs) c = managers-held gs c
managers-held (Held d ∷ gs) c =
    ap (λ (ms : List Manager). d.managers ++ ms) (managers-held gs c) ∙ sym (append_assoc d.managers (content_managers gs) c.managers)
