-- Where the contents with which a behaviour begins stand in its store, and how their regions are numbered.
use Rattle.std.proofs.Common.{◌≡◌, refl, sym, ◌∙◌, ap, subst, ◌⊎◌, inl, inr, ℕ, zero, suc, ◌+◌, ◌-◌, ◌<◌, ◌≤◌, List, [], ◌∷◌, ◌++◌, length, map, Some}
use Rattle.std.proofs.Common.{option_map, slice_get, arith}
use Rattle.std.proofs.lemmas.Bool.{cases_eq}
use Rattle.std.proofs.lemmas.List.{length-map, length-append}
use Rattle.std.proofs.lemmas.Option.{same_Some, slice_get-map}
use Rattle.rg_base.specs.declared.object.Seen.{Seen}
use Rattle.rg_base.specs.declared.value.Val.{Val}
use Rattle.rg_base.specs.declared.value.Val.TheVariants.{Obj}
use Rattle.rg_sound.proofs.Basics.{none-some}
use Rattle.rg_cown.specs.declared.cargo.CargoCell.{CargoCell}
use Rattle.rg_cown.specs.Cargo.{CargoList}
use Rattle.rg_cown.proofs.SoundParts.{less_or_not}
use Rattle.rg_opening.specs.declared.given.Given.{Given}
use Rattle.rg_opening.specs.declared.given.Given.TheVariants.{Start, Held}
use Rattle.rg_opening.specs.Opening.{object_from, field_values, content_objects, content_managers}

-- so many objects stand in front of the content of a field, and so many regions

abbrev pub objects_before : (objects : ℕ) → List Given → (field : ℕ) → ℕ
objects_before n [] k = n
objects_before n (Start v ∷ gs) zero = n
objects_before n (Start v ∷ gs) (suc k) = objects_before n gs k
objects_before n (Held c ∷ gs) zero = n
objects_before n (Held c ∷ gs) (suc k) = objects_before (n + length c.cells) gs k

abbrev pub regions_before : (regions : ℕ) → List Given → (field : ℕ) → ℕ
regions_before r [] k = r
regions_before r (Start v ∷ gs) zero = r
regions_before r (Start v ∷ gs) (suc k) = regions_before r gs k
regions_before r (Held c ∷ gs) zero = r
regions_before r (Held c ∷ gs) (suc k) = regions_before (r + length c.managers) gs k

-- an object of the store is one of a field's content
pub record IsContent (n r : ℕ) (gs : List Given) (a : ℕ) (o : Seen) : Type 0 where
  pub field : ℕ
  pub content : CargoList
  pub held : slice_get gs field ≡ Some (Held content)
  pub place : ℕ
  pub cell : CargoCell
  pub cell_is : slice_get content.cells place ≡ Some cell
  pub address : a ≡ objects_before n gs field + place
  pub object : o ≡ object_from (objects_before n gs field) (regions_before r gs field) cell

-- Lists

get-left : {A : Type 0} (xs ys : List A) (i : ℕ) (x : A) → slice_get xs i ≡ Some x → slice_get (xs ++ ys) i ≡ Some x
get-left [] ys i x h = none-some h
get-left (y ∷ xs) ys zero x h = h
get-left (y ∷ xs) ys (suc i) x h = get-left xs ys i x h

get-right : {A : Type 0} (xs ys : List A) (i j : ℕ) → j ≡ length xs + i → slice_get (xs ++ ys) j ≡ slice_get ys i
get-right [] ys i j e = ap (slice_get ys) (omega (arith, e))
get-right (x ∷ xs) ys i zero e = absurd (omega (arith, e))
get-right (x ∷ xs) ys i (suc j) e = get-right xs ys i j (omega (arith, e))

get-split : {A : Type 0} (xs ys : List A) (j : ℕ) (x : A) → slice_get (xs ++ ys) j ≡ Some x
    → (slice_get xs j ≡ Some x) ⊎ ((i : ℕ) × (j ≡ length xs + i) × (slice_get ys i ≡ Some x))
get-split [] ys j x h = inr (j, omega arith, h)
get-split (y ∷ xs) ys zero x h = inl h
get-split (y ∷ xs) ys (suc j) x h = elim (get-split xs ys j x h) [ inl a ↦ inl a | inr b ↦ inr (b.0, omega (arith, b.1), b.2) ]

pub get-mapped : {A B : Type 0} (f : A → B) (xs : List A) (j : ℕ) (y : B) → slice_get (map f xs) j ≡ Some y
    → (x : A) × (slice_get xs j ≡ Some x) × (y ≡ f x)
get-mapped f [] j y h = none-some h
get-mapped f (x ∷ xs) zero y h = (x, refl, sym (same_Some (f x) y h))
get-mapped f (x ∷ xs) (suc j) y h = get-mapped f xs j y h

get-map : {A B : Type 0} (f : A → B) (xs : List A) (j : ℕ) (x : A) → slice_get xs j ≡ Some x → slice_get (map f xs) j ≡ Some (f x)
get-map f xs j x h = slice_get-map f xs j ∙ ap (option_map f) h

-- What fields begin with

start-held : {B : Type 0} (v : Val) (c : CargoList) → Some (Start v) ≡ Some (Held c) → B
start-held v c e = absurd cc

held-same : (c d : CargoList) → Some (Held c) ≡ Some (Held d) → c ≡ d
held-same c d e = cc

-- Objects

pub objects_before-more : (n : ℕ) (gs : List Given) (k : ℕ) → n ≤ objects_before n gs k
objects_before-more n [] k = omega arith
objects_before-more n (Start v ∷ gs) zero = omega arith
objects_before-more n (Start v ∷ gs) (suc k) = objects_before-more n gs k
objects_before-more n (Held c ∷ gs) zero = omega arith
objects_before-more n (Held c ∷ gs) (suc k) = let l = objects_before-more (n + length c.cells) gs k in omega (arith, l)

-- the object of a content
pub content-there : (n r : ℕ) (gs : List Given) (k j i : ℕ) (c : CargoList) (o : CargoCell) → slice_get gs k ≡ Some (Held c)
    → slice_get c.cells j ≡ Some o → n + i ≡ objects_before n gs k + j
    → slice_get (content_objects n r gs) i ≡ Some (object_from (objects_before n gs k) (regions_before r gs k) o)
content-there n r [] k j i c o at here e = none-some at
content-there n r (Start v ∷ gs) zero j i c o at here e = start-held v c at
content-there n r (Start v ∷ gs) (suc k) j i c o at here e = content-there n r gs k j i c o at here e
content-there n r (Held d ∷ gs) zero j i c o at here e =
    let f = object_from n r in
    let behind = content_objects (n + length d.cells) (r + length d.managers) gs in
    let P : CargoList → Type 0 = λ q. slice_get q.cells j ≡ Some o in
    let mine : slice_get d.cells j ≡ Some o = subst P (sym (held-same d c at)) here in
    let Q : ℕ → Type 0 = λ q. slice_get (map f d.cells ++ behind) q ≡ Some (f o) in
    subst Q (omega (arith, e)) (get-left (map f d.cells) behind j (f o) (get-map f d.cells j o mine))
content-there n r (Held d ∷ gs) (suc k) j i c o at here e =
    let f = object_from n r in
    let more = objects_before-more (n + length d.cells) gs k in
    let many = length-map d.cells f in
    get-right (map f d.cells) (content_objects (n + length d.cells) (r + length d.managers) gs) (i - length d.cells) i (omega (arith, more, many, e))
    ∙ content-there (n + length d.cells) (r + length d.managers) gs k j (i - length d.cells) c o at here (omega (arith, more, e))

-- whose object it is
pub content-back : (n r : ℕ) (gs : List Given) (i : ℕ) (o : Seen) → slice_get (content_objects n r gs) i ≡ Some o → IsContent n r gs (n + i) o
content-back n r [] i o h = none-some h
content-back n r (Start v ∷ gs) i o h =
    let c = content-back n r gs i o h in
    record {
      field = suc c.field;
      content = c.content;
      held = c.held;
      place = c.place;
      cell = c.cell;
      cell_is = c.cell_is;
      address = c.address;
      object = c.object;
    }
content-back n r (Held d ∷ gs) i o h =
    elim (get-split (map (object_from n r) d.cells) (content_objects (n + length d.cells) (r + length d.managers) gs) i o h) [
      | inl a ↦
          let m = get-mapped (object_from n r) d.cells i o a in
          record { field = 0; content = d; held = refl; place = i; cell = m.0; cell_is = m.1; address = refl; object = m.2 }
      | inr b ↦
          let c = content-back (n + length d.cells) (r + length d.managers) gs b.0 o b.2 in
          let many = length-map d.cells (object_from n r) in
          let is = b.1 in
          let at = c.address in
          record {
            field = suc c.field;
            content = c.content;
            held = c.held;
            place = c.place;
            cell = c.cell;
            cell_is = c.cell_is;
            address = omega (arith, many, is, at);
            object = c.object;
          }
    ]

-- Fields

pub value-held : (n : ℕ) (gs : List Given) (k : ℕ) (c : CargoList) → slice_get gs k ≡ Some (Held c)
    → slice_get (field_values n gs) k ≡ Some (Obj (objects_before n gs k))
value-held n [] k c at = none-some at
value-held n (Start v ∷ gs) zero c at = start-held v c at
value-held n (Start v ∷ gs) (suc k) c at = value-held n gs k c at
value-held n (Held d ∷ gs) zero c at = refl
value-held n (Held d ∷ gs) (suc k) c at = value-held (n + length d.cells) gs k c at

pub value-back : (n : ℕ) (gs : List Given) (k : ℕ) (v : Val) → slice_get (field_values n gs) k ≡ Some v
    → (slice_get gs k ≡ Some (Start v)) ⊎ ((c : CargoList) × (slice_get gs k ≡ Some (Held c)) × (v ≡ Obj (objects_before n gs k)))
value-back n [] k v h = none-some h
value-back n (Start w ∷ gs) zero v h = inl (ap (λ q. Some (Start q)) (same_Some w v h))
value-back n (Start w ∷ gs) (suc k) v h = value-back n gs k v h
value-back n (Held c ∷ gs) zero v h = inr (c, refl, sym (same_Some (Obj n) v h))
value-back n (Held c ∷ gs) (suc k) v h = value-back (n + length c.cells) gs k v h

-- Regions

pub regions_before-more : (r : ℕ) (gs : List Given) (k : ℕ) → r ≤ regions_before r gs k
regions_before-more r [] k = omega arith
regions_before-more r (Start v ∷ gs) zero = omega arith
regions_before-more r (Start v ∷ gs) (suc k) = regions_before-more r gs k
regions_before-more r (Held c ∷ gs) zero = omega arith
regions_before-more r (Held c ∷ gs) (suc k) = let l = regions_before-more (r + length c.managers) gs k in omega (arith, l)

-- a content's regions stand in front of those of each later one
regions_before-next : (r : ℕ) (gs : List Given) (k j : ℕ) (c : CargoList) → slice_get gs k ≡ Some (Held c) → k < j
    → regions_before r gs k + length c.managers ≤ regions_before r gs j
regions_before-next r [] k j c at l = none-some at
regions_before-next r (Start v ∷ gs) zero j c at l = start-held v c at
regions_before-next r (Start v ∷ gs) (suc k) zero c at l = absurd (omega (arith, l))
regions_before-next r (Start v ∷ gs) (suc k) (suc j) c at l = regions_before-next r gs k j c at (omega (arith, l))
regions_before-next r (Held d ∷ gs) zero zero c at l = absurd (omega (arith, l))
regions_before-next r (Held d ∷ gs) zero (suc j) c at l =
    let many = ap (λ (q : CargoList). length q.managers) (held-same d c at) in
    let more = regions_before-more (r + length d.managers) gs j in
    omega (arith, many, more)
regions_before-next r (Held d ∷ gs) (suc k) zero c at l = absurd (omega (arith, l))
regions_before-next r (Held d ∷ gs) (suc k) (suc j) c at l = regions_before-next (r + length d.managers) gs k j c at (omega (arith, l))

-- a region is one of a single content
pub regions-apart : (r : ℕ) (gs : List Given) (k j : ℕ) (c d : CargoList) (p q : ℕ) → slice_get gs k ≡ Some (Held c) → slice_get gs j ≡ Some (Held d)
    → p < length c.managers → q < length d.managers → regions_before r gs k + p ≡ regions_before r gs j + q → k ≡ j
regions-apart r gs k j c d p q at there less low same = elim (cases_eq k j) [
  | inl e ↦ e
  | inr apart ↦ elim (less_or_not k j) [
    | inl t ↦ let l = regions_before-next r gs k j c at t.1 in absurd (omega (arith, l, less, same))
    | inr t ↦ let l = regions_before-next r gs j k d there (omega (arith, apart, t.1)) in absurd (omega (arith, l, low, same))
  ]
]

-- and has a manager
pub regions-within : (r : ℕ) (gs : List Given) (k : ℕ) (c : CargoList) → slice_get gs k ≡ Some (Held c)
    → regions_before r gs k + length c.managers ≤ r + length (content_managers gs)
regions-within r [] k c at = none-some at
regions-within r (Start v ∷ gs) zero c at = start-held v c at
regions-within r (Start v ∷ gs) (suc k) c at = regions-within r gs k c at
regions-within r (Held d ∷ gs) zero c at =
    let many = ap (λ (q : CargoList). length q.managers) (held-same d c at) in
    let all = length-append d.managers (content_managers gs) in
    omega (arith, many, all)
regions-within r (Held d ∷ gs) (suc k) c at =
    let later = regions-within (r + length d.managers) gs k c at in
    let all = length-append d.managers (content_managers gs) in
    omega (arith, later, all)
