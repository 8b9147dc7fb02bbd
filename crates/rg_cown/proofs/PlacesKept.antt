-- What is read, in its last form: each object with the numbers that all has which is met (docs/architecture.md, "Cargo").
use Rattle.std.proofs.Common.{◌≡◌, ℕ, zero, suc, ◌+◌, ◌<◌, ◌≤◌, ◌⊎◌, inl, inr, Bool as Truth, true, false, ◌||◌, if◌then◌else◌, cond, List, [], ◌∷◌}
use Rattle.std.proofs.Common.{◌++◌, map}
use Rattle.std.proofs.Common.{length, Option, Some, None, slice_get, refl, sym, ap, ◌∙◌, subst, arith}
use Rattle.std.specs.Prelude.{nat_eq, not}
use Rattle.std.specs.List.{list_any, position_or_len}
use Rattle.std.proofs.lemmas.Option.{same_Some, slice_get_within}
use Rattle.std.proofs.lemmas.Bool.Decides.{eqb_tells}
use Rattle.indexmap.specs.IndexSet.{insert_key}
use Rattle.rg_base.specs.declared.object.Label.{Label}
use Rattle.rg_base.specs.declared.object.Label.TheVariants.{Region, Temp, Frozen}
use Rattle.rg_base.specs.declared.object.Seen.{Seen}
use Rattle.rg_base.specs.declared.value.Val.{Val}
use Rattle.rg_base.specs.declared.value.Val.TheVariants.{Nil, Int, Bool, Obj}
use Rattle.rg_regions.proofs.Callers.CellComes.{old_one}
use Rattle.rg_cown.specs.declared.cargo.CargoCell.{CargoCell}
use Rattle.rg_cown.specs.Contents.{Reading, met, new_value, all_met, new_fields, region_met, new_label, with_object, read_on}

-- Lists that go on

-- what stands in a list stays at its place
pub record Longer (xs ys : List ℕ) : Type 0 where
  pub there : (k x : ℕ) → slice_get xs k ≡ Some x → slice_get ys k ≡ Some x
  pub has : (a : ℕ) → list_any (nat_eq a) xs ≡ true → list_any (nat_eq a) ys ≡ true
  pub number : (a : ℕ) → list_any (nat_eq a) xs ≡ true → position_or_len (nat_eq a) ys ≡ position_or_len (nat_eq a) xs

pub longer_same : (xs : List ℕ) → Longer xs xs
longer_same xs = record { there = λ k x e. e; has = λ a e. e; number = λ a e. refl }

pub longer_on : (xs ys zs : List ℕ) → Longer xs ys → Longer ys zs → Longer xs zs
longer_on xs ys zs f g = record {
  there = λ k x e. g.there k x (f.there k x e);
  has = λ a e. g.has a (f.has a e);
  number = λ a e. g.number a (f.has a e) ∙ f.number a e;
}

any_pushed : (p : ℕ → Truth) (xs : List ℕ) (y : ℕ) → list_any p xs ≡ true → list_any p (xs ++ y ∷ []) ≡ true
any_pushed p [] y e = cc
any_pushed p (x ∷ xs) y e = by (p x) e (any_pushed p xs y)
  where
    by : (b : Truth) → b || list_any p xs ≡ true → (list_any p xs ≡ true → list_any p (xs ++ y ∷ []) ≡ true) → b || list_any p (xs ++ y ∷ []) ≡ true
    by true e on = refl
    by false e on = on e

number_pushed : (p : ℕ → Truth) (xs : List ℕ) (y : ℕ) → list_any p xs ≡ true → position_or_len p (xs ++ y ∷ []) ≡ position_or_len p xs
number_pushed p [] y e = cc
number_pushed p (x ∷ xs) y e = by (p x) e (number_pushed p xs y)
  where
    by : (b : Truth) → b || list_any p xs ≡ true → (list_any p xs ≡ true → position_or_len p (xs ++ y ∷ []) ≡ position_or_len p xs)
        → cond {A = ℕ} (not b) (1 + position_or_len p (xs ++ y ∷ [])) 0 ≡ cond {A = ℕ} (not b) (1 + position_or_len p xs) 0
    by true e on = refl
    by false e on = ap (λ z. 1 + z) (on e)

-- what is pushed has the number that it was given
number_last : (a : ℕ) (xs : List ℕ) → position_or_len (nat_eq a) (xs ++ a ∷ []) ≡ position_or_len (nat_eq a) xs
number_last a [] = elim (eqb_tells a a) [ inl t ↦ ap (λ b. cond {A = ℕ} (not b) 1 0) t.0 | inr t ↦ absurd (t.1 refl) ]
number_last a (x ∷ xs) = ap (λ z. cond {A = ℕ} (not (nat_eq a x)) (1 + z) 0) (number_last a xs)

last_in : (a : ℕ) (xs : List ℕ) → list_any (nat_eq a) (xs ++ a ∷ []) ≡ true
last_in a [] = elim (eqb_tells a a) [ inl t ↦ ap (λ b. b || false) t.0 | inr t ↦ absurd (t.1 refl) ]
last_in a (x ∷ xs) = by (nat_eq a x) (last_in a xs)
  where
    by : (b : Truth) {c : Truth} → c ≡ true → b || c ≡ true
    by true e = refl
    by false e = e

key_longer : (xs : List ℕ) (a : ℕ) → Longer xs (insert_key nat_eq xs a)
key_longer xs a = by (list_any (nat_eq a) xs)
  where
    by : (b : Truth) → Longer xs (if b then xs else xs ++ a ∷ [])
    by true = longer_same xs
    by false = record {
      there = λ k x e. old_one xs a k x e;
      has = λ c e. any_pushed (nat_eq c) xs a e;
      number = λ c e. number_pushed (nat_eq c) xs a e;
    }

key_in : (xs : List ℕ) (a : ℕ) → list_any (nat_eq a) (insert_key nat_eq xs a) ≡ true
key_in xs a = by (list_any (nat_eq a) xs) refl
  where
    by : (b : Truth) → list_any (nat_eq a) xs ≡ b → list_any (nat_eq a) (if b then xs else xs ++ a ∷ []) ≡ true
    by true e = e
    by false e = last_in a xs

key_number : (xs : List ℕ) (a : ℕ) → position_or_len (nat_eq a) (insert_key nat_eq xs a) ≡ position_or_len (nat_eq a) xs
key_number xs a = by (list_any (nat_eq a) xs)
  where
    by : (b : Truth) → position_or_len (nat_eq a) (if b then xs else xs ++ a ∷ []) ≡ position_or_len (nat_eq a) xs
    by true = refl
    by false = number_last a xs

-- the number that a key gets is the one that it has at the end
number_kept : (xs end : List ℕ) (a : ℕ) → Longer (insert_key nat_eq xs a) end → position_or_len (nat_eq a) xs ≡ position_or_len (nat_eq a) end
number_kept xs end a l = sym (l.number a (key_in xs a) ∙ key_number xs a)

-- Objects

met_longer : (v : Val) (order : List ℕ) → Longer order (met order v)
met_longer Nil order = longer_same order
met_longer (Int i) order = longer_same order
met_longer (Bool b) order = longer_same order
met_longer (Obj a) order = key_longer order a

pub all_longer : (vs : List Val) (order : List ℕ) → Longer order (all_met order vs)
all_longer [] order = longer_same order
all_longer (v ∷ vs) order =
    longer_on order (met order v) (all_met (met order v) vs) (met_longer v order) (all_longer vs (met order v))

pub region_longer : (l : Label) (regions : List ℕ) → Longer regions (region_met regions l)
region_longer (Region r) regions = key_longer regions r
region_longer (Temp n) regions = longer_same regions
region_longer Frozen regions = longer_same regions

value_kept : (v : Val) (order end : List ℕ) → Longer (met order v) end → new_value order v ≡ new_value end v
value_kept Nil order end l = refl
value_kept (Int i) order end l = refl
value_kept (Bool b) order end l = refl
value_kept (Obj a) order end l = ap Obj (number_kept order end a l)

fields_kept : (vs : List Val) (order end : List ℕ) → Longer (all_met order vs) end → new_fields order vs ≡ map (new_value end) vs
fields_kept [] order end l = refl
fields_kept (v ∷ vs) order end l =
    let rest = fields_kept vs (met order v) end l in
    let here = value_kept v order end (longer_on (met order v) (all_met (met order v) vs) end (all_longer vs (met order v)) l) in
    ap (λ z. z ∷ new_fields (met order v) vs) here ∙ ap (λ z. new_value end v ∷ z) rest

label_kept : (l : Label) (regions end : List ℕ) → Longer (region_met regions l) end → new_label regions l ≡ new_label end l
label_kept (Region r) regions end l = ap Region (number_kept regions end r l)
label_kept (Temp n) regions end l = refl
label_kept Frozen regions end l = refl

-- an object with the numbers that these lists give
abbrev pub numbered : (order regions : List ℕ) → Seen → CargoCell
numbered order regions o = record { class = o.class; label = new_label regions o.label; fields = map (new_value order) o.fields }

-- the objects that were read have the numbers that any longer lists give
pub record Stays (at : ℕ → Seen) (s : Reading) : Type 0 where
  pub cells : (k a : ℕ) (c : CargoCell) (order regions : List ℕ) → slice_get s.order k ≡ Some a → slice_get s.cells k ≡ Some c
      → Longer s.order order → Longer s.regions regions → c ≡ numbered order regions (at a)
  pub fewer : length s.cells ≤ length s.order

cell_one_more : (xs : List CargoCell) (c : CargoCell) (k : ℕ) (d : CargoCell) → slice_get (xs ++ c ∷ []) k ≡ Some d
    → (slice_get xs k ≡ Some d) ⊎ ((k ≡ length xs) × (d ≡ c))
cell_one_more [] c zero d e = inr (refl, cell_is c d e)
  where
    cell_is : (x y : CargoCell) → Some x ≡ Some y → y ≡ x
    cell_is x y q = cc
cell_one_more [] c (suc k) d e = cc
cell_one_more (x ∷ xs) c zero d e = inl e
cell_one_more (x ∷ xs) c (suc k) d e = elim (cell_one_more xs c k d e) [ inl a ↦ inl a | inr a ↦ inr (ap suc a.0, a.1) ]

pub cell_within : (xs : List CargoCell) (k : ℕ) (c : CargoCell) → slice_get xs k ≡ Some c → k < length xs
cell_within [] k c e = cc
cell_within (x ∷ xs) zero c e = omega arith
cell_within (x ∷ xs) (suc k) c e = let l = cell_within xs k c e in omega (arith, l)

pub number_there : (xs : List ℕ) (k : ℕ) → k < length xs → (x : ℕ) × (slice_get xs k ≡ Some x)
number_there [] k l = absurd (omega (arith, l))
number_there (x ∷ xs) zero l = (x, refl)
number_there (x ∷ xs) (suc k) l = number_there xs k (omega (arith, l))

length_push : (xs : List CargoCell) (c : CargoCell) → length (xs ++ c ∷ []) ≡ length xs + 1
length_push [] c = refl
length_push (x ∷ xs) c = let e = length_push xs c in omega (arith, e)

longer_length : (xs ys : List ℕ) → Longer xs ys → length xs ≤ length ys
longer_length xs ys l = by (length xs) refl
  where
    by : (n : ℕ) → length xs ≡ n → length xs ≤ length ys
    by zero e = omega (arith, e)
    by (suc n) e =
        let a = number_there xs n (omega (arith, e)) in
        let w = slice_get_within ys n a.0 (l.there n a.0 a.1) in
        omega (arith, e, w)

object_stays : (at : ℕ → Seen) (a : ℕ) (s : Reading) → slice_get s.order (length s.cells) ≡ Some a → Stays at s → Stays at (with_object (at a) s)
object_stays at a s here w =
    let o = at a in
    let c : CargoCell = record { class = o.class; label = new_label s.regions o.label; fields = new_fields s.order o.fields } in
    let next = all_met s.order o.fields in
    let longer = all_longer o.fields s.order in
    let n = length_push s.cells c in
    let within = slice_get_within s.order (length s.cells) a here in
    let more = longer_length s.order next longer in
    record {
      cells = λ k b d order regions e f l m. elim (cell_one_more s.cells c k d f) [
        | inl old ↦
            let less = cell_within s.cells k d old in
            let x = number_there s.order k (omega (arith, less, within)) in
            let same : x.0 ≡ b = same_Some x.0 b (sym (longer.there k x.0 x.1) ∙ e) in
            let P : ℕ → Type 0 = λ z. slice_get s.order k ≡ Some z in
            w.cells k b d order regions (subst P same x.1) old (longer_on s.order next order longer l)
            (longer_on s.regions (region_met s.regions o.label) regions (region_longer o.label s.regions) m)
        | inr new ↦
            let P : ℕ → Type 0 = λ z. slice_get next z ≡ Some b in
            let same : a ≡ b = same_Some a b (sym (longer.there (length s.cells) a here) ∙ subst P new.0 e) in
            let F : List Val → CargoCell = λ z. record { class = o.class; label = new_label s.regions o.label; fields = z } in
            let G : Label → CargoCell = λ z. record { class = o.class; label = z; fields = map (new_value order) o.fields } in
            new.1 ∙ ap F (fields_kept o.fields s.order order l) ∙ ap G (label_kept o.label s.regions regions m)
            ∙ ap (λ z. numbered order regions (at z)) same
      ];
      fewer = omega (arith, n, within, more);
    }

pub all_stay : (at : ℕ → Seen) (most : ℕ) (s : Reading) → Stays at s → Stays at (read_on at most s) × Longer s.order (read_on at most s).order
unfolding read_on
all_stay at zero s w = (w, longer_same s.order)
all_stay at (suc most) s w =
    by (slice_get s.order (length s.cells)) refl (λ a m. all_stay at most (with_object (at a) s) m)
  where
    by : (o : Option ℕ) → slice_get s.order (length s.cells) ≡ o
        → ((a : ℕ) → Stays at (with_object (at a) s)
        → Stays at (read_on at most (with_object (at a) s)) × Longer (with_object (at a) s).order (read_on at most (with_object (at a) s)).order)
        → Stays at (elim (slice_get s.order (length s.cells)) as (λ y. Reading) [ None ↦ s | Some a ↦ read_on at most (with_object (at a) s) ])
        × Longer s.order
        (elim (slice_get s.order (length s.cells)) as (λ y. Reading) [ None ↦ s | Some a ↦ read_on at most (with_object (at a) s) ]).order
    by None e go =
        let Q : Option ℕ → Type 0 = λ z.
        Stays at (elim z as (λ y. Reading) [ None ↦ s | Some a ↦ read_on at most (with_object (at a) s) ])
        × Longer s.order (elim z as (λ y. Reading) [ None ↦ s | Some a ↦ read_on at most (with_object (at a) s) ]).order in
        subst Q (sym e) (w, longer_same s.order)
    by (Some a) e go =
        let Q : Option ℕ → Type 0 = λ z.
        Stays at (elim z as (λ y. Reading) [ None ↦ s | Some a ↦ read_on at most (with_object (at a) s) ])
        × Longer s.order (elim z as (λ y. Reading) [ None ↦ s | Some a ↦ read_on at most (with_object (at a) s) ]).order in
        let r = go a (object_stays at a s e w) in
        subst Q (sym e) (
          r.0,
          longer_on s.order (all_met s.order (at a).fields) (read_on at most (with_object (at a) s)).order
              (all_longer (at a).fields s.order) r.1,
        )

-- the key of a number
pub numbered_back : (xs : List ℕ) (a : ℕ) → position_or_len (nat_eq a) xs < length xs → slice_get xs (position_or_len (nat_eq a) xs) ≡ Some a
numbered_back [] a l = absurd (omega (arith, l))
numbered_back (x ∷ xs) a l = elim (eqb_tells a x) [
  | inl t ↦
      let P : Truth → Type 0 = λ b. slice_get (x ∷ xs) (cond {A = ℕ} (not b) (1 + position_or_len (nat_eq a) xs) 0) ≡ Some a in
      subst P (sym t.0) (ap Some (sym t.1))
  | inr t ↦
      let P : Truth → Type 0 = λ b. slice_get (x ∷ xs) (cond {A = ℕ} (not b) (1 + position_or_len (nat_eq a) xs) 0) ≡ Some a in
      let n : position_or_len (nat_eq a) (x ∷ xs) ≡ 1 + position_or_len (nat_eq a) xs =
      ap (λ b. cond {A = ℕ} (not b) (1 + position_or_len (nat_eq a) xs) 0) t.0 in
      subst P (sym t.0) (after xs (position_or_len (nat_eq a) xs) (numbered_back xs a (omega (arith, l, n))))
]
  where
    after : (ys : List ℕ) (k : ℕ) → slice_get ys k ≡ Some a → slice_get (x ∷ ys) (1 + k) ≡ Some a
    after ys k e = let q : 1 + k ≡ suc k = omega arith in let P : ℕ → Type 0 = λ z. slice_get (x ∷ ys) z ≡ Some a in subst P (sym q) e
