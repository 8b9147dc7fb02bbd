-- Which lists are sound, by what holds of them object by object (docs/architecture.md, "Cargo").
use Rattle.std.proofs.Common.{◌≡◌, ◌≢◌, ℕ, zero, suc, ◌+◌, ◌<◌, ◌≤◌, inl, inr, Bool as Truth, true, false, ◌&&◌, if◌then◌else◌, cond, List, [], ◌∷◌}
use Rattle.std.proofs.Common.{length, Option, Some, None, slice_get, option_map, sum_by, count_by, refl, sym, ap, ◌∙◌, subst, arith}
use Rattle.std.specs.Prelude.{◌==◌}
use Rattle.std.specs.List.{list_all, range_with_len}
use Rattle.std.proofs.lemmas.List.Sums.{sum_by-cons}
use Rattle.std.proofs.lemmas.Bool.Decides.{eqb_tells}
use Rattle.std.proofs.lemmas.Option.{same_Some}
use Rattle.std.proofs.lemmas.Bool.{false≢true}
use Rattle.rg_base.specs.declared.object.Label.{Label}
use Rattle.rg_base.specs.declared.object.Label.TheVariants.{Region, Temp, Frozen}
use Rattle.rg_base.specs.declared.value.Val.{Val}
use Rattle.rg_base.specs.declared.value.Val.TheVariants.{Nil, Int, Bool, Obj}
use Rattle.rg_base.proofs.Callers.Labels.{region-same}
use Rattle.rg_cown.specs.declared.cargo.CargoCell.{CargoCell}
use Rattle.rg_cown.specs.Loads.{IsFirst}
use Rattle.rg_cown.specs.Cargo.{CargoList, label_of, regions_named, named_from, region_named, is_in, comes_to}
use Rattle.rg_cown.specs.Cargo.{stays_frozen, frozen_fits, is_frozen, leads_into, entries_of, entries, is_entered, SoundCargo}
use Rattle.rg_cown.proofs.GroveLoaded.{first_there}
use Rattle.rg_cown.proofs.SoundParts.{HasField, Enters, label_within, less_or_not, named_new, new_from, between, temps_none, hits, weighs}

-- all that is named is there, and is numbered by its first mention
pub record AllNumbered (c : CargoList) : Type 0 where
  pub objects : named_from 0 1 c.cells ≡ Some (length c.cells)
  pub regions : regions_named 0 c.cells ≡ Some (length c.managers)

-- what holds of a sound cargo, object by object
pub record Holds (c : CargoList) : Type 0 where
  pub numbered : AllNumbered c
  pub first : (r : ℕ) × (label_of c.cells 0 ≡ Some (Region r))
  pub frozen : (k j a : ℕ) → label_of c.cells k ≡ Some Frozen → HasField c.cells k j (Obj a) → label_of c.cells a ≡ Some Frozen
  pub once : (p q k j a p₂ k₂ j₂ a₂ : ℕ) → Enters c.cells p q k j a → Enters c.cells p₂ q k₂ j₂ a₂ → (k ≡ k₂) × (j ≡ j₂)
  pub none_in : (p k j a : ℕ) → Enters c.cells p 0 k j a → ⊥

-- Truth values

same_true : (n : ℕ) → n == n ≡ true
same_true n = elim (eqb_tells n n) [ inl t ↦ t.0 | inr t ↦ absurd (t.1 refl) ]

comes : (n : ℕ) (o : Option ℕ) → o ≡ Some n → comes_to n o ≡ true
comes n o e = ap (comes_to n) e ∙ same_true n

and_true : (a b : Truth) → a ≡ true → b ≡ true → a && b ≡ true
and_true a b e f = ap (λ z. z && b) e ∙ f

all_from : {X : Type 0} → (p : X → Truth) (xs : List X) → ((k : ℕ) (x : X) → slice_get xs k ≡ Some x → p x ≡ true) → list_all p xs ≡ true
all_from p [] h = refl
all_from p (x ∷ xs) h = and_true (p x) (list_all p xs) (h 0 x refl) (all_from p xs (λ k. h (suc k)))

pub is_in_true : (q : ℕ) (o : Option Label) → is_in q o ≡ true → o ≡ Some (Region q)
is_in_true q None e = cc
is_in_true q (Some (Region r)) e = elim (eqb_tells r q) [ inl t ↦ ap (λ z. Some (Region z)) t.1 | inr t ↦ absurd (false≢true (sym t.0 ∙ e)) ]
is_in_true q (Some (Temp n)) e = cc
is_in_true q (Some Frozen) e = cc

-- Sums

sum_none : {X : Type 0} → (f : X → ℕ) (xs : List X) → ((k : ℕ) (x : X) → slice_get xs k ≡ Some x → f x ≡ 0) → sum_by f xs ≡ 0
sum_none f [] h = refl
sum_none f (x ∷ xs) h =
    let c = sum_by-cons f x xs in
    let a = h 0 x refl in
    let b = sum_none f xs (λ k. h (suc k)) in
    omega (arith, c, a, b)

sum_single : {X : Type 0} → (f : X → ℕ) (xs : List X) (i : ℕ) (x : X) → slice_get xs i ≡ Some x
    → ((k : ℕ) (y : X) → k ≢ i → slice_get xs k ≡ Some y → f y ≡ 0) → sum_by f xs ≡ f x
sum_single f [] i x e h = cc
sum_single f (z ∷ xs) zero x e h =
    let c = sum_by-cons f z xs in
    let a = ap f (same_Some z x e) in
    let b = sum_none f xs (λ k y g. h (suc k) y (λ q. omega (arith, q)) g) in
    omega (arith, c, a, b)
sum_single f (z ∷ xs) (suc i) x e h =
    let c = sum_by-cons f z xs in
    let a = h 0 z (λ q. omega (arith, q)) refl in
    let b = sum_single f xs i x e (λ k y d g. h (suc k) y (λ q. d (omega (arith, q))) g) in
    omega (arith, c, a, b)

-- Labels

label_is : (cells : List CargoCell) (k : ℕ) (c : CargoCell) → slice_get cells k ≡ Some c → label_of cells k ≡ Some c.label
label_is cells k c e = ap (option_map (λ (x : CargoCell). x.label)) e

-- a region that is numbered has an object
region_there : (cs : List CargoCell) (n m q : ℕ) → regions_named n cs ≡ Some m → n ≤ q → q < m → (k : ℕ) × (label_of cs k ≡ Some (Region q))
region_there [] n m q e l u = let s = same_Some n m e in absurd (omega (arith, s, l, u))
region_there (c ∷ cs) n m q e l u =
    let b = between (region_named n c.label) (λ x. regions_named x cs) m e in
    elim (less_or_not q b.0) [
      | inl t ↦ (0, ap Some (new_label c.label b.0 b.1 t.1))
      | inr t ↦ let r = region_there cs b.0 m q b.2 t.1 u in (suc r.0, r.1)
    ]
  where
    new_label : (x : Label) (y : ℕ) → region_named n x ≡ Some y → q < y → x ≡ Region q
    new_label (Region r) y g t = ap Region (object_is r q (named_new n (Obj r) y q g l t))
      where
        object_is : (a b : ℕ) → Obj a ≡ Obj b → a ≡ b
        object_is a b z = cc
    new_label (Temp x) y g t = cc
    new_label Frozen y g t = let s = same_Some n y g in absurd (omega (arith, s, l, t))

-- the first region has the number 0
pub first_zero : (cs : List CargoCell) (m r : ℕ) → regions_named 0 cs ≡ Some m → label_of cs 0 ≡ Some (Region r) → r ≡ 0
first_zero [] m r e l = cc
first_zero (c ∷ cs) m r e l =
    let P : Label → Type 0 = λ z. region_named 0 z ≡ Some (between (region_named 0 c.label) (λ x. regions_named x cs) m e).0 in
    let b = between (region_named 0 c.label) (λ x. regions_named x cs) m e in
    is_zero r b.0 (subst P (same_Some c.label (Region r) l) b.1)
  where
    none_some : (y : ℕ) → None ≡ Some y → ⊥
    none_some y z = cc

    is_zero : (r y : ℕ) → region_named 0 (Region r) ≡ Some y → r ≡ 0
    is_zero r y g = elim (less_or_not r 0) [
      | inl t ↦ let l = t.1 in absurd (omega (arith, l))
      | inr t ↦ elim (eqb_tells r 0) [
        | inl u ↦ u.1
        | inr u ↦
            let none : region_named 0 (Region r) ≡ None =
            ap (λ b. if b then Some 0 else (if r == 0 then Some 1 else None)) t.0 ∙ ap (λ b. if b then Some 1 else None) u.0 in
            absurd (none_some y (sym none ∙ g))
      ]
    ]

module _ (c : CargoList) (h : Holds c) where
  no_temps : (k t : ℕ) → label_of c.cells k ≡ Some (Temp t) → ⊥
  no_temps k t e = temps_none c.cells 0 (length c.managers) k t h.numbered.regions e

  zero_is : label_of c.cells 0 ≡ Some (Region 0)
  zero_is = h.first.1 ∙ ap (λ z. Some (Region z)) (first_zero c.cells (length c.managers) h.first.0 h.numbered.regions h.first.1)

  fits : (k : ℕ) (x : CargoCell) → slice_get c.cells k ≡ Some x → frozen_fits c.cells x.label x.fields ≡ true
  fits k x e = by x.label refl
    where
      stays : x.label ≡ Frozen → (j : ℕ) (v : Val) → slice_get x.fields j ≡ Some v → stays_frozen c.cells v ≡ true
      stays l j Nil g = refl
      stays l j (Int i) g = refl
      stays l j (Bool b) g = refl
      stays l j (Obj a) g =
          ap is_frozen (h.frozen k j a (label_is c.cells k x e ∙ ap Some l) (record { cell = x; there = e; value = g }))

      by : (l : Label) → x.label ≡ l → frozen_fits c.cells x.label x.fields ≡ true
      by (Region r) l = ap (λ z. frozen_fits c.cells z x.fields) l
      by (Temp t) l = ap (λ z. frozen_fits c.cells z x.fields) l
      by Frozen l = ap (λ z. frozen_fits c.cells z x.fields) l ∙ all_from (stays_frozen c.cells) x.fields (stays l)

  -- a value of an object in a region that leads into another one is an entry
  leads_not : (p q k j : ℕ) (x : CargoCell) (v : Val) → slice_get c.cells k ≡ Some x → x.label ≡ Region p → p ≢ q → slice_get x.fields j ≡ Some v
      → ((a : ℕ) → Enters c.cells p q k j a → ⊥) → leads_into c.cells q v ≡ false
  leads_not p q k j x Nil e l d g none = refl
  leads_not p q k j x (Int i) e l d g none = refl
  leads_not p q k j x (Bool b) e l d g none = refl
  leads_not p q k j x (Obj a) e l d g none = by (is_in q (label_of c.cells a)) refl
    where
      by : (b : Truth) → is_in q (label_of c.cells a) ≡ b → is_in q (label_of c.cells a) ≡ false
      by true t = absurd (none a (record {
        field = record { cell = x; there = e; value = g };
        from = label_is c.cells k x e ∙ ap Some l;
        to = is_in_true q (label_of c.cells a) t;
        other = d;
      }))
      by false t = t

  weighs_none : (q k : ℕ) (x : CargoCell) → slice_get c.cells k ≡ Some x → ((p j a : ℕ) → Enters c.cells p q k j a → ⊥)
      → entries_of c.cells q x.label x.fields ≡ 0
  weighs_none q k x e none = by x.label refl
    where
      m : ℕ
      m = count_by (leads_into c.cells q) x.fields

      by : (l : Label) → x.label ≡ l → entries_of c.cells q x.label x.fields ≡ 0
      by (Region p) l = elim (eqb_tells p q) [
        | inl t ↦ ap (λ z. entries_of c.cells q z x.fields) l ∙ ap (λ b. if b then 0 else m) t.0
        | inr t ↦
            ap (λ z. entries_of c.cells q z x.fields) l ∙ ap (λ b. if b then 0 else m) t.0
            ∙ sum_none (λ y. cond {A = ℕ} (leads_into c.cells q y) 1 0) x.fields (λ j v g.
            ap (λ b. cond {A = ℕ} b 1 0) (leads_not p q k j x v e l t.1 g (λ a. none p j a)))
      ]
      by (Temp t) l = absurd (no_temps k t (label_is c.cells k x e ∙ ap Some l))
      by Frozen l = ap (λ z. entries_of c.cells q z x.fields) l

  entered_none : entries c.cells 0 ≡ 0
  entered_none = sum_none (λ (x : CargoCell). entries_of c.cells 0 x.label x.fields) c.cells
      (λ k x e. weighs_none 0 k x e (λ p j a. h.none_in p k j a))

  -- the field that names the first object of a region
  entry : (q : ℕ) → 0 < q → q < length c.managers → (p : ℕ) × (k : ℕ) × (j : ℕ) × (a : ℕ) × Enters c.cells p q k j a
  entry q above below =
      let o = region_there c.cells 0 (length c.managers) q h.numbered.regions (omega arith) below in
      let f = first_there c.cells o.0 q o.1 in
      let x = f.0 in
      let within = label_within c.cells x (Region q) f.1.lies in
      let apart : x ≢ 0 = (λ z.
      let P : ℕ → Type 0 = λ i. label_of c.cells i ≡ Some (Region q) in
      let s = region-same q 0 (sym (subst P z f.1.lies) ∙ zero_is) in
      omega (arith, s, above)) in
      let n = new_from c.cells 0 1 (length c.cells) x h.numbered.objects (omega (arith, apart)) within in
      let P : ℕ → Type 0 = λ z. slice_get n.3.cell.fields n.1 ≡ Some (Obj z) in
      from_before x f.1 n.0 n.1 n.2 (record { cell = n.3.cell; there = n.3.there; value = subst P (omega arith) n.3.value })
    where
      from_before : (x : ℕ) → IsFirst c.cells q x → (i g : ℕ) → i < x → HasField c.cells i g (Obj x)
          → (p : ℕ) × (k : ℕ) × (j : ℕ) × (a : ℕ) × Enters c.cells p q k j a
      from_before x f i g less w = by w.cell.label refl
        where
          mine : label_of c.cells i ≡ Some w.cell.label
          mine = label_is c.cells i w.cell w.there

          apart : Some Frozen ≡ Some (Region q) → ⊥
          apart z = cc

          by : (l : Label) → w.cell.label ≡ l → (p : ℕ) × (k : ℕ) × (j : ℕ) × (a : ℕ) × Enters c.cells p q k j a
          by (Region r) e = (
            r,
            i,
            g,
            x,
            record {
              field = w;
              from = mine ∙ ap Some e;
              to = f.lies;
              other = λ z. f.least i less (mine ∙ ap Some e ∙ ap (λ y. Some (Region y)) z);
            },
          )
          by (Temp t) e = absurd (no_temps i t (mine ∙ ap Some e))
          by Frozen e = absurd (apart (sym (h.frozen i g x (mine ∙ ap Some e) w) ∙ f.lies))

  entered_once : (q : ℕ) → 0 < q → q < length c.managers → entries c.cells q ≡ 1
  entered_once q above below =
      let n = entry q above below in
      let p = n.0 in
      let k = n.1 in
      let j = n.2 in
      let w = n.4 in
      let x = w.field.cell in
      let lab : x.label ≡ Region p = same_Some x.label (Region p) (sym (label_is c.cells k x w.field.there) ∙ w.from) in
      let cells = sum_single (λ (x : CargoCell). entries_of c.cells q x.label x.fields) c.cells k x w.field.there (λ i y d e.
      weighs_none q i y e (λ p₂ j₂ a₂ v. d ((h.once p₂ q i j₂ a₂ p k j n.3 v w).0))) in
      let fields = sum_single (λ y. cond {A = ℕ} (leads_into c.cells q y) 1 0) x.fields j (Obj n.3) w.field.value (λ i v d e.
      ap (λ b. cond {A = ℕ} b 1 0) (leads_not p q k i x v w.field.there lab w.other e
      (λ a₂ z. d ((h.once p q k i a₂ p k j n.3 z w).1)))) in
      cells ∙ weighs c.cells p q k j n.3 w ∙ fields ∙ ap (λ b. cond {A = ℕ} b 1 0) (hits c.cells p q k j n.3 w)

  entered : (q : ℕ) → q < length c.managers → is_entered c.cells q ≡ true
  entered q below = elim (eqb_tells q 0) [
    | inl t ↦
        ap (λ b. entries c.cells q == (if b then 0 else 1)) t.0
        ∙ ap (λ z. z == 0) (ap (entries c.cells) t.1 ∙ entered_none)
    | inr t ↦
        let above : 0 < q = let d : q ≢ 0 = t.1 in omega (arith, d) in
        ap (λ b. entries c.cells q == (if b then 0 else 1)) t.0 ∙ ap (λ z. z == 1) (entered_once q above below)
  ]

  pub sound_from : SoundCargo c
  sound_from =
      let a = ap (is_in 0) zero_is in
      let second = comes_to (length c.cells) (named_from 0 1 c.cells) in
      let third = comes_to (length c.managers) (regions_named 0 c.cells) in
      let fourth = list_all (λ (x : CargoCell). frozen_fits c.cells x.label x.fields) c.cells in
      let fifth = list_all (is_entered c.cells) (range_with_len 0 (length c.managers)) in
      let head = is_in 0 (label_of c.cells 0) in
      let b = and_true head second a (comes (length c.cells) (named_from 0 1 c.cells) h.numbered.objects) in
      let d = and_true (head && second) third b (comes (length c.managers) (regions_named 0 c.cells) h.numbered.regions) in
      let e = and_true (head && second && third) fourth d
      (all_from (λ (x : CargoCell). frozen_fits c.cells x.label x.fields) c.cells fits) in
      and_true (head && second && third && fourth) fifth e
      (all_from (is_entered c.cells) (range_with_len 0 (length c.managers)) (λ k q g.
      let b = range_below 0 (length c.managers) k q g in entered q (omega (arith, b))))
    where
      range_below : (a n k q : ℕ) → slice_get (range_with_len a n) k ≡ Some q → q < a + n
      range_below a zero k q e = cc
      range_below a (suc n) zero q e = let s = same_Some a q e in omega (arith, s)
      range_below a (suc n) (suc k) q e = let r = range_below (a + 1) n k q e in omega (arith, r)
