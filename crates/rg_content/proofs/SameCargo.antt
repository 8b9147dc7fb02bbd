-- What is read of two graphs is one list, where the objects of the one are those of the other under other names.
use Rattle.std.proofs.Common.{◌≡◌, ℕ, zero, suc, ◌+◌, ◌<◌, ◌≤◌, ◌⊎◌, inl, inr, Bool as Truth, true, false, if◌then◌else◌, List, [], ◌∷◌}
use Rattle.std.proofs.Common.{◌++◌, length, map, Option, Some, None, slice_get, refl, sym, ap, ◌∙◌, subst, arith}
use Rattle.std.specs.Prelude.{nat_eq, eqb}
use Rattle.std.specs.List.{list_any, IsDistinct}
use Rattle.std.proofs.lemmas.Bool.{false≢true}
use Rattle.std.proofs.lemmas.Bool.Decides.{eqb_tells}
use Rattle.std.proofs.lemmas.List.{length_push, length-map}
use Rattle.std.proofs.lemmas.Map.Steps.{length-le_from_distinct_below}
use Rattle.std.proofs.lemmas.Option.{same_Some, slice_get_past}
use Rattle.indexmap.specs.IndexSet.{insert_key}
use Rattle.rg_base.specs.declared.object.Label.{Label}
use Rattle.rg_base.specs.declared.object.Label.TheVariants.{Region, Temp, Frozen}
use Rattle.rg_base.specs.declared.object.Seen.{Seen}
use Rattle.rg_base.specs.declared.words.Manager.{Manager}
use Rattle.rg_base.specs.declared.value.Val.{Val}
use Rattle.rg_base.specs.declared.value.Val.TheVariants.{Nil, Int, Bool, Obj}
use Rattle.rg_cown.specs.declared.cargo.CargoCell.{CargoCell}
use Rattle.rg_cown.specs.Cargo.{CargoList}
use Rattle.rg_cown.specs.Contents.{Reading, all_met, new_fields, region_met, new_label, with_object, read_on, from_object, cargo_from}
use Rattle.rg_cown.proofs.Numbered.{or_cases, one_distinct, read_once}
use Rattle.rg_cown.proofs.Renamed.{Renames, other_reading, reading_on}

-- Lists

abbrev Each : (ℕ → Type 0) → List ℕ → Type 0
Each P [] = Unit {0}
Each P (x ∷ xs) = P x × Each P xs

each-push : (P : ℕ → Type 0) (xs : List ℕ) (x : ℕ) → Each P xs → P x → Each P (xs ++ x ∷ [])
each-push P [] x e p = (p, tt)
each-push P (y ∷ xs) x e p = (e.0, each-push P xs x e.1 p)

each-key : (P : ℕ → Type 0) (xs : List ℕ) (x : ℕ) → Each P xs → P x → Each P (insert_key nat_eq xs x)
each-key P xs x e p = by (list_any (nat_eq x) xs)
  where
    by : (b : Truth) → Each P (if b then xs else xs ++ x ∷ [])
    by true = e
    by false = each-push P xs x e p

each-there : (P : ℕ → Type 0) (xs : List ℕ) (k x : ℕ) → Each P xs → slice_get xs k ≡ Some x → P x
each-there P [] k x e q = cc
each-there P (y ∷ xs) zero x e q = subst P (same_Some y x q) e.0
each-there P (y ∷ xs) (suc k) x e q = each-there P xs k x e.1 q

each-met : (P : ℕ → Type 0) (vs : List Val) (order : List ℕ) → ((k b : ℕ) → slice_get vs k ≡ Some (Obj b) → P b) → Each P order
    → Each P (all_met order vs)
each-met P [] order h e = e
each-met P (Nil ∷ vs) order h e = each-met P vs order (λ k. h (suc k)) e
each-met P (Int i ∷ vs) order h e = each-met P vs order (λ k. h (suc k)) e
each-met P (Bool b ∷ vs) order h e = each-met P vs order (λ k. h (suc k)) e
each-met P (Obj a ∷ vs) order h e = each-met P vs (insert_key nat_eq order a) (λ k. h (suc k)) (each-key P order a e (h 0 a refl))

each-region : (R : ℕ → Type 0) (xs : List ℕ) (l : Label) → ((r : ℕ) → l ≡ Region r → R r) → Each R xs → Each R (region_met xs l)
each-region R xs (Region r) h e = each-key R xs r e (h r refl)
each-region R xs (Temp n) h e = e
each-region R xs Frozen h e = e

map-agree : {A : Type 0} (f g : ℕ → A) (xs : List ℕ) → Each (λ x. f x ≡ g x) xs → map f xs ≡ map g xs
map-agree f g [] e = refl
map-agree f g (x ∷ xs) e = ap (λ y. y ∷ map f xs) e.0 ∙ ap (λ ys. g x ∷ ys) (map-agree f g xs e.1)

below-all : (f : ℕ → ℕ) (P : ℕ → Type 0) (n : ℕ) → ((x : ℕ) → P x → f x < n) → (xs : List ℕ) → Each P xs
    → (y : ℕ) → list_any (nat_eq y) (map f xs) ≡ true → y < n
below-all f P n below [] e y m = absurd (false≢true m)
below-all f P n below (x ∷ xs) e y m = elim (or_cases (nat_eq y (f x)) (list_any (nat_eq y) (map f xs)) m) [
  | inl q ↦ elim (eqb_tells y (f x)) [ inl t ↦ subst (λ z. z < n) (sym t.1) (below x e.0) | inr t ↦ absurd (false≢true (sym t.0 ∙ q)) ]
  | inr q ↦ below-all f P n below xs e.1 y q
]

-- Readings

opened : (at : ℕ → Seen) (n : ℕ) (s : Reading) (a : ℕ) → slice_get s.order (length s.cells) ≡ Some a
    → read_on at (suc n) s ≡ read_on at n (with_object (at a) s)
unfolding read_on
opened at n s a e = rw (e, read_on) refl

ended : (at : ℕ → Seen) (n : ℕ) (s : Reading) → slice_get s.order (length s.cells) ≡ None → read_on at n s ≡ s
unfolding read_on
ended at zero s e = refl
ended at (suc n) s e = rw (e, read_on) refl

read-none : (at : ℕ → Seen) (s : Reading) → read_on at zero s ≡ s
unfolding read_on
read-none at s = refl

look : (o : Option ℕ) → (o ≡ None) ⊎ ((a : ℕ) × (o ≡ Some a))
look None = inl refl
look (Some a) = inr (a, refl)

-- what each object more keeps, all that is read keeps
read-keeps : (at : ℕ → Seen) (I : Reading → Type 0)
    → ((s : Reading) (a : ℕ) → slice_get s.order (length s.cells) ≡ Some a → I s → I (with_object (at a) s))
    → (most : ℕ) (s : Reading) → I s → I (read_on at most s)
read-keeps at I keeps zero s i = subst I (sym (read-none at s)) i
read-keeps at I keeps (suc most) s i = elim (look (slice_get s.order (length s.cells))) [
  | inl e ↦ subst I (sym (ended at (suc most) s e)) i
  | inr x ↦ subst I (sym (opened at most s x.0 x.1)) (read-keeps at I keeps most (with_object (at x.0) s) (keeps s x.0 x.1 i))
]

with-more : (o : Seen) (s : Reading) → length (with_object o s).cells ≡ length s.cells + 1
with-more o s = length_push s.cells (record { class = o.class; label = new_label s.regions o.label; fields = new_fields s.order o.fields })

read-grows : (at : ℕ → Seen) (most : ℕ) (s : Reading) → length s.cells ≤ length (read_on at most s).cells
read-grows at most s =
    read-keeps at (λ u. length s.cells ≤ length u.cells) (λ u a e i. let m = with-more (at a) u in omega (arith, i, m)) most s (omega arith)

-- as many turns as objects are read read the same
read-enough : (at : ℕ → Seen) (most enough : ℕ) (s : Reading)
    → slice_get (read_on at most s).order (length (read_on at most s).cells) ≡ None
    → length (read_on at most s).cells ≤ length s.cells + enough → read_on at enough s ≡ read_on at most s
read-enough at zero enough s done few =
    let e = read-none at s in
    let Q : Reading → Type 0 = λ u. slice_get u.order (length u.cells) ≡ None in
    ended at enough s (subst Q e done) ∙ sym e
read-enough at (suc most) enough s done few = elim (look (slice_get s.order (length s.cells))) [
  | inl e ↦ ended at enough s e ∙ sym (ended at (suc most) s e)
  | inr x ↦
      let u = with_object (at x.0) s in
      let e = opened at most s x.0 x.1 in
      let Q : Reading → Type 0 = λ z. slice_get z.order (length z.cells) ≡ None in
      let L : Reading → Type 0 = λ z. length z.cells ≤ length s.cells + enough in
      turn at most enough s x.0 x.1 (subst L e few) (λ j h. read-enough at most j u (subst Q e done) h) ∙ sym e
]
  where
    turn : (at : ℕ → Seen) (most enough : ℕ) (s : Reading) (a : ℕ) → slice_get s.order (length s.cells) ≡ Some a
        → length (read_on at most (with_object (at a) s)).cells ≤ length s.cells + enough
        → ((j : ℕ) → length (read_on at most (with_object (at a) s)).cells ≤ length (with_object (at a) s).cells + j
        → read_on at j (with_object (at a) s) ≡ read_on at most (with_object (at a) s))
        → read_on at enough s ≡ read_on at most (with_object (at a) s)
    turn at most zero s a e few go =
        let m = with-more (at a) s in
        let g = read-grows at most (with_object (at a) s) in
        absurd (omega (arith, m, g, few))
    turn at most (suc j) s a e few go = let m = with-more (at a) s in opened at j s a e ∙ go j (omega (arith, m, few))

-- Two graphs

module _ (f : ℕ → ℕ) (P : ℕ → Type 0) (at other : ℕ → Seen) (w : Renames f P at other) (manager named : ℕ → Manager) (most enough start : ℕ) where
  abbrev s : Reading
  s = read_on at most (from_object start)

  abbrev Kept : Reading → Type 0
  Kept u = Each P u.order × Each (λ r. manager r ≡ named r) u.regions

  abbrev Agree : Type 0
  Agree = (x r : ℕ) → P x → (at x).label ≡ Region r → manager r ≡ named r

  kept : P start → Agree → Kept s
  kept here agree = read-keeps at Kept (λ u a e k.
      let p = each-there P u.order (length u.cells) a k.0 e in (
        each-met P (at a).fields u.order (λ i b. w.on a i b p) k.0,
        each-region (λ r. manager r ≡ named r) u.regions (at a).label (λ r is. agree a r p is) k.1,
      )) most (from_object start) ((here, tt), tt)

  -- all of the one is read; so many objects of the other may be read, of which all have names below that
  pub same-cargo : P start → length s.order ≡ length s.cells → ((x : ℕ) → P x → f x < enough) → Agree
      → cargo_from at manager most start ≡ cargo_from other named enough (f start)
  same-cargo here many below agree =
      let u = read_on other most (from_object (f start)) in
      let same : u ≡ other_reading f s = reading_on f P at other most (from_object start) w (here, tt) in
      let k = kept here agree in
      let order : u.order ≡ map f s.order = ap (λ (z : Reading). z.order) same in
      let cells : u.cells ≡ s.cells = ap (λ (z : Reading). z.cells) same in
      let D : List ℕ → Type 0 = λ z. IsDistinct eqb z in
      let distinct = subst D order (read_once other most (from_object (f start)) (one_distinct (f start))) in
      let few = length-le_from_distinct_below (map f s.order) enough distinct (below-all f P enough below s.order k.0) in
      let long = length-map s.order f in
      let ol = ap (λ (z : List ℕ). length z) order in
      let cl = ap (λ (z : List CargoCell). length z) cells in
      let done : slice_get u.order (length u.cells) ≡ None = slice_get_past u.order (length u.cells) (omega (arith, ol, cl, long, many)) in
      let e = read-enough other most enough (from_object (f start)) done (omega (arith, cl, few, long, many)) in
      let C : Reading → CargoList = λ z. record { cells = z.cells; managers = map named z.regions } in
      let M : List Manager → CargoList = λ z. record { cells = s.cells; managers = z } in
      ap M (map-agree manager named s.regions k.1) ∙ sym (ap C (e ∙ same))
