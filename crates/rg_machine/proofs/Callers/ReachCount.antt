-- How many: the cells of a region are no more than its objects in a store that shows each of them; members are as many as their serials.
use Rattle.std.proofs.Common.{◌≡◌, inl, inr, ℕ, zero, suc, ◌+◌, ◌≤◌, Bool as Truth, true, false, if◌then◌else◌, List, [], ◌∷◌, length, map}
use Rattle.std.proofs.Common.{cond, Option, Some, None, slice_get, slice_index_or, refl, sym, ap, ◌∙◌, arith}
use Rattle.std.proofs.lemmas.Bool.{false≢true}
use Rattle.std.proofs.lemmas.List.Sums.{sum_by-cons}
use Rattle.std.proofs.lemmas.Option.{none-some, same_Some}
use Rattle.rg_base.specs.declared.object.Label.{Label}
use Rattle.rg_base.specs.declared.object.Label.TheVariants.{Region, Temp, Frozen}
use Rattle.rg_base.specs.declared.object.Seen.{Seen}
use Rattle.rg_rules.specs.Reach.{is_region, size_of}
use Rattle.rg_rules.specs.Regions.{region_of}
use Rattle.rg_sound.proofs.Stores.Member.{In}
use Rattle.rg_cells.specs.declared.cell.Body.{Body}
use Rattle.rg_cells.specs.Table.{Heap, body_at, body_in, Serials, total}
use Rattle.rg_regions.specs.Reach.{belongs, region_size}
use Rattle.rg_regions.specs.Reach.{is_region as over}
use Rattle.rg_machine.proofs.Callers.ReachPath.{Distinct, no-longer}

-- Lists of what is made from others

pub mapped-in : (f : ℕ → ℕ) (ns : List ℕ) (i x : ℕ) → slice_get ns i ≡ Some x → In (f x) (map f ns)
mapped-in f [] i x e = absurd (none-some x e)
mapped-in f (n ∷ ns) zero x e = inl (ap f (same_Some n x e))
mapped-in f (n ∷ ns) (suc i) x e = inr (mapped-in f ns i x e)

pub mapped-back : (f : ℕ → ℕ) (ns : List ℕ) (n : ℕ) → In n (map f ns) → (i x : ℕ) × (slice_get ns i ≡ Some x) × (f x ≡ n)
mapped-back f [] n i = absurd i
mapped-back f (m ∷ ms) n (inl e) = (0, m, refl, e)
mapped-back f (m ∷ ms) n (inr i) = let x = mapped-back f ms n i in (suc x.0, x.1, x.2, x.3)

-- no two of a list are made to the same
abbrev pub Apart : (ℕ → ℕ) → List ℕ → Type 0
Apart f ns = (i j x y : ℕ) → slice_get ns i ≡ Some x → slice_get ns j ≡ Some y → f x ≡ f y → i ≡ j

pub distinct-map : (f : ℕ → ℕ) (ns : List ℕ) → Apart f ns → Distinct (map f ns)
distinct-map f [] apart = tt
distinct-map f (n ∷ ns) apart = (
  λ i.
      let x = mapped-back f ns (f n) i in
      let same = apart (suc x.0) 0 x.1 n x.2 refl x.3 in absurd (omega (arith, same)),
  distinct-map f ns (λ i j x y e h same. let is = apart (suc i) (suc j) x y e h same in omega (arith, is)),
)

-- Cells of a region

abbrev pub serial_in : Option Body → ℕ
serial_in None = 0
serial_in (Some b) = b.serial

-- the serials of the bodies of a region
abbrev serials_in : ℕ → List (Option (Option Body)) → List ℕ
serials_in r [] = []
serials_in r (x ∷ xs) = if belongs r (body_in x) then serial_in (body_in x) ∷ serials_in r xs else serials_in r xs

serials-count : (r : ℕ) (xs : List (Option (Option Body))) → length (serials_in r xs) ≡ total (λ b. cond (belongs r b) 1 0) xs
serials-count r [] = refl
serials-count r (x ∷ xs) = by (belongs r (body_in x)) (serials-count r xs)
  where
    by : (t : Truth) → length (serials_in r xs) ≡ total (λ b. cond (belongs r b) 1 0) xs
        → length (if t then serial_in (body_in x) ∷ serials_in r xs else serials_in r xs) ≡ cond t 1 0 + total (λ b. cond (belongs r b) 1 0) xs
    by true e = omega (arith, e)
    by false e = omega (arith, e)

-- a held body of the region with a serial
record Listed (r n : ℕ) (xs : List (Option (Option Body))) : Type 0 where
  pub slot : ℕ
  pub body : Body
  pub held : body_in (slice_index_or xs slot None) ≡ Some body
  pub serial : body.serial ≡ n
  pub lies : belongs r (Some body) ≡ true

serials-back : (r n : ℕ) (xs : List (Option (Option Body))) → In n (serials_in r xs) → Listed r n xs
serials-back r n [] i = absurd i
serials-back r n (x ∷ xs) i = by (body_in x) refl (belongs r (body_in x)) refl i (λ j. behind (serials-back r n xs j))
  where
    behind : Listed r n xs → Listed r n (x ∷ xs)
    behind y = record { slot = suc y.slot; body = y.body; held = y.held; serial = y.serial; lies = y.lies }

    by : (o : Option Body) → body_in x ≡ o → (t : Truth) → belongs r (body_in x) ≡ t
        → In n (if t then serial_in (body_in x) ∷ serials_in r xs else serials_in r xs)
        → (In n (serials_in r xs) → Listed r n (x ∷ xs)) → Listed r n (x ∷ xs)
    by o e false is j rest = rest j
    by o e true is (inr j) rest = rest j
    by None e true is (inl same) rest = absurd (false≢true (sym (ap (belongs r) e) ∙ is))
    by (Some b) e true is (inl same) rest = record {
      slot = 0;
      body = b;
      held = e;
      serial = sym (ap serial_in e) ∙ same;
      lies = sym (ap (belongs r) e) ∙ is;
    }

-- bodies have different serials
abbrev Differ : List (Option (Option Body)) → Type 0
Differ xs = (s t : ℕ) (b d : Body) → body_in (slice_index_or xs s None) ≡ Some b → body_in (slice_index_or xs t None) ≡ Some d
    → b.serial ≡ d.serial → s ≡ t

serials-distinct : (r : ℕ) (xs : List (Option (Option Body))) → Differ xs → Distinct (serials_in r xs)
serials-distinct r [] d = tt
serials-distinct r (x ∷ xs) d = by (body_in x) refl (belongs r (body_in x)) refl
    (serials-distinct r xs (λ s t b c e f same. let is = d (suc s) (suc t) b c e f same in omega (arith, is)))
    (λ i. serials-back r (serial_in (body_in x)) xs i)
  where
    by : (o : Option Body) → body_in x ≡ o → (t : Truth) → belongs r (body_in x) ≡ t → Distinct (serials_in r xs)
        → (In (serial_in (body_in x)) (serials_in r xs) → Listed r (serial_in (body_in x)) xs)
        → Distinct (if t then serial_in (body_in x) ∷ serials_in r xs else serials_in r xs)
    by o e false is rest back = rest
    by None e true is rest back = absurd (false≢true (sym (ap (belongs r) e) ∙ is))
    by (Some b) e true is rest back = (
      λ i.
          let y = back i in
          let same = d (suc y.slot) 0 y.body b y.held e (y.serial ∙ ap serial_in e) in absurd (omega (arith, same)),
      rest,
    )

-- Objects of a region

-- the places of a region's objects, counted from one on
abbrev spots : (region from : ℕ) → List Seen → List ℕ
spots r k [] = []
spots r k (o ∷ os) = if is_region r (region_of o.label) then k ∷ spots r (suc k) os else spots r (suc k) os

spots-count : (r k : ℕ) (os : List Seen) → length (spots r k os) ≡ size_of r os
spots-count r k [] = refl
spots-count r k (o ∷ os) = by (is_region r (region_of o.label)) (spots-count r (suc k) os) ∙ sym more
  where
    more : size_of r (o ∷ os) ≡ cond (is_region r (region_of o.label)) 1 0 + size_of r os
    more = sum_by-cons (λ (o : Seen). cond (is_region r (region_of o.label)) 1 0) o os

    by : (t : Truth) → length (spots r (suc k) os) ≡ size_of r os
        → length (if t then k ∷ spots r (suc k) os else spots r (suc k) os) ≡ cond t 1 0 + size_of r os
    by true e = omega (arith, e)
    by false e = omega (arith, e)

spots-in : (r k i j : ℕ) (os : List Seen) (o : Seen) → slice_get os i ≡ Some o → is_region r (region_of o.label) ≡ true → j ≡ k + i
    → In j (spots r k os)
spots-in r k i j [] o e is at = absurd (none-some o e)
spots-in r k zero j (p ∷ os) o e is at =
    by (is_region r (region_of p.label)) (ap (λ (o : Seen). is_region r (region_of o.label)) (same_Some p o e) ∙ is)
  where
    by : (t : Truth) → t ≡ true → In j (if t then k ∷ spots r (suc k) os else spots r (suc k) os)
    by true x = inl (omega (arith, at))
    by false x = absurd (false≢true x)
spots-in r k (suc i) j (p ∷ os) o e is at = by (is_region r (region_of p.label)) (spots-in r (suc k) i j os o e is (omega (arith, at)))
  where
    by : (t : Truth) → In j (spots r (suc k) os) → In j (if t then k ∷ spots r (suc k) os else spots r (suc k) os)
    by true x = inr x
    by false x = x

-- cells of a region are no more than its objects, where the store shows each cell at its serial
pub fewer-cells : (h : Heap) (r : ℕ) (store : List Seen) → Serials h
    → ((s : ℕ) (b : Body) → body_at h s ≡ Some b → (o : Seen) × (slice_get store b.serial ≡ Some o) × (o.label ≡ b.label))
    → region_size h r ≤ size_of r store
fewer-cells h r store q shown =
    let less = no-longer (serials_in r h.slots) (spots r 0 store) (serials-distinct r h.slots q.differ) there in
    let cells = serials-count r h.slots in
    let objects = spots-count r 0 store in
    omega (arith, less, cells, objects)
  where
    of-region : (b : Body) → belongs r (Some b) ≡ true → is_region r (region_of b.label) ≡ true
    of-region b e = by b.label e
      where
        by : (l : Label) → over r l ≡ true → is_region r (region_of l) ≡ true
        by (Region n) e = e
        by (Temp n) e = e
        by Frozen e = e

    there : (n : ℕ) → In n (serials_in r h.slots) → In n (spots r 0 store)
    there n i =
        let y = serials-back r n h.slots i in
        let o = shown y.slot y.body y.held in
        spots-in r 0 n n store o.0 (ap (slice_get store) (sym y.serial) ∙ o.1)
        (ap (λ l. is_region r (region_of l)) o.2 ∙ of-region y.body y.lies) (omega arith)
