-- A cell that was freed: nothing is at its slot, and as many slots were ever held; a member that was dropped: the last
-- one took its place (docs/architecture.md, "Regions").
use Rattle.std.proofs.Common.{◌≡◌, ◌≢◌, ℕ, ◌+◌, ◌-◌, ◌<◌, zero, suc, List, [], ◌∷◌, length, Option, Some, None, IsSome}
use Rattle.std.proofs.Common.{get_or, set}
use Rattle.std.proofs.Common.{refl, ap, sym, ◌∙◌, subst, arith, ◌⊎◌, inl, inr, option_map, count_by, is_some, cond}
use Rattle.std.specs.List.{swap_remove}
use Rattle.std.proofs.lemmas.List.{get_or-set_same, get_or-set_other, get_or-take, get_or_past, length-take-le}
use Rattle.std.proofs.lemmas.List.{length-set}
use Rattle.std.proofs.lemmas.Bool.{cases_eq, cases_lt}
use Rattle.std.proofs.lemmas.List.Sums.{sum_by-cons}
use Rattle.rg_cells.specs.declared.cell.Body.{Body}
use Rattle.rg_cells.specs.Table.{Heap, IsHeld, body_at, body_in, freed}
use Rattle.rg_base.specs.declared.object.Label.TheVariants.{Region}
use Rattle.rg_regions.specs.Reach.{LiesIn}

pub zero_here : (ms : List ℕ) (s : ℕ) → get_or (set ms s 0) s 0 ≡ 0
zero_here [] s = refl
zero_here (m ∷ ms) zero = refl
zero_here (m ∷ ms) (suc s) = zero_here ms s

-- a slot that was held stays one
pub count-freed : (xs : List (Option (Option Body))) (s : ℕ) (o : Option Body) → get_or xs s None ≡ Some o
    → count_by is_some (set xs s (Some None)) ≡ count_by is_some xs
count-freed [] s o e = cc
count-freed (x ∷ xs) zero o e = rw e
count-freed (x ∷ xs) (suc s) o e =
    let ih : count_by is_some (set xs s (Some None)) ≡ count_by is_some xs = count-freed xs s o e in
    sum_by-cons (λ y. cond (is_some y) 1 0) x (set xs s (Some None)) ∙ ap (λ n. cond (is_some x) 1 0 + n) ih
    ∙ sym (sum_by-cons (λ y. cond (is_some y) 1 0) x xs)

pub held_once : (h : Heap) (s : ℕ) → IsHeld h s → (o : Option Body) × (get_or h.slots s None ≡ Some o)
held_once h s l = by_slot (get_or h.slots s None) l
  where
    by_slot : (x : Option (Option Body)) → IsSome (body_in x) → (o : Option Body) × (x ≡ Some o)
    by_slot None e = cc
    by_slot (Some o) e = (o, refl)

pub lies_within : (h : Heap) (r s : ℕ) → LiesIn h r s → s < length h.slots
lies_within h r s l = elim (cases_lt s (length h.slots)) [
  | inl m ↦ m
  | inr m ↦
      let e : body_at h s ≡ None = ap body_in (get_or_past h.slots s None m) in
      let q : None ≡ Some (Region r) = sym (ap (option_map (λ (b : Body). b.label)) e) ∙ l in
      cc
]

pub freed_here : (h : Heap) (s : ℕ) → s < length h.slots → body_at (freed h s) s ≡ None
freed_here h s l = ap body_in (get_or-set_same h.slots s (Some None) None l)

pub freed_other : (h : Heap) (s x : ℕ) → x ≢ s → get_or (freed h s).slots x None ≡ get_or h.slots x None
freed_other h s x d = get_or-set_other h.slots s x (Some None) None d

pub lies_freed : (h : Heap) (r s x : ℕ) → s < length h.slots → LiesIn (freed h s) r x → (x ≢ s) × LiesIn h r x
lies_freed h r s x l i = elim (cases_eq x s) [
  | inl e ↦
      let b : body_at (freed h s) x ≡ None = ap (body_at (freed h s)) e ∙ freed_here h s l in
      let q : None ≡ Some (Region r) = sym (ap (option_map (λ (b : Body). b.label)) b) ∙ i in
      cc
  | inr d ↦ (
    d,
    let L : Option (Option Body) → Type 0 = λ o. option_map (λ (b : Body). b.label) (body_in o)
        ≡ Some (Region r) in subst L (freed_other h s x d) i,
  )
]

pub freed_lies : (h : Heap) (r s x : ℕ) → x ≢ s → LiesIn h r x → LiesIn (freed h s) r x
freed_lies h r s x d i = let L : Option (Option Body) → Type 0 = λ o. option_map (λ (b : Body). b.label) (body_in o)
    ≡ Some (Region r) in subst L (sym (freed_other h s x d)) i

-- the elements after a swap_remove
pub swapped-length : (xs : List ℕ) (p : ℕ) → p < length xs → length (swap_remove xs p 0) + 1 ≡ length xs
swapped-length xs p l =
    let n : length (set xs p (get_or xs (length xs - 1) 0)) ≡ length xs =
    length-set xs p (get_or xs (length xs - 1) 0) in
    let m = length-take-le (length xs - 1) (set xs p (get_or xs (length xs - 1) 0)) (omega (arith, n)) in
    omega (arith, m)

pub swapped-here : (xs : List ℕ) (p : ℕ) → p + 1 < length xs
    → get_or (swap_remove xs p 0) p 0 ≡ get_or xs (length xs - 1) 0
swapped-here xs p l = get_or-take (length xs - 1) (set xs p (get_or xs (length xs - 1) 0)) p 0 (omega arith)
    ∙ get_or-set_same xs p (get_or xs (length xs - 1) 0) 0 (omega arith)

pub swapped-other : (xs : List ℕ) (p j : ℕ) → j ≢ p → j + 1 < length xs
    → get_or (swap_remove xs p 0) j 0 ≡ get_or xs j 0
swapped-other xs p j d l = get_or-take (length xs - 1) (set xs p (get_or xs (length xs - 1) 0)) j 0 (omega arith)
    ∙ get_or-set_other xs p j (get_or xs (length xs - 1) 0) 0 d

-- each element that is left was at a place: at its own, or at the last one
pub swapped : (xs : List ℕ) (p j : ℕ) → p < length xs → j + 1 < length xs → (k : ℕ) × (k < length xs) × (k ≢ p)
    × (get_or (swap_remove xs p 0) j 0 ≡ get_or xs k 0) × (((j ≢ p) × (k ≡ j)) ⊎ ((j ≡ p) × (k + 1 ≡ length xs)))
swapped xs p j l m = elim (cases_eq j p) [
  | inl e ↦ (
    length xs - 1,
    omega arith,
    (λ q. let a : p + 1 ≡ length xs = omega arith in absurd (omega (arith, e))),
    ap (λ z. get_or (swap_remove xs p 0) z 0) e ∙ swapped-here xs p (omega (arith, e)),
    inr (e, omega arith),
  )
  | inr d ↦ (j, omega arith, d, swapped-other xs p j d m, inl (d, refl))
]
