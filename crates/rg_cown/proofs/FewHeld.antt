-- Different slots of held cells are no more than slots that were ever held (docs/architecture.md, "Cargo").
use Rattle.std.proofs.Common.{◌≡◌, ℕ, ◌≤◌, ◌||◌, true, false, IsSome, List, [], ◌∷◌, length, Option, Some, None, refl, sym, ap, ◌∙◌, arith, inl}
use Rattle.std.proofs.Common.{inr, sum_by}
use Rattle.std.specs.Prelude.{nat_eq}
use Rattle.std.specs.Prelude.{eqb}
use Rattle.std.specs.List.{list_any, IsDistinct, AllByRecursion}
use Rattle.std.proofs.lemmas.List.Sums.{sum_by-cons}
use Rattle.std.proofs.lemmas.Bool.Decides.{eqb_tells}
use Rattle.std.proofs.lemmas.Bool.{false≢true}
use Rattle.rg_cells.specs.declared.cell.Body.{Body}
use Rattle.rg_cells.specs.Table.{Heap, body_at, one, high_of}
use Rattle.rg_regions.specs.Table.{Has}
use Rattle.rg_regions.proofs.Callers.Shares.{Distinct, share, sum-agree, parted-le}
use Rattle.rg_cown.specs.Inner.Reads.{Lasts}
use Rattle.rg_cown.proofs.ObjectsRead.{lasts_held}
use Rattle.rg_cown.proofs.Rising.{held_high}

has_any : (xs : List ℕ) (s : ℕ) → Has xs s → list_any (nat_eq s) xs ≡ true
has_any [] s m = absurd m
has_any (x ∷ xs) s m = elim (eqb_tells s x) [
  | inl t ↦ ap (λ z. z || list_any (nat_eq s) xs) t.0
  | inr t ↦ elim m [
    | inl q ↦ absurd (t.1 q)
    | inr n ↦ ap (λ z. z || list_any (nat_eq s) xs) t.0 ∙ has_any xs s n
  ]
]

apart : (x : ℕ) (xs : List ℕ) → AllByRecursion (λ y. eqb x y ≡ false) xs → Has xs x → ⊥
apart x [] a m = m
apart x (y ∷ xs) a m = elim m [
  | inl q ↦ elim (eqb_tells x y) [ inl t ↦ false≢true (sym a.0 ∙ t.0) | inr t ↦ t.1 q ]
  | inr n ↦ apart x xs a.1 n
]

pub distinct : (xs : List ℕ) → IsDistinct eqb xs → Distinct xs
unfolding IsDistinct
distinct [] d = tt
distinct (x ∷ xs) d = (apart x xs d.0, distinct xs d.1)

ones : (xs : List ℕ) → sum_by (λ x. 1) xs ≡ length xs
ones [] = refl
ones (x ∷ xs) = let n = sum_by-cons (λ (z : ℕ). 1) x xs in let l = ones xs in omega (arith, n, l)

one_held : (o : Option Body) → IsSome o → one o ≡ 1
one_held None e = cc
one_held (Some b) e = refl

pub held_few : (h : Heap) (xs : List ℕ) → IsDistinct eqb xs → ((s : ℕ) → list_any (nat_eq s) xs ≡ true → Lasts h s) → length xs ≤ high_of h
held_few h xs d last =
    let each = sum-agree (share one h.slots) (λ x. 1) xs (λ x m. one_held (body_at h x) (lasts_held h x (last x (has_any xs x m)))) in
    let all = parted-le one refl h.slots xs (distinct xs d) in
    let n = ones xs in
    let l = held_high h.slots in
    omega (arith, each, all, n, l)
