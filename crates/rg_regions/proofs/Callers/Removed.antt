-- A record that was removed (docs/architecture.md, "Regions").
use Rattle.std.proofs.Common.{◌≡◌, ℕ, ◌+◌, zero, suc, List, [], ◌∷◌, Option, Some, None, is_some, count_by, cond}
use Rattle.std.proofs.Common.{get_or, set, refl, ap, arith}
use Rattle.std.proofs.lemmas.List.Sums.{sum_by-cons}
use Rattle.rg_regions.specs.Table.{Record}

-- one region less
pub count-removed : (xs : List (Option Record)) (key : ℕ) (r : Record) → get_or xs key None ≡ Some r
    → count_by is_some (set xs key None) + 1 ≡ count_by is_some xs
count-removed [] key r e = cc
count-removed (x ∷ xs) zero r e =
    let a = sum_by-cons (λ y. cond {A = ℕ} (is_some y) 1 0) None xs in
    let b = sum_by-cons (λ y. cond {A = ℕ} (is_some y) 1 0) x xs in
    let d : cond {A = ℕ} (is_some x) 1 0 ≡ 1 = ap (λ (y : Option Record). cond {A = ℕ} (is_some y) 1 0) e in
    omega (arith, a, b, d)
count-removed (x ∷ xs) (suc key) r e =
    let a = sum_by-cons (λ y. cond {A = ℕ} (is_some y) 1 0) x (set xs key None) in
    let b = sum_by-cons (λ y. cond {A = ℕ} (is_some y) 1 0) x xs in
    omega (arith, a, b, count-removed xs key r e)

pub none_there : {X : Type 0} (xs : List (Option X)) (key : ℕ) → get_or (set xs key None) key None ≡ None
none_there [] key = refl
none_there (x ∷ xs) zero = refl
none_there (x ∷ xs) (suc key) = none_there xs key
