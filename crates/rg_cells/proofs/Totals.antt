-- Totals over the slots after a change at one slot.
use Rattle.std.proofs.Common.{◌≡◌, ◌≢◌, ℕ, ◌+◌, ◌<◌, zero, suc, List, [], ◌∷◌, length, Option, None, get_or, set, refl}
use Rattle.std.proofs.Common.{arith}
use Rattle.rg_cells.specs.declared.cell.Body.{Body}
use Rattle.rg_cells.specs.Table.{total, body_in}

pub total-set : (f : Option Body → ℕ) (xs : List (Option (Option Body))) (k : ℕ) (v old : Option (Option Body)) → k < length xs
    → get_or xs k None ≡ old → total f (set xs k v) + f (body_in old) ≡ total f xs + f (body_in v)
total-set f [] k v old l e = absurd (omega arith)
total-set f (x ∷ xs) zero v old l e = rw (← e) (omega arith)
total-set f (x ∷ xs) (suc k) v old l e = omega (arith, total-set f xs k v old (omega arith) e)

-- lists that agree at each place
pub total-agree : (f : Option Body → ℕ) (xs ys : List (Option (Option Body))) → f None ≡ 0 → ((k : ℕ) → get_or ys k None ≡ get_or xs k None)
    → total f ys ≡ total f xs
total-agree f [] [] z h = refl
total-agree f [] (y ∷ ys) z h = let e : y ≡ None = h 0 in rw e (omega (arith, z, total-agree f [] ys z (λ k. h (suc k))))
total-agree f (x ∷ xs) [] z h = let e : None ≡ x = h 0 in rw (← e) (omega (arith, z, total-agree f xs [] z (λ k. h (suc k))))
total-agree f (x ∷ xs) (y ∷ ys) z h = let e : y ≡ x = h 0 in rw e (omega (arith, total-agree f xs ys z (λ k. h (suc k))))

-- lists that agree but at one place
pub total-update : (f : Option Body → ℕ) (xs ys : List (Option (Option Body))) (key : ℕ) → f None ≡ 0
    → ((k : ℕ) → k ≢ key → get_or ys k None ≡ get_or xs k None)
    → total f ys + f (body_in (get_or xs key None)) ≡ total f xs + f (body_in (get_or ys key None))
total-update f [] [] key z h = refl
total-update f [] (y ∷ ys) zero z h = omega (arith, z, total-agree f [] ys z (λ k. h (suc k) (omega arith)))
total-update f [] (y ∷ ys) (suc key) z h = let e : y ≡ None = h 0 (omega arith) in
    rw e (omega (arith, z, total-update f [] ys key z (λ k d. h (suc k) (λ q. d (omega arith)))))
total-update f (x ∷ xs) [] zero z h = omega (arith, z, total-agree f xs [] z (λ k. h (suc k) (omega arith)))
total-update f (x ∷ xs) [] (suc key) z h = let e : None ≡ x = h 0 (omega arith) in
    rw (← e) (omega (arith, z, total-update f xs [] key z (λ k d. h (suc k) (λ q. d (omega arith)))))
total-update f (x ∷ xs) (y ∷ ys) zero z h = omega (arith, total-agree f xs ys z (λ k. h (suc k) (omega arith)))
total-update f (x ∷ xs) (y ∷ ys) (suc key) z h = let e : y ≡ x = h 0 (omega arith) in
    rw e (omega (arith, total-update f xs ys key z (λ k d. h (suc k) (λ q. d (omega arith)))))
