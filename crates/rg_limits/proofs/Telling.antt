-- What tells that something holds of all of a list.
use Rattle.std.proofs.Common.{◌≡◌, ℕ, zero, suc, ◌<◌, List, [], ◌∷◌, length, get_or, map, sym, subst, arith}
use Rattle.std.specs.List.{AllByRecursion}

-- where it holds of the rest, it holds of the whole
abbrev pub AllGoOn : {X : Type 0} (P : X → Type 0) (rest whole : List X) → Type 0
AllGoOn P rest whole = AllByRecursion P rest → AllByRecursion P whole

pub all-goes-on : {X : Type 0} (P : X → Type 0) (rest tail whole : List X) (x : X) → rest ≡ x ∷ tail → AllGoOn P rest whole → P x
    → AllGoOn P tail whole
all-goes-on P rest tail whole x e h p = λ others. (subst (λ (r : List _). AllGoOn P r whole) e h) (p, others)

-- where it doesn't hold of one, it doesn't hold of all
all-at : {X : Type 0} (P : X → Type 0) (f : ℕ → X) (xs : List ℕ) (i : ℕ) → i < length xs → AllByRecursion P (map f xs) → P (f (get_or xs i 0))
all-at P f [] i l h = absurd (omega arith)
all-at P f (x ∷ xs) zero l h = h.0
all-at P f (x ∷ xs) (suc i) l h = all-at P f xs i (omega arith) h.1

pub all-fails : {X : Type 0} (P : X → Type 0) (f : ℕ → X) (xs : List ℕ) (i : ℕ) (whole : List X) → i < length xs → map f xs ≡ whole
    → (P (f (get_or xs i 0)) → ⊥) → AllByRecursion P whole → ⊥
all-fails P f xs i whole l e h all = h (all-at P f xs i l (subst (AllByRecursion P) (sym e) all))
