-- Parts that are read one behind the other without a loop.
use Rattle.std.proofs.Common.{◌≡◌, ℕ, zero, suc, ◌-◌, ◌<◌, List, ◌∷◌, take, Option, Some, None, refl, subst, arith}
use Rattle.rg_spell.specs.Reading.{many_at}

-- no part is asked for
pub none-asked : {A : Type 0} (reader : List ℕ → Option (A × List ℕ)) (count : ℕ) (bytes : List ℕ) (others : List A) → count ≡ 0
    → many_at reader count bytes ≡ Some (take count others, bytes)
unfolding many_at
none-asked reader count bytes others e = rw e refl

-- the first one isn't there
pub first-missing : {A : Type 0} (reader : List ℕ → Option (A × List ℕ)) (count : ℕ) (bytes : List ℕ) → 0 < count → reader bytes ≡ None
    → many_at reader count bytes ≡ None
unfolding many_at
first-missing reader zero bytes lt h = absurd (omega (arith, lt))
first-missing reader (suc n) bytes lt h = rw h refl

-- those behind it aren't
pub others-missing : {A : Type 0} (reader : List ℕ → Option (A × List ℕ)) (count : ℕ) (bytes : List ℕ) (a : A) (after : List ℕ) → 0 < count
    → reader bytes ≡ Some (a, after) → many_at reader (count - 1) after ≡ None → many_at reader count bytes ≡ None
unfolding many_at
others-missing reader zero bytes a after lt h o = absurd (omega (arith, lt))
others-missing reader (suc n) bytes a after lt h o =
    let k : suc n - 1 ≡ n = omega arith in
    let others : many_at reader n after ≡ None = subst (λ (z : ℕ). many_at reader z after ≡ None) k o in
    rw (h, others) refl

-- all are there
pub all-there : {A : Type 0} (reader : List ℕ → Option (A × List ℕ)) (count : ℕ) (bytes : List ℕ) (a : A) (after : List ℕ) (others : List A)
    (rest : List ℕ) → 0 < count → reader bytes ≡ Some (a, after) → many_at reader (count - 1) after ≡ Some (take (count - 1) others, rest)
    → many_at reader count bytes ≡ Some (take count (a ∷ others), rest)
unfolding many_at
all-there reader zero bytes a after others rest lt h o = absurd (omega (arith, lt))
all-there reader (suc n) bytes a after others rest lt h o =
    let k : suc n - 1 ≡ n = omega arith in
    let behind : many_at reader n after ≡ Some (take n others, rest) =
    subst (λ (z : ℕ). many_at reader z after ≡ Some (take z others, rest)) k o in
    rw (h, behind) refl
