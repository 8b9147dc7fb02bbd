-- Values that stand in an object itself, as they are read and appended (docs/architecture.md, "Cargo").
use Rattle.std.proofs.Common.{◌≡◌, ℕ, ◌+◌, ◌<◌, ◌≤◌, zero, suc, List, [], ◌∷◌, ◌++◌, length, Some, None, get_or, set, take}
use Rattle.std.proofs.Common.{refl, ap, sym, ◌∙◌, arith}
use Rattle.std.specs.Prelude.{slice_get}
use Rattle.rg_base.specs.declared.value.Val.{Val}
use Rattle.rg_cown.specs.declared.fields.Kind.{Kind}
use Rattle.rg_cown.specs.Inner.Room.{value_of, values_of}

-- as many as count
pub values-length : (c : ℕ) (ks : List Kind) (ns : List ℕ) → length (values_of c ks ns) ≡ c
values-length zero ks ns = refl
values-length (suc c) [] ns = ap suc (values-length c [] ns)
values-length (suc c) (k ∷ ks) [] = ap suc (values-length c ks [])
values-length (suc c) (k ∷ ks) (n ∷ ns) = ap suc (values-length c ks ns)

-- one of them
pub values-get : (c : ℕ) (ks : List Kind) (ns : List ℕ) (i : ℕ) (d : Kind) (e : ℕ) → i < c → c ≤ length ks → c ≤ length ns
    → slice_get (values_of c ks ns) i ≡ Some (value_of (get_or ks i d) (get_or ns i e))
values-get zero ks ns i d e b l m = absurd (omega (arith, b))
values-get (suc c) [] ns i d e b l m = absurd (omega (arith, l))
values-get (suc c) (k ∷ ks) [] i d e b l m = absurd (omega (arith, m))
values-get (suc c) (k ∷ ks) (n ∷ ns) zero d e b l m = refl
values-get (suc c) (k ∷ ks) (n ∷ ns) (suc i) d e b l m =
    values-get c ks ns i d e (omega (arith, b)) (omega (arith, l)) (omega (arith, m))

-- and none behind them
pub values-past : (c : ℕ) (ks : List Kind) (ns : List ℕ) (i : ℕ) → c ≤ i → slice_get (values_of c ks ns) i ≡ None
values-past zero ks ns i b = refl
values-past (suc c) [] ns zero b = absurd (omega (arith, b))
values-past (suc c) [] ns (suc i) b = values-past c [] ns i (omega (arith, b))
values-past (suc c) (k ∷ ks) [] zero b = absurd (omega (arith, b))
values-past (suc c) (k ∷ ks) [] (suc i) b = values-past c ks [] i (omega (arith, b))
values-past (suc c) (k ∷ ks) (n ∷ ns) zero b = absurd (omega (arith, b))
values-past (suc c) (k ∷ ks) (n ∷ ns) (suc i) b = values-past c ks ns i (omega (arith, b))

-- one more of them counts
pub values-next : (c : ℕ) (ks : List Kind) (ns : List ℕ) (d : Kind) (e : ℕ) → c < length ks → c < length ns
    → values_of (suc c) ks ns ≡ values_of c ks ns ++ value_of (get_or ks c d) (get_or ns c e) ∷ []
values-next c [] ns d e l m = absurd (omega (arith, l))
values-next c (k ∷ ks) [] d e l m = absurd (omega (arith, m))
values-next zero (k ∷ ks) (n ∷ ns) d e l m = refl
values-next (suc c) (k ∷ ks) (n ∷ ns) d e l m =
    ap (λ vs. value_of k n ∷ vs) (values-next c ks ns d e (omega (arith, l)) (omega (arith, m)))

-- one is written behind them
pub values-and : (c : ℕ) (ks : List Kind) (ns : List ℕ) (k : Kind) (n : ℕ) (v : Val) → value_of k n ≡ v → c < length ks → c < length ns
    → values_of (suc c) (set ks c k) (set ns c n) ≡ values_of c ks ns ++ v ∷ []
values-and c [] ns k n v e l m = absurd (omega (arith, l))
values-and c (x ∷ ks) [] k n v e l m = absurd (omega (arith, m))
values-and zero (x ∷ ks) (y ∷ ns) k n v e l m = ap (λ z. z ∷ []) e
values-and (suc c) (x ∷ ks) (y ∷ ns) k n v e l m =
    ap (λ vs. value_of x y ∷ vs) (values-and c ks ns k n v e (omega (arith, l)) (omega (arith, m)))

-- the first of three
pub values-take : (c : ℕ) (k l m : Kind) (x y z : ℕ) → c ≤ 3
    → values_of c (k ∷ l ∷ m ∷ []) (x ∷ y ∷ z ∷ []) ≡ take c (value_of k x ∷ value_of l y ∷ value_of m z ∷ [])
values-take zero k l m x y z b = refl
values-take (suc zero) k l m x y z b = refl
values-take (suc (suc zero)) k l m x y z b = refl
values-take (suc (suc (suc zero))) k l m x y z b = refl
values-take (suc (suc (suc (suc c)))) k l m x y z b = absurd (omega (arith, b))
