-- Numbers of which no two are equal.
use Rattle.std.proofs.Common.{◌≡◌, ◌≢◌, ℕ, suc, ◌<◌, inl, inr, List, [], ◌∷◌, length, get_or, AllPairs, sym, arith}
use Rattle.rg_sched_atomic.specs.Numbers.{In, Distinct}

-- a number stands at a place
record At (ns : List ℕ) (n : ℕ) : Type 0 where
  place : ℕ
  within : place < length ns
  is : (d : ℕ) → get_or ns place d ≡ n

at_of : (ns : List ℕ) (n : ℕ) → In ns n → At ns n
at_of [] n h = absurd h
at_of (m ∷ ns) n (inl e) = record { place = 0; within = omega arith; is = λ d. sym e }
at_of (m ∷ ns) n (inr h) = let a = at_of ns n h in record { place = suc a.place; within = omega (arith, a.within); is = λ d. a.is d }

pub distinct_of : (ns : List ℕ) → AllPairs (λ (m n : ℕ). m ≢ n) ns → Distinct ns
distinct_of [] h = tt
distinct_of (n ∷ ns) h = (out, distinct_of ns (λ i j d l k. h (suc i) (suc j) d (omega (arith, l)) (omega (arith, k))))
  where
    out : In ns n → ⊥
    out x = let a = at_of ns n x in h 0 (suc a.place) 0 (omega arith) (omega (arith, a.within)) (sym (a.is 0))
