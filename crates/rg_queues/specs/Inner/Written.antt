-- What is written at cowns.
use Rattle.std.specs.Prelude.{ℕ, List, [], ◌∷◌, Option, Some, slice_set}

-- a number is written at each of these cowns
abbrev pub written : (cowns : List ℕ) → ℕ → List (Option ℕ) → List (Option ℕ)
written [] k xs = xs
written (n ∷ ns) k xs = written ns k (slice_set xs n (Some k))
