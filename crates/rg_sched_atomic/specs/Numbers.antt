-- Numbers in lists.
use Rattle.std.specs.Prelude.{◌≡◌, ℕ, ⊤, ◌⊎◌, List, [], ◌∷◌}

-- a number stands in a list
abbrev pub In : List ℕ → ℕ → Type 0
In [] n = ⊥
In (m ∷ ms) n = (n ≡ m) ⊎ In ms n

-- no number stands twice
abbrev pub Distinct : List ℕ → Type 0
Distinct [] = ⊤
Distinct (n ∷ ns) = (In ns n → ⊥) × Distinct ns
