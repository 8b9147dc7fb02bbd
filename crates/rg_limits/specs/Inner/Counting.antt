-- What an answer tells of how much is left where a number is counted down.
use Rattle.std.specs.Prelude.{◌≡◌, ℕ, ◌+◌, ◌≤◌, Option, Some, None}

-- The answer is what is left of a number where so many are taken from it and P holds, and none where there are more or P doesn't hold.
abbrev pub Leaves : (left taken : ℕ) → (P : Type 0) → (answer : Option ℕ) → Type 0
Leaves left taken P (Some rest) = (taken + rest ≡ left) × P
Leaves left taken P None = taken ≤ left → P → ⊥
