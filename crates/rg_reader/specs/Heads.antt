-- Tokens whose texts lie in their source (docs/language.md, "Tokens").
use Rattle.std.specs.Prelude.{ℕ, ◌≤◌, List, [], ◌∷◌}
use Rattle.rg_base.specs.declared.token.Token.{Token}

-- the token's text lies in so many bytes
abbrev pub IsWithin : ℕ → Token → Type 0
IsWithin n t = (t.from ≤ t.to) × (t.to ≤ n)

-- so do the texts of all
abbrev pub AreWithin : ℕ → List Token → Type 0
AreWithin n [] = Unit {0}
AreWithin n (t ∷ ts) = IsWithin n t × AreWithin n ts
