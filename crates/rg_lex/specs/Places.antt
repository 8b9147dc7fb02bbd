-- Where the tokens of a source stand (docs/language.md, "Tokens").
use Rattle.std.specs.Prelude.{ℕ, ◌<◌, ◌≤◌, List, [], ◌∷◌}
use Rattle.rg_base.specs.declared.token.Token.{Token}

-- each token has a byte and begins at or behind the end of the one before; all stand between the places
abbrev pub AreSpans : ℕ → ℕ → List Token → Type 0
AreSpans from to [] = from ≤ to
AreSpans from to (t ∷ ts) = (from ≤ t.from) × (t.from < t.to) × AreSpans t.to to ts

-- no token stands on a line before the one in front of it; all stand from the first line to the last
abbrev pub AreLines : ℕ → ℕ → List Token → Type 0
AreLines first last [] = first ≤ last
AreLines first last (t ∷ ts) = (first ≤ t.line) × AreLines t.line last ts
