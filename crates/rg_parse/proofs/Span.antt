-- Spans of tokens in order lie in their source.
use Rattle.std.proofs.Common.{ℕ, ◌<◌, ◌≤◌, List, [], ◌∷◌, arith}
use Rattle.rg_base.specs.declared.token.Token.{Token}
use Rattle.rg_lex.specs.Places.{AreSpans}
use Rattle.rg_reader.specs.Heads.{AreWithin}

-- spans in order end behind where they begin
AreSpans-le : (from to : ℕ) (ts : List Token) → AreSpans from to ts → from ≤ to
AreSpans-le from to [] h = h
AreSpans-le from to (t ∷ ts) h = omega (arith, h.0, h.1, AreSpans-le t.to to ts h.2)

-- tokens in order have their texts in the source
pub AreWithin-spans : (from to : ℕ) (ts : List Token) → AreSpans from to ts → AreWithin to ts
AreWithin-spans from to [] h = tt
AreWithin-spans from to (t ∷ ts) h =
    let before : t.from < t.to = h.1 in
    ((omega arith, AreSpans-le t.to to ts h.2), AreWithin-spans t.to to ts h.2)
