-- Bytes cut at each byte of one kind: a plan into its lines, and a line into its words (docs/architecture.md, "Plans").
use Rattle.std.specs.Prelude.{ℕ, ◌==◌, Bool, true, false, List, [], ◌∷◌}

-- a byte in front of the first piece
abbrev pub onto : ℕ → List (List ℕ) → List (List ℕ)
onto b [] = (b ∷ []) ∷ []
onto b (p ∷ ps) = (b ∷ p) ∷ ps

-- a byte in front of pieces: a mark ends a piece
abbrev pub in_front : (is_mark : Bool) → ℕ → List (List ℕ) → List (List ℕ)
in_front true b ps = [] ∷ ps
in_front false b ps = onto b ps

-- what stands in front of, between and behind the marks: one piece more than there are marks
abbrev pub pieces : (mark : ℕ) → List ℕ → List (List ℕ)
pieces mark [] = [] ∷ []
pieces mark (b ∷ bs) = in_front (b == mark) b (pieces mark bs)
