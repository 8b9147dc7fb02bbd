-- Pieces that are left, and the next one (docs/architecture.md, "Plans").
use Rattle.std.specs.Prelude.{◌≡◌, ℕ, zero, suc, Bool, true, false, List, [], ◌∷◌, Option, Some, None}
use Rattle.rg_plan.specs.Pieces.{pieces}

-- the pieces of what is left, if something is
abbrev pub left : (mark : ℕ) → Option (List ℕ) → List (List ℕ)
left mark None = []
left mark (Some bytes) = pieces mark bytes

-- what stands behind the byte of a number, if there is one
abbrev pub behind : (at : ℕ) → List ℕ → Option (List ℕ)
behind at [] = None
behind zero (b ∷ bs) = Some bs
behind (suc at) (b ∷ bs) = behind at bs

-- whether no piece is left
abbrev pub is_done : List (List ℕ) → Bool
is_done [] = true
is_done (p ∷ ps) = false

-- the next of some pieces, if there is one, and those behind it
abbrev pub Takes : Option (List ℕ) → (old new : List (List ℕ)) → Type 0
Takes None old new = old ≡ []
Takes (Some piece) old new = old ≡ piece ∷ new
