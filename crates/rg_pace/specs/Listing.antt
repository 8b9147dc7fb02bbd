-- A pacer that answers by a list (docs/architecture.md, "Pacers").
use Rattle.std.specs.Prelude.{Bool, false, List, List.[], ◌∷◌}
use Rattle.rg_pace.specs.Asked.{Asked}

-- what it was asked, and the answers that it hasn't given yet
pub record Listing : Type 0 where
  pub tally : Asked
  pub left : List Bool

-- the first answer; no where there is none
abbrev pub first_or_no : List Bool → Bool
first_or_no [] = false
first_or_no (answer ∷ _) = answer
