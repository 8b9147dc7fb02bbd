-- Whether something is left to do (docs/architecture.md, "The stack machine").
use Rattle.std.specs.Prelude.{List, [], ◌∷◌}
use Rattle.rg_rules.specs.Items.{Item}

-- nothing is left to do
abbrev pub NoneLeft : List Item → Type 0
NoneLeft [] = Unit {0}
NoneLeft (i ∷ rest) = ⊥

-- something is left to do
abbrev pub SomeLeft : List Item → Type 0
SomeLeft [] = ⊥
SomeLeft (i ∷ rest) = Unit {0}
