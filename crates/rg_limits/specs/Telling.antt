-- What an answer tells of a fact.
use Rattle.std.specs.Prelude.{Bool as Truth, true, false}

-- the answer tells whether P holds
abbrev pub Tells : (answer : Truth) → (P : Type 0) → Type 0
Tells true P = P
Tells false P = P → ⊥
