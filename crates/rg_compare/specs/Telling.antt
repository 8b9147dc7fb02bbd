-- What an answer says of whether two things are the same (docs/architecture.md, "Modules").
use Rattle.std.specs.Prelude.{◌≡◌, Bool as Truth, true, false}

-- the answer tells whether two things are the same
abbrev pub TellsSame : {A : Type 0} → (answer : Truth) → (one other : A) → Type 0
TellsSame true one other = one ≡ other
TellsSame false one other = one ≡ other → ⊥
