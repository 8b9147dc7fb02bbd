-- The number that digits write, within a limit.
use Rattle.std.proofs.Common.{◌≡◌, ℕ, ◌<◌, nat_lt, Bool, true, false, if◌then◌else◌, List, [], ◌∷◌, Some, None, option_and_then, refl, arith}
use Rattle.std.specs.List.{list_all}
use Rattle.std.proofs.lemmas.Bool.Decides.{nat_tests}
use Rattle.rg_base.specs.Input.{digits_number}
use Rattle.rg_base.specs.Pieces.{is_digit}
use Rattle.rg_base.specs.Tokens.{value_of}
use Rattle.rg_input.specs.Inner.Limit.{at_most}

-- the value is past the limit
past_by : (t : Bool) (most v : ℕ) → most < v → option_and_then (at_most most) (if t then Some v else None) ≡ None
past_by false most v past = refl
past_by true most v past = let test : nat_lt most v ≡ true = grind (arith, nat_tests) in rw test refl

pub number-past : (most : ℕ) (bytes : List ℕ) → most < value_of bytes → option_and_then (at_most most) (digits_number bytes) ≡ None
number-past most [] past = refl
number-past most (b ∷ bs) past = past_by (list_all is_digit (b ∷ bs)) most (value_of (b ∷ bs)) past
