-- Operators on values, by what the checked operations on `i64` give. For callers.
use Rattle.std.proofs.Common.{◌≡◌, refl, sym, ap, ◌∙◌, zero, suc, ℤ, pos, negsuc, Bool, true, false, Option, Some, None, option_map, ok_or, Ok, Err}
use Rattle.std.proofs.Common.{SomeIff, if◌then◌else◌, arith}
use Rattle.std.specs.Int.{w64, CanDivide, IsNonZero}
use Rattle.std.specs.Int.RustNames.{FitsSigned, int_div}
use Rattle.std.proofs.lemmas.Int.{ints}
use Rattle.rg_base.specs.declared.value.Val.TheVariants.{Int}
use Rattle.rg_base.specs.declared.outcome.Trap.TheVariants.{Overflow, Zero}
use Rattle.rg_base.specs.Input.{in_range}
use Rattle.rg_rules.specs.Values.{Computed, number_value, is_zero, divided}

-- a number is one of 64 bits exactly where it fits
pub in_range-true : (z : ℤ) → FitsSigned w64 z → in_range z ≡ true
in_range-true (pos n) h = grind (arith, ints)
in_range-true (negsuc n) h = grind (arith, ints)

pub FitsSigned-in_range : (z : ℤ) → in_range z ≡ true → FitsSigned w64 z
FitsSigned-in_range (pos n) h = grind (arith, ints)
FitsSigned-in_range (negsuc n) h = grind (arith, ints)

-- what a checked operation gives, as a value or the trap
abbrev pub checked : Option ℤ → Computed
checked r = ok_or (option_map Int r) Overflow

number_value_by : (b : Bool) (z : ℤ) (r : Option ℤ) → in_range z ≡ b → SomeIff r (FitsSigned w64 z) z →
    checked r ≡ (if b then Ok (Int z) else Err Overflow)
number_value_by true z (Some x) e h = ap (λ y. Ok (Int y)) h.1
number_value_by true z None e h = absurd (h (FitsSigned-in_range z e))
number_value_by false z (Some x) e h = let f : false ≡ true = sym e ∙ in_range-true z h.0 in grind arith
number_value_by false z None e h = refl

-- a sum, a difference, a product or a negation
pub number_value-checked : (z : ℤ) (r : Option ℤ) → SomeIff r (FitsSigned w64 z) z → checked r ≡ number_value z
number_value-checked z r h = number_value_by (in_range z) z r refl h

-- a zero divisor
pub divided-zero : (x y z : ℤ) → y ≡ pos 0 → divided x y z ≡ Err Zero
divided-zero x y z h = rw h refl

divided_by : (y : ℤ) → FitsSigned w64 y → ¬ (y ≡ pos 0) → (is_zero y ≡ false) × IsNonZero w64 y
divided_by (pos zero) f h = absurd (h refl)
divided_by (pos (suc n)) f h = (refl, omega (arith, ints, f))
divided_by (negsuc n) f h = (refl, omega (arith, ints, f))

divided_range_by : (b : Bool) (x y z : ℤ) (r : Option ℤ) → in_range (int_div x y) ≡ b → IsNonZero w64 y → SomeIff r (CanDivide w64 x y) z →
    checked r ≡ (if b then Ok (Int z) else Err Overflow)
divided_range_by true x y z (Some w) e n h = ap (λ v. Ok (Int v)) h.1
divided_range_by true x y z None e n h = absurd (h (n, FitsSigned-in_range (int_div x y) e))
divided_range_by false x y z (Some w) e n h = let f : false ≡ true = sym e ∙ in_range-true (int_div x y) h.0.1 in grind arith
divided_range_by false x y z None e n h = refl

-- a quotient or a remainder by another divisor
pub divided-checked : (x y z : ℤ) (r : Option ℤ) → FitsSigned w64 y → ¬ (y ≡ pos 0) → SomeIff r (CanDivide w64 x y) z → checked r ≡ divided x y z
divided-checked x y z r f n h = let d = divided_by y f n in rw d.0 (divided_range_by (in_range (int_div x y)) x y z r refl d.1 h)
