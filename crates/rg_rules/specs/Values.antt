-- Operators on values (docs/language.md, "Steps"). A value of another kind than is needed counts as 0, `false` or nil.
use Rattle.std.specs.Prelude.{zero, suc, ℤ, pos, negsuc, ◌+ℤ◌, ◌-ℤ◌, ◌*ℤ◌, int_div, int_rem, int_lt, int_le, ◌==◌, Bool as Truth, true, false, not}
use Rattle.std.specs.Prelude.{◌||◌, ◌&&◌, if◌then◌else◌, Result, Ok, Err}
use Rattle.rg_base.specs.declared.value.Val.{Val}
use Rattle.rg_base.specs.declared.value.Val.TheVariants.{Nil, Int, Bool, Obj}
use Rattle.rg_base.specs.declared.outcome.Trap.{Trap}
use Rattle.rg_base.specs.declared.outcome.Trap.TheVariants.{Overflow, Zero}
use Rattle.rg_base.specs.Input.{in_range}
use Rattle.rg_tree.specs.declared.rows.BinOp.{BinOp}
use Rattle.rg_tree.specs.declared.rows.BinOp.TheVariants.{Or, And, Eq, Ne, Lt, Le, Gt, Ge, Add, Sub, Mul, Div, Rem}

-- a value, or a trap
abbrev pub Computed : Type 0
Computed = Result Val Trap

-- the number that a value is
abbrev pub as_int : Val → ℤ
as_int Nil = pos 0
as_int (Int z) = z
as_int (Bool b) = pos 0
as_int (Obj a) = pos 0

-- the truth value that a value is
abbrev pub as_bool : Val → Truth
as_bool Nil = false
as_bool (Int z) = false
as_bool (Bool b) = b
as_bool (Obj a) = false

-- whether a value leads to no object
abbrev pub is_nil_value : Val → Truth
is_nil_value Nil = true
is_nil_value (Int z) = true
is_nil_value (Bool b) = true
is_nil_value (Obj a) = false

-- a number, if it is one of 64 bits
abbrev pub number_value : ℤ → Computed
number_value z = if in_range z then Ok (Int z) else Err Overflow

-- whether a number is 0
abbrev pub is_zero : ℤ → Truth
is_zero (pos zero) = true
is_zero (pos (suc n)) = false
is_zero (negsuc n) = false

-- The quotient or the remainder of two numbers, which is z. Division truncates, and the remainder has the sign of the dividend;
-- both trap where the divisor is 0, and where the quotient is no number of 64 bits.
abbrev pub divided : ℤ → ℤ → (z : ℤ) → Computed
divided x y z = if is_zero y then Err Zero else (if in_range (int_div x y) then Ok (Int z) else Err Overflow)

-- whether two numbers are equal
abbrev pub same_int : ℤ → ℤ → Truth
same_int (pos a) (pos b) = a == b
same_int (pos a) (negsuc b) = false
same_int (negsuc a) (pos b) = false
same_int (negsuc a) (negsuc b) = a == b

-- whether two truth values are equal
abbrev pub same_truth : Truth → Truth → Truth
same_truth true b = b
same_truth false b = not b

-- whether two values are equal; references are where both are nil or lead to one object
abbrev pub same_value : Val → Val → Truth
same_value Nil Nil = true
same_value Nil (Int y) = false
same_value Nil (Bool y) = false
same_value Nil (Obj b) = false
same_value (Int x) Nil = false
same_value (Int x) (Int y) = same_int x y
same_value (Int x) (Bool y) = false
same_value (Int x) (Obj b) = false
same_value (Bool x) Nil = false
same_value (Bool x) (Int y) = false
same_value (Bool x) (Bool y) = same_truth x y
same_value (Bool x) (Obj b) = false
same_value (Obj a) Nil = false
same_value (Obj a) (Int y) = false
same_value (Obj a) (Bool y) = false
same_value (Obj a) (Obj b) = a == b

-- an operator on two values
abbrev pub operate : BinOp → Val → Val → Computed
operate Or x y = Ok (Bool (as_bool x || as_bool y))
operate And x y = Ok (Bool (as_bool x && as_bool y))
operate Eq x y = Ok (Bool (same_value x y))
operate Ne x y = Ok (Bool (not (same_value x y)))
operate Lt x y = Ok (Bool (int_lt (as_int x) (as_int y)))
operate Le x y = Ok (Bool (int_le (as_int x) (as_int y)))
operate Gt x y = Ok (Bool (int_lt (as_int y) (as_int x)))
operate Ge x y = Ok (Bool (int_le (as_int y) (as_int x)))
operate Add x y = number_value (as_int x +ℤ as_int y)
operate Sub x y = number_value (as_int x -ℤ as_int y)
operate Mul x y = number_value (as_int x *ℤ as_int y)
operate Div x y = divided (as_int x) (as_int y) (int_div (as_int x) (as_int y))
operate Rem x y = divided (as_int x) (as_int y) (int_rem (as_int x) (as_int y))

-- whether the left operand alone decides: a true one of `or`, a false one of `and`
abbrev pub decides : BinOp → Val → Truth
decides Or x = as_bool x
decides And x = not (as_bool x)
decides Eq x = false
decides Ne x = false
decides Lt x = false
decides Le x = false
decides Gt x = false
decides Ge x = false
decides Add x = false
decides Sub x = false
decides Mul x = false
decides Div x = false
decides Rem x = false
