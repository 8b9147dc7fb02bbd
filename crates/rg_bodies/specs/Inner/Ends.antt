-- How a reader of code knows that a block ended by a `return`.
use Rattle.std.specs.Prelude.{ℕ, ◌-◌, nat_lt, ◌&&◌, Bool as Truth, false, true, List, Option, Some, None}
use Rattle.rg_code.specs.declared.op.Op.{Op}
use Rattle.rg_code.specs.declared.op.Op.TheVariants as i
use Rattle.rg_verify_expressions.specs.Blocks.{sign}

-- the end of a call with a result
abbrev pub return_of : Op → Option (Unit {0})
return_of i.Ret = Some tt
return_of o = None

-- whether there is something
abbrev pub is_there : Option (Unit {0}) → Truth
is_there None = false
is_there (Some x) = true

-- whether code from an address up to another one ends by `ret`
abbrev pub is_returned : List Op → (from end : ℕ) → Truth
is_returned ops from end = nat_lt from end && is_there (sign return_of ops (end - 1))
