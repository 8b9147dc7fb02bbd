-- Numbers that may not be of 64 bits (docs/language.md, "Steps").
use Rattle.std.specs.Prelude.{ℤ, Option, Some, None, Ok, Err}
use Rattle.rg_base.specs.declared.value.Val.TheVariants.{Int}
use Rattle.rg_base.specs.declared.outcome.Trap.TheVariants.{Overflow}
use Rattle.rg_rules.specs.Values.{Computed}

-- a number, or the trap
abbrev pub unless_overflow : Option ℤ → Computed
unless_overflow (Some z) = Ok (Int z)
unless_overflow None = Err Overflow
