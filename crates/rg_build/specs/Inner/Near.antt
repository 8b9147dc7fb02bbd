-- What the bytes of a module ask of an instruction beyond the types of its numbers (docs/architecture.md, "Modules"): no slot is above the
-- most names that a body has, and no jump leads past an end.
use Rattle.std.specs.Prelude.{ℕ, ◌≤◌}
use Rattle.std.specs.List.{AllByRecursion}
use Rattle.rg_base.specs.declared.limits.TheConstants.{BODY_NAMES}
use Rattle.rg_code.specs.declared.op.Op.{Op}
use Rattle.rg_code.specs.declared.operands.Operand.{Operand}
use Rattle.rg_code.specs.declared.operands.Operand.TheVariants as p
use Rattle.rg_code.specs.Operands.{operands_of}

-- such an operand
abbrev pub IsNearOperand : (end : ℕ) → Operand → Type 0
IsNearOperand end (p.Line n) = Unit {0}
IsNearOperand end (p.Int z) = Unit {0}
IsNearOperand end (p.Bool b) = Unit {0}
IsNearOperand end (p.Slot s) = s ≤ BODY_NAMES
IsNearOperand end (p.From s) = s ≤ BODY_NAMES
IsNearOperand end (p.Field k) = Unit {0}
IsNearOperand end (p.Class c) = Unit {0}
IsNearOperand end (p.Method m) = Unit {0}
IsNearOperand end (p.Address t) = t ≤ end
IsNearOperand end (p.Manager m) = Unit {0}

-- such an instruction
abbrev pub IsNear : (end : ℕ) → Op → Type 0
IsNear end o = AllByRecursion (IsNearOperand end) (operands_of o)
