-- An instruction from its number and its operands (docs/architecture.md, "Modules").
use Rattle.std.specs.Prelude.{ℕ, ℤ, pos, Bool as Truth, false, List, [], ◌∷◌, slice_get, Option, option_map}
use Rattle.rg_base.specs.declared.words.Manager.{Manager}
use Rattle.rg_base.specs.declared.words.Manager.TheVariants as managers
use Rattle.rg_code.specs.declared.op.Op.{Op}
use Rattle.rg_code.specs.declared.op.Op.TheVariants as i
use Rattle.rg_code.specs.declared.operands.Operand.{Operand}
use Rattle.rg_code.specs.declared.operands.Operand.TheVariants as p
use Rattle.rg_spell.specs.declared.makings.TheConstants.{BLANKS}

-- What an operand has of each kind; what it doesn't have is 0, `false` or `arena`, and so is that of an operand that isn't there.

abbrev pub line : Operand → ℕ
line (p.Line n) = n
line a = 0

abbrev pub value : Operand → ℤ
value (p.Int z) = z
value a = pos 0

abbrev pub truth : Operand → Truth
truth (p.Bool b) = b
truth a = false

abbrev pub number : Operand → ℕ
number (p.Slot s) = s
number (p.From s) = s
number (p.Field k) = k
number (p.Class c) = c
number (p.Method m) = m
number a = 0

abbrev pub address : Operand → ℕ
address (p.Address t) = t
address a = 0

abbrev pub manager : Operand → Manager
manager (p.Manager m) = m
manager a = managers.Arena

abbrev pub first : List Operand → Operand
first [] = p.Line 0
first (a ∷ ps) = a

abbrev pub second : List Operand → Operand
second [] = p.Line 0
second (a ∷ []) = p.Line 0
second (a ∷ b ∷ ps) = b

-- an instruction with other operands; one that has none stays
abbrev pub with_operands : Op → List Operand → Op
with_operands (i.Mark n) ps = i.Mark (line (first ps))
with_operands (i.Int z) ps = i.Int (value (first ps))
with_operands (i.Bool b) ps = i.Bool (truth (first ps))
with_operands (i.Load s) ps = i.Load (number (first ps))
with_operands (i.Clear s) ps = i.Clear (number (first ps))
with_operands (i.Store s) ps = i.Store (number (first ps))
with_operands (i.Own s) ps = i.Own (number (first ps))
with_operands (i.Field k) ps = i.Field (number (first ps))
with_operands (i.Jump t) ps = i.Jump (address (first ps))
with_operands (i.JumpFalse t) ps = i.JumpFalse (address (first ps))
with_operands (i.And t) ps = i.And (address (first ps))
with_operands (i.Or t) ps = i.Or (address (first ps))
with_operands (i.New c) ps = i.New (number (first ps))
with_operands (i.NewTmp c) ps = i.NewTmp (number (first ps))
with_operands (i.NewIso c m) ps = i.NewIso (number (first ps)) (manager (second ps))
with_operands (i.Put k) ps = i.Put (number (first ps))
with_operands (i.Swap s k) ps = i.Swap (number (first ps)) (number (second ps))
with_operands (i.Freeze s) ps = i.Freeze (number (first ps))
with_operands (i.Merge s) ps = i.Merge (number (first ps))
with_operands (i.Call m) ps = i.Call (number (first ps))
with_operands (i.Enter s z) ps = i.Enter (number (first ps)) (number (second ps))
with_operands (i.EnterField k z) ps = i.EnterField (number (first ps)) (number (second ps))
with_operands (i.Leave s) ps = i.Leave (number (first ps))
with_operands (i.End s) ps = i.End (number (first ps))
with_operands (i.NewArray c) ps = i.NewArray (number (first ps))
with_operands (i.NewTmpArray c) ps = i.NewTmpArray (number (first ps))
with_operands (i.NewIsoArray c m) ps = i.NewIsoArray (number (first ps)) (manager (second ps))
with_operands (i.LeaveGiving w z) ps = i.LeaveGiving (number (first ps)) (number (second ps))
with_operands o ps = o

-- the instruction with a number and operands, if the number is one's
abbrev pub of_parts : (number : ℕ) → List Operand → Option Op
of_parts n ps = option_map (λ o. with_operands o ps) (slice_get BLANKS n)
