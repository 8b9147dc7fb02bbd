-- The instructions of expressions (docs/architecture.md, "Modules").
use Rattle.std.specs.Prelude.{◌≡◌, List, [], ◌∷◌, Option, Some, None}
use Rattle.rg_tree.specs.declared.rows.BinOp.TheVariants as op
use Rattle.rg_code.specs.declared.op.Op.{Op}
use Rattle.rg_code.specs.declared.op.Op.TheVariants as i
use Rattle.rg_verify_expressions.specs.declared.part.Part.{Part}
use Rattle.rg_verify_expressions.specs.declared.part.Part.TheVariants as part
use Rattle.rg_verify_expressions.specs.declared.part.Junction.TheVariants as junctions

-- what an instruction is in an expression
abbrev pub part_of : Op → Option Part
part_of (i.Int z) = Some (part.Int z)
part_of (i.Bool b) = Some (part.Bool b)
part_of i.Nil = Some part.Nil
part_of (i.Load s) = Some (part.Load s)
part_of (i.Field k) = Some (part.Field k)
part_of i.IsNil = Some part.IsNil
part_of i.Size = Some part.Size
part_of i.Check = Some part.Check
part_of i.Bound = Some part.Bound
part_of i.Element = Some part.Element
part_of i.Neg = Some part.Neg
part_of i.Not = Some part.Not
part_of i.Add = Some (part.Operator op.Add)
part_of i.Sub = Some (part.Operator op.Sub)
part_of i.Mul = Some (part.Operator op.Mul)
part_of i.Div = Some (part.Operator op.Div)
part_of i.Rem = Some (part.Operator op.Rem)
part_of i.Eq = Some (part.Operator op.Eq)
part_of i.Ne = Some (part.Operator op.Ne)
part_of i.Lt = Some (part.Operator op.Lt)
part_of i.Le = Some (part.Operator op.Le)
part_of i.Gt = Some (part.Operator op.Gt)
part_of i.Ge = Some (part.Operator op.Ge)
part_of (i.And t) = Some (part.Between junctions.And t)
part_of (i.Or t) = Some (part.Between junctions.Or t)
part_of o = None

-- no instruction of an expression stands in front
abbrev pub Ends : List Op → Type 0
Ends [] = Unit {0}
Ends (o ∷ os) = part_of o ≡ None
