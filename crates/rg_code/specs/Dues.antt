-- Which steps of the stack machine may collect (docs/architecture.md, "The stack machine").
use Rattle.std.specs.Prelude.{ℕ, ◌+◌, List, [], ◌∷◌, Option, Some, None, drop}
use Rattle.rg_base.specs.declared.event.Cause.{Cause}
use Rattle.rg_base.specs.declared.event.Cause.TheVariants.{Asked, Paced}
use Rattle.rg_code.specs.declared.op.Op.{Op}
use Rattle.rg_code.specs.declared.op.Op.TheVariants as i

-- why instructions may collect the active region, up to where they end the walk or the frame: they have `collect`, or `pace`
abbrev pub due : List Op → Option Cause
due [] = None
due (i.Mark line ∷ os) = None
due (i.Jump t ∷ os) = None
due (i.Call m ∷ os) = None
due (i.Ret ∷ os) = None
due (i.RetVoid ∷ os) = None
due (i.Halt ∷ os) = None
due (i.Collect ∷ os) = Some Asked
due (i.Pace ∷ os) = Some Paced
due (o ∷ os) = due os

-- why the step at a mark may
abbrev pub due_at : List Op → (at : ℕ) → Option Cause
due_at code at = due (drop (at + 1) code)
