-- Which steps of the stack machine ask for the input (docs/architecture.md, "The stack machine").
use Rattle.std.specs.Prelude.{Bool as Truth, true, false, List, [], ◌∷◌}
use Rattle.rg_code.specs.declared.op.Op.{Op}
use Rattle.rg_code.specs.declared.op.Op.TheVariants as i

-- whether instructions ask for the input, up to where they end the walk or the frame
abbrev pub reads : List Op → Truth
reads [] = false
reads (i.Mark line ∷ os) = false
reads (i.Jump t ∷ os) = false
reads (i.Call m ∷ os) = false
reads (i.Ret ∷ os) = false
reads (i.RetVoid ∷ os) = false
reads (i.Halt ∷ os) = false
reads (i.Read ∷ os) = true
reads (i.More ∷ os) = true
reads (o ∷ os) = reads os
