-- Codes of programs with other lines, computed: which lines their marks have.
use Rattle.std.proofs.Common.{◌≡◌, refl, pos, [], ◌∷◌}
use Rattle.rg_tree.specs.Tree.{int}
use Rattle.rg_code.specs.declared.op.Op.TheVariants as i
use Rattle.rg_code.specs.Lowering.{lowered}
use Rattle.rg_lines.proofs.Examples.{dividing, resting}

-- the lines of statements and of main; those of the class, of its field and of its method with a result aren't there
dividing-code : (lowered (dividing int 1 2 3 4)).ops ≡
    i.Mark 6 ∷ i.New 0 ∷ i.Store 0 ∷ i.Pace ∷ i.Mark 7 ∷ i.Load 0 ∷ i.Check ∷ i.Room ∷ i.Call 0 ∷ i.Pop ∷ i.Mark 5 ∷ i.End 0 ∷ i.Halt
    ∷ i.Mark 4 ∷ i.Int (pos 1) ∷ i.Int (pos 0) ∷ i.Div ∷ i.Ret ∷ []
dividing-code = refl

elsewhere-code : lowered (dividing int 10 20 30 4) ≡ lowered (dividing int 1 2 3 4)
elsewhere-code = refl

-- a method without a result ends with a mark of its line
resting-code : (lowered (resting 2)).ops ≡ i.Mark 3 ∷ i.End 0 ∷ i.Halt ∷ i.Mark 2 ∷ i.RetVoid ∷ []
resting-code = refl
