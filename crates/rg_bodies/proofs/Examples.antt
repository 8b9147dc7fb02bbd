-- Bodies told from code, and code that no bodies have, computed.
use Rattle.std.proofs.Common.{◌≡◌, pos, List, [], ◌∷◌, ◌++◌, Some, None, refl}
use Rattle.rg_base.specs.declared.words.Cap.TheVariants as cap
use Rattle.rg_base.specs.declared.ty.Ty.{Ty}
use Rattle.rg_base.specs.declared.ty.Ty.TheVariants as ty
use Rattle.rg_code.specs.declared.op.Op.{Op}
use Rattle.rg_code.specs.declared.op.Op.TheVariants as i
use Rattle.rg_spell.specs.declared.rows.Head.{Head}
use Rattle.rg_verify_expressions.specs.Raised.{number, path}
use Rattle.rg_verify_expressions.specs.Statements.{Block, empty, next, print, collect, return}
use Rattle.rg_verify_expressions.specs.Raising.{walk, raised}
use Rattle.rg_verify_expressions.specs.Blocks.{Given, block_told}
use Rattle.rg_bodies.specs.Bodies.{Bodies, bodies_told}
use Rattle.rg_bodies.specs.Standing.{BodiesStand}

-- code without a map that is read
abbrev of_ops : List Op → Given
of_ops ops = record { ops = ops; maps = []; methods = [] }

-- `print 7;`, with main's end on line 2
abbrev seven_ops : List Op
seven_ops = i.Mark 1 ∷ i.Int (pos 7) ∷ i.Print ∷ i.Mark 2 ∷ i.End 0 ∷ i.Halt ∷ []

abbrev seven : Bodies
seven = record { main = record { block = next 1 (print (number (pos 7))) empty; line = 2 }; methods = [] }

seven-told : bodies_told (of_ops seven_ops) 64 [] ≡ Some seven
unfolding block_told raised walk
seven-told = refl

seven-stands : BodiesStand (of_ops seven_ops) [] seven
seven-stands = record { code = refl; main = record { block = (tt, (λ e. refl), tt); end = tt }; methods = tt }

-- `def mut m0() { collect; }` and `def mut m1(v1: iso c0): iso c0 { return v1; }`
abbrev iso : Ty
iso = ty.Ref cap.Iso 0

abbrev heads : List Head
heads =
    record { class = 0; cap = cap.Mut; params = []; result = None }
    ∷ record { class = 0; cap = cap.Mut; params = iso ∷ []; result = Some iso } ∷ []

abbrev empty_main : List Op
empty_main = i.Mark 1 ∷ i.End 0 ∷ i.Halt ∷ []

-- what `v1` owns is used up: slot 0 has the receiver
abbrev giving_ops : List Op
giving_ops = i.Mark 4 ∷ i.Load 1 ∷ i.Clear 1 ∷ i.Ret ∷ []

abbrev two_ops : List Op
two_ops = empty_main ++ (i.Mark 2 ∷ i.Collect ∷ i.Mark 3 ∷ i.RetVoid ∷ giving_ops)

abbrev two : Bodies
two = record {
  main = record { block = empty; line = 1 };
  methods =
      record { block = next 2 collect empty; line = 3 } ∷ record { block = next 4 (return (path 1 [])) empty; line = 0 } ∷ [];
}

two-told : bodies_told (of_ops two_ops) 64 heads ≡ Some two
unfolding block_told raised walk
two-told = refl

-- a body that goes on into the next one
falling-apart : bodies_told (of_ops (empty_main ++ (i.Mark 2 ∷ i.Collect ∷ giving_ops))) 64 heads ≡ None
unfolding block_told raised walk
falling-apart = refl

-- instructions behind the last body
left-apart : bodies_told (of_ops (two_ops ++ i.Collect ∷ [])) 64 heads ≡ None
unfolding block_told raised walk
left-apart = refl

-- a body of a method with a result that ends without a `return`
ended-apart : bodies_told (of_ops (empty_main ++ (i.Mark 2 ∷ i.Collect ∷ i.Mark 3 ∷ i.RetVoid ∷ i.Mark 4 ∷ i.Collect ∷ i.Mark 5 ∷ i.RetVoid ∷ [])))
    64 heads ≡ None
unfolding block_told raised walk
ended-apart = refl

-- main without its `halt`
halt-apart : bodies_told (of_ops (i.Mark 1 ∷ i.End 0 ∷ i.RetVoid ∷ [])) 64 [] ≡ None
unfolding block_told raised walk
halt-apart = refl

-- a body of a method for which there is no head
alone-apart : bodies_told (of_ops two_ops) 64 [] ≡ None
unfolding block_told raised walk
alone-apart = refl
