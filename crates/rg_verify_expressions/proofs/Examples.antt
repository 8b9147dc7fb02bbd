-- Expressions raised from their code, computed.
use Rattle.std.proofs.Common.{◌≡◌, ℕ, pos, true, List, [], ◌∷◌, ◌++◌, Some, None, refl}
use Rattle.rg_tree.specs.declared.rows.BinOp.TheVariants as op
use Rattle.rg_code.specs.declared.op.Op.{Op}
use Rattle.rg_code.specs.declared.op.Op.TheVariants as i
use Rattle.rg_verify_expressions.specs.Raised.{Raised, number, boolean, path, is_nil, size, element, neg, not, binary, expression, object, place, ops_of}
use Rattle.rg_verify_expressions.specs.Raising.{walk, raised}

-- `7`, in front of `print`
seven : raised (i.Int (pos 7) ∷ i.Print ∷ []) 1 ≡ Some (expression (number (pos 7)) ∷ [], 2)
unfolding raised walk
seven = refl

-- `-7 / 2`
halves : raised (i.Int (pos 7) ∷ i.Neg ∷ i.Int (pos 2) ∷ i.Div ∷ i.Print ∷ []) 9
    ≡ Some (expression (binary op.Div (neg (number (pos 7))) (number (pos 2))) ∷ [], 13)
unfolding raised walk
halves = refl

-- `a is nil or a.v == 1`, from address 5 on
abbrev either : Raised
either = binary op.Or (is_nil 0 []) (binary op.Eq (path 0 (0 ∷ [])) (number (pos 1)))

abbrev either_ops : (to : ℕ) → List Op
either_ops to = i.Load 0 ∷ i.IsNil ∷ i.Or to ∷ i.Load 0 ∷ i.Field 0 ∷ i.Int (pos 1) ∷ i.Eq ∷ i.Print ∷ []

either-code : ops_of 5 either ≡ i.Load 0 ∷ i.IsNil ∷ i.Or 12 ∷ i.Load 0 ∷ i.Field 0 ∷ i.Int (pos 1) ∷ i.Eq ∷ []
either-code = refl

either-raised : raised (either_ops 12) 5 ≡ Some (expression either ∷ [], 12)
unfolding raised walk
either-raised = refl

-- its right side ends nowhere else: not behind what follows, nor within
either-apart : (raised (either_ops 13) 5 ≡ None) × (raised (either_ops 11) 5 ≡ None) × (raised (either_ops 9) 5 ≡ None)
unfolding raised walk
either-apart = (refl, refl, refl)

-- `not a is nil and a.v == 1`, whose junction is the last of two
both-raised : raised (i.Load 0 ∷ i.IsNil ∷ i.Not ∷ i.And 8 ∷ i.Load 0 ∷ i.Field 0 ∷ i.Int (pos 1) ∷ i.Eq ∷ i.Print ∷ []) 0
    ≡ Some (expression (binary op.And (not (is_nil 0 [])) (binary op.Eq (path 0 (0 ∷ [])) (number (pos 1)))) ∷ [], 8)
unfolding raised walk
both-raised = refl

-- three junctions, two of which end together: `x and y or (x and (y or x))` groups to the left
nested : raised (i.Load 0 ∷ i.And 3 ∷ i.Load 1 ∷ i.Or 9 ∷ i.Load 0 ∷ i.And 9 ∷ i.Load 1 ∷ i.Or 9 ∷ i.Load 0 ∷ i.JumpFalse 20 ∷ []) 0
    ≡ Some (
      expression (binary op.Or (binary op.And (path 0 []) (path 1 []))
          (binary op.And (path 0 []) (binary op.Or (path 1 []) (path 0 [])))) ∷ [],
      9,
    )
unfolding raised walk
nested = refl

-- two arguments; nothing; an operator that lacks an operand; a field of a number
others : (raised (i.Int (pos 1) ∷ i.Bool true ∷ i.Room ∷ []) 4 ≡ Some (expression (number (pos 1)) ∷ expression (boolean true) ∷ [], 6))
    × (raised (i.Read ∷ []) 4 ≡ Some ([], 4)) × (raised (i.Int (pos 1) ∷ i.Add ∷ []) 4 ≡ None) × (raised (i.Int (pos 1) ∷ i.Field 0 ∷ []) 4 ≡ None)
unfolding raised walk
others = (refl, refl, refl, refl)

-- Arrays

-- `a[b[1]] + size a.f2`
abbrev deep : Raised
deep = binary op.Add (element 0 [] (element 1 [] (number (pos 1)))) (size 0 (2 ∷ []))

abbrev deep_ops : List Op
deep_ops =
    i.Load 0 ∷ i.Check ∷ i.Load 1 ∷ i.Check ∷ i.Int (pos 1) ∷ i.Bound ∷ i.Element ∷ i.Bound ∷ i.Element ∷ i.Load 0 ∷ i.Field 2 ∷ i.Size ∷ i.Add ∷ []

deep-code : ops_of 3 deep ≡ deep_ops
deep-code = refl

deep-raised : raised (deep_ops ++ i.Print ∷ []) 3 ≡ Some (expression deep ∷ [], 16)
unfolding raised walk
deep-raised = refl

-- what stands in front of `room` in `call a.m(a[0], 7)`; of `putelem` in `a[0] = 7`; and of `putelem` in `a[0] = call b.m(7)`, of `room`
fronts-raised : (raised (i.Load 0 ∷ i.Check ∷ i.Load 0 ∷ i.Check ∷ i.Int (pos 0) ∷ i.Bound ∷ i.Element ∷ i.Int (pos 7) ∷ i.Room ∷ []) 1
    ≡ Some (object 0 [] ∷ expression (element 0 [] (number (pos 0))) ∷ expression (number (pos 7)) ∷ [], 9))
    × (raised (i.Load 0 ∷ i.Check ∷ i.Int (pos 0) ∷ i.Bound ∷ i.Int (pos 7) ∷ i.PutElement ∷ []) 1
    ≡ Some (place 0 [] (number (pos 0)) ∷ expression (number (pos 7)) ∷ [], 6))
    × (raised (i.Load 0 ∷ i.Check ∷ i.Int (pos 0) ∷ i.Bound ∷ i.Load 1 ∷ i.Check ∷ i.Int (pos 7) ∷ i.Room ∷ []) 1
    ≡ Some (place 0 [] (number (pos 0)) ∷ object 1 [] ∷ expression (number (pos 7)) ∷ [], 8))
unfolding raised walk
fronts-raised = (refl, refl, refl)

-- an index without an array that was tested, an element without a bound, a number that is tested, a size of a number; and an object on which
-- the left side of `and` waits
arrays-apart : (raised (i.Load 0 ∷ i.Int (pos 0) ∷ i.Bound ∷ i.Element ∷ i.Print ∷ []) 1 ≡ None)
    × (raised (i.Load 0 ∷ i.Check ∷ i.Int (pos 0) ∷ i.Element ∷ i.Print ∷ []) 1 ≡ None)
    × (raised (i.Int (pos 0) ∷ i.Check ∷ i.Print ∷ []) 1 ≡ None)
    × (raised (i.Int (pos 0) ∷ i.Size ∷ i.Print ∷ []) 1 ≡ None)
    × (raised (i.Load 0 ∷ i.And 4 ∷ i.Load 0 ∷ i.Check ∷ i.Room ∷ []) 1 ≡ None)
unfolding raised walk
arrays-apart = (refl, refl, refl, refl, refl)
