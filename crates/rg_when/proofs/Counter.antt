-- Words for examples: a program whose behaviours count, and plans for it.
use Rattle.std.proofs.Common.{ℕ, pos, List, [], ◌∷◌, ◌++◌, false, None, codes}
use Prim.Native.String.{String}
use Rattle.rg_base.specs.declared.words.Cap.TheVariants as cap
use Rattle.rg_base.specs.declared.words.Manager.TheVariants as manager
use Rattle.rg_tree.specs.declared.rows.BinOp.TheVariants as op
use Rattle.rg_tree.specs.Tree.{int, number, path, binary, value, new, declare, assign, enter, print, Tree}
use Rattle.rg_rules.proofs.Sources.{self_dot, dot, to, block, field_named, method_named, class_named, program}

-- class N { v: int; }
-- class A { n: iso N; def mut add() { enter self.n as z { z.v = z.v + 1; print z.v; } } }
-- main arena { }
abbrev pub counted : Tree
counted =
    program (class_named "N" false (field_named "v" int ∷ [])
    ∷ class_named "A" false (field_named "n" (to cap.Iso "N")
    ∷ method_named cap.Mut "add" [] None
    (enter (self_dot "n") (codes "z")
    (block (assign (dot "z" "v") (value (binary op.Add (path (dot "z" "v")) (number (pos 1)))) ∷ print (path (dot "z" "v")) ∷ [])) None ∷ [])
    ∷ [])
    ∷ []) manager.Arena []

-- class N { v: int; }
-- class A { n: iso N; def mut add() { enter self.n as z { let x: mut N = new N; } } }
-- main arena { }
abbrev pub making : Tree
making =
    program (class_named "N" false (field_named "v" int ∷ [])
    ∷ class_named "A" false (field_named "n" (to cap.Iso "N")
    ∷ method_named cap.Mut "add" [] None
    (enter (self_dot "n") (codes "z") (block (declare (codes "x") (to cap.Mut "N") (new (codes "N") None) ∷ [])) None ∷ [])
    ∷ [])
    ∷ []) manager.Arena []

-- lines, each with its end
abbrev pub lines : List String → List ℕ
lines [] = []
lines (s ∷ ss) = codes s ++ 10 ∷ lines ss

-- a cown, and two behaviours over it
abbrev pub two : List String
two = "cown N arena" ∷ "when A.add 0" ∷ "when A.add 0" ∷ []
