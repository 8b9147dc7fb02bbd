-- Where faults stand, what classes say of names, and what there is at points of bodies, computed.
use Rattle.std.proofs.Common.{◌≡◌, refl, pos, true, false, List, [], ◌∷◌, Some, None, option_map, codes}
use Prim.Native.String.{String}
use Rattle.rg_base.specs.declared.words.Cap.TheVariants as cap
use Rattle.rg_base.specs.declared.words.Manager.TheVariants as manager
use Rattle.rg_base.specs.declared.fault.Code.TheVariants as code
use Rattle.rg_base.specs.declared.ty.Ty.{Ty}
use Rattle.rg_base.specs.declared.ty.Ty.TheVariants as ty
use Rattle.rg_tree.specs.declared.rows.BinOp.TheVariants as op
use Rattle.rg_tree.specs.Tree.{int, boolean, number, nil, binary, value, new_iso, StmtKind, stmt, declare, assign, while, enter, print, Block, empty}
use Rattle.rg_tree.specs.Tree.{then, method, Class, Tree}
use Rattle.rg_rules.specs.Types.{class_number, fields_of, field_place, field_type, element_type}
use Rattle.rg_rules.specs.Environment.{Readiness, ready, gone, lent, Entry}
use Rattle.rg_rules.specs.Items.{Do, EndAt, LeaveAt, LeaveGiving}
use Rattle.rg_rules.specs.Bodies.{main_body}
use Rattle.rg_rules.specs.Points.{first, Point, here, behind, inside, spot_at, env_at}
use Rattle.rg_rules.specs.Acceptance.{first_fault}
use Rattle.rg_rules.proofs.Sources.{var, dot, use_of, to, block, field_named, class_named, array_class, program}
use Rattle.rg_rules.proofs.Point.{advance}

-- tmp class T { p: paused A; } class A { x: iso A; n: int; }
abbrev classes : List Class
classes = class_named "T" true (field_named "p" (to cap.Paused "A") ∷ [])
    ∷ class_named "A" false (field_named "x" (to cap.Iso "A") ∷ field_named "n" int ∷ []) ∷ []

-- classes count from 0
number-of_class : class_number classes (codes "A") ≡ 1
number-of_class = refl

-- a class that isn't there has the number of classes
number-of_no_class : class_number classes (codes "B") ≡ 2
number-of_no_class = refl

-- the fields of a class count from 0
place-of_field : field_place (fields_of classes 1) (codes "x") ≡ Some 0
place-of_field = refl

place-of_second_field : field_place (fields_of classes 1) (codes "n") ≡ Some 1
place-of_second_field = refl

type-of_field : field_type classes 1 (codes "x") ≡ Some (ty.Ref cap.Iso 1)
type-of_field = refl

type-of_no_field : field_type classes 1 (codes "p") ≡ None
type-of_no_field = refl

-- an array class has the type of its elements, and no fields
abbrev arrays : List Class
arrays = array_class "R" false (to cap.Imm "A") ∷ classes

type-of_element : element_type arrays 0 ≡ Some (ty.Ref cap.Imm 2)
type-of_element = refl

type-of_no_element : element_type arrays 1 ≡ None
type-of_no_element = refl

fields-of_array : fields_of arrays 0 ≡ []
fields-of_array = refl

-- main's statements on lines 2, 3, .., and main on line 1
abbrev main_with : List Class → Block → Tree
main_with cs b = record { classes = cs; manager = manager.Arena; body = b; line = 1 }

-- a bad type of elements has the line of its class
line-of_element : first_fault (main_with (record (array_class "R" false (to cap.Iso "R")) { line = 5 } ∷ []) empty)
    ≡ Some (record { code = code.BadType; line = 5 })
line-of_element = refl

-- a fault in a block has the line of its own statement
line-of_inner_statement : first_fault (main_with [] (then (stmt 2 (while (boolean true) (then (stmt 3 (print nil)) empty))) empty))
    ≡ Some (record { code = code.Mismatch; line = 3 })
line-of_inner_statement = refl

-- a loop that uses up what was ready has the line of the `while`
line-of_loop : first_fault (main_with (class_named "A" false [] ∷ []) (then (stmt 2 (declare (codes "y") (to cap.Iso "A") (value nil)))
    (then (stmt 3 (while (boolean true) (then (stmt 4 (declare (codes "w") (to cap.Iso "A") (value (use_of "y")))) empty))) empty)))
    ≡ Some (record { code = code.Loop; line = 3 })
line-of_loop = refl

-- a class that doesn't end its method in `return`
abbrev forgetful : Class
forgetful = record {
  name = codes "A";
  is_tmp = false;
  element = None;
  members = method (record {
    receiver = cap.Mut;
    name = codes "f";
    params = [];
    result = Some int;
    body = then (stmt 4 (print (number (pos 1)))) empty;
    line = 3;
  }) ∷ [];
  line = 2;
}

-- a missing `return` has the line of the method
line-of_method : first_fault (main_with (forgetful ∷ []) empty) ≡ Some (record { code = code.Return; line = 3 })
line-of_method = refl

-- a repeated class has the line of the later one, and comes before all members
line-of_class : first_fault (main_with (forgetful ∷ record forgetful { line = 7 } ∷ []) empty) ≡ Some (record { code = code.Duplicate; line = 7 })
line-of_class = refl

-- an assignable variable
abbrev entry : String → Ty → Readiness → Entry
entry x t now = record { name = Some (codes x); ty = t; depth = 0; readiness = now; assignable = true }

-- `class N { v: int; }`
abbrev node : Class
node = class_named "N" false (field_named "v" int ∷ [])

-- `k = k + 1;`
abbrev counts : StmtKind
counts = assign (var "k") (value (binary op.Add (use_of "k") (number (pos 1))))

-- `while k < 3 { let w: iso N = y; y = w; k = k + 1; }`
abbrev loop : StmtKind
loop = while (binary op.Lt (use_of "k") (number (pos 3)))
    (block (declare (codes "w") (to cap.Iso "N") (value (use_of "y")) ∷ assign (var "y") (value (use_of "w")) ∷ counts ∷ []))

-- `let k: int = 0; let y: iso N = nil;` and the loop
abbrev looping : Tree
looping = program (node ∷ []) manager.Arena (declare (codes "k") int (value (number (pos 0)))
    ∷ declare (codes "y") (to cap.Iso "N") (value nil) ∷ loop ∷ [])

-- in front of the loop
abbrev at_head : Point
at_head = behind (behind here)

env-at_head : env_at looping.classes (main_body looping) at_head
    ≡ Some (record { depth = 0; entries = entry "k" ty.Int ready ∷ entry "y" (ty.Ref cap.Iso 0) ready ∷ [] })
env-at_head = refl

-- behind the loop it is that of the loop's head
env-behind_loop : env_at looping.classes (main_body looping) (advance at_head) ≡ env_at looping.classes (main_body looping) at_head
env-behind_loop = refl

-- behind the first statement of the loop's block: the block goes on, ends, and the loop begins again
spot-in_loop : spot_at looping.classes (main_body looping) (behind (behind (inside first (behind here)))) ≡ Some (record {
  env = record {
    depth = 0;
    entries = entry "k" ty.Int ready ∷ entry "y" (ty.Ref cap.Iso 0) gone ∷ entry "w" (ty.Ref cap.Iso 0) ready ∷ [];
  };
  items = Do (stmt 1 (assign (var "y") (value (use_of "w")))) ∷ Do (stmt 1 counts) ∷ EndAt 2 ∷ Do (stmt 1 loop) ∷ EndAt 0 ∷ [];
  enters = [];
})
spot-in_loop = refl

-- `let y: iso N = new iso N in trace; enter y as z { z.v = 1; }`
abbrev entering : Tree
entering = program (node ∷ []) manager.Arena (declare (codes "y") (to cap.Iso "N") (new_iso (codes "N") None manager.Trace)
    ∷ enter (var "y") (codes "z") (block (assign (dot "z" "v") (value (number (pos 1))) ∷ [])) None ∷ [])

-- in front of the statement inside the window: the entered variable is lent, and the bridge is one deeper
spot-in_window : spot_at entering.classes (main_body entering) (behind (inside first here)) ≡ Some (record {
  env = record {
    depth = 1;
    entries = entry "y" (ty.Ref cap.Iso 0) lent ∷ record (entry "z" (ty.Ref cap.Mut 0) ready) { depth = 1 } ∷ [];
  };
  items = Do (stmt 1 (assign (dot "z" "v") (value (number (pos 1))))) ∷ LeaveAt 1 ∷ EndAt 0 ∷ [];
  enters = var "y" ∷ [];
})
spot-in_window = refl

-- the block of an `enter` that gives something ends with that, and with the line of the `enter`
abbrev entering_to_give : Tree
entering_to_give = program (node ∷ []) manager.Arena (declare (codes "y") (to cap.Iso "N") (new_iso (codes "N") None manager.Trace)
    ∷ enter (var "y") (codes "z") (block (print (number (pos 1)) ∷ [])) (Some (codes "z")) ∷ [])

spot-behind_window : option_map (λ s. s.items) (spot_at entering_to_give.classes (main_body entering_to_give) (behind (inside first (behind here))))
    ≡ Some (LeaveGiving 1 1 (codes "z") ∷ EndAt 0 ∷ [])
spot-behind_window = refl

-- a body without a point there
no_spot : spot_at entering.classes (main_body entering) (behind (behind (behind here))) ≡ None
no_spot = refl
