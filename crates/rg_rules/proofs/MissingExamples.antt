-- Steps of states that no accepted program makes, computed: what isn't there reads as nil or only takes the item away, and an operand
-- of another kind counts as 0, `false` or nil.
use Rattle.std.proofs.Common.{◌≡◌, refl, pos, true, List, [], ◌∷◌, Some, codes, None}
use Rattle.rg_base.specs.declared.ty.Ty.TheVariants as ty
use Rattle.rg_base.specs.declared.words.Cap.TheVariants as cap
use Rattle.rg_base.specs.declared.words.Manager.TheVariants as manager
use Rattle.rg_base.specs.declared.object.Label.TheVariants as label
use Rattle.rg_base.specs.declared.outcome.Trap.TheVariants as trap
use Rattle.rg_base.specs.declared.value.Val.{Val}
use Rattle.rg_base.specs.declared.value.Val.TheVariants as val
use Rattle.rg_tree.specs.declared.rows.BinOp.TheVariants as op
use Rattle.rg_tree.specs.Tree.{int, Expr, number, boolean, path, is_nil, not, binary, size, value, new, freeze, merge, StmtKind, stmt, declare}
use Rattle.rg_tree.specs.Tree.{assign, call, swap, enter, print, return, Class}
use Rattle.rg_rules.specs.Items.{Item, Do, EndAt, LeaveAt, LeaveGiving, Back}
use Rattle.rg_rules.specs.State.{State, add_local}
use Rattle.rg_rules.specs.Steps.{Went, Trapped, next}
use Rattle.rg_rules.specs.Runs.{opening}
use Rattle.rg_rules.proofs.Sources.{var, dot, use_of, call_of, block, field_named, class_named, program}

-- tmp class T { v: int; }
abbrev classes : List Class
classes = class_named "T" true (field_named "v" int ∷ []) ∷ []

-- a state with a temporary, to which the variable t leads, and these items
abbrev standing : List Item → State
standing items = add_local (Some (codes "t")) (ty.Ref cap.Tmp 0)
    (record (opening (program classes manager.Trace []) []) {
      store = record { class = 0; fields = val.Int (pos 8) ∷ []; label = label.Temp 0 } ∷ [];
      items = items;
    })
    (val.Obj 0)

-- the same in front of a statement
abbrev doing : StmtKind → State
doing k = standing (Do (stmt 1 k) ∷ EndAt 1 ∷ [])

-- the same behind it
abbrev done : State
done = standing (EndAt 1 ∷ [])

-- 1 / 0
abbrev trapping : Expr
trapping = binary op.Div (number (pos 1)) (number (pos 0))

-- no item is left
nothing_left : next classes (standing []) ≡ Went (standing [])
nothing_left = refl

-- the class isn't there
no_class : next classes (doing (declare (codes "x") int (new (codes "C") None))) ≡ Went done
no_class = refl

-- the method isn't there
no_method : next classes (doing (call (call_of (var "t") "go" (trapping ∷ [])))) ≡ Went done
no_method = refl

-- the second frame isn't there
no_second_frame : next classes (doing (return trapping)) ≡ Went done
no_second_frame = refl

no_second_frame_behind : next classes (standing (Back ∷ EndAt 1 ∷ [])) ≡ Went done
no_second_frame_behind = refl

-- the second window isn't there
no_second_window : next classes (standing (LeaveAt 0 ∷ EndAt 1 ∷ [])) ≡ Went done
no_second_window = refl

no_second_window_to_give : next classes (standing (LeaveGiving 1 0 (codes "t") ∷ EndAt 1 ∷ [])) ≡ Went done
no_second_window_to_give = refl

-- the region isn't there
no_region_to_freeze : next classes (doing (assign (var "t") (freeze (codes "t")))) ≡ Went done
no_region_to_freeze = refl

no_region_to_merge : next classes (doing (assign (var "t") (merge (codes "t")))) ≡ Went done
no_region_to_merge = refl

no_region_to_enter : next classes (doing (enter (var "t") (codes "z") (block []) None)) ≡ Went done
no_region_to_enter = refl

-- a store without a place changes nothing
no_variable_to_assign : next classes (doing (assign (var "x") (value (number (pos 1))))) ≡ Went done
no_variable_to_assign = refl

no_field_to_assign : next classes (doing (assign (dot "t" "x") (value (number (pos 1))))) ≡ Went done
no_field_to_assign = refl

no_field_to_swap : next classes (doing (swap (codes "t") (var "t"))) ≡ Went done
no_field_to_swap = refl

-- what isn't there is nil, and following it traps
no_field_to_enter : next classes (doing (enter (dot "t" "x") (codes "z") (block []) None)) ≡ Trapped trap.Nil 1
no_field_to_enter = refl

no_variable_to_follow : next classes (doing (print (path (dot "x" "v")))) ≡ Trapped trap.Nil 1
no_variable_to_follow = refl

-- the same two states with a variable k that holds 5
abbrev doing_with_number : StmtKind → State
doing_with_number k = add_local (Some (codes "k")) ty.Int (doing k) (val.Int (pos 5))

abbrev done_with_number : State
done_with_number = add_local (Some (codes "k")) ty.Int done (val.Int (pos 5))

-- what a step prints
abbrev Prints : Expr → Val → Type 0
Prints e v = next classes (doing (print e)) ≡ Went (record done { output = v ∷ [] })

no_variable_to_print : Prints (use_of "x") val.Nil
no_variable_to_print = refl

no_field_to_print : Prints (path (dot "t" "x")) val.Nil
no_field_to_print = refl

-- an object that is no array has as many elements as fields
size_of_object : Prints (size (var "t")) (val.Int (pos 1))
size_of_object = refl

-- a truth value counts as 0, a number as `false` or nil
truth_added : Prints (binary op.Add (boolean true) (number (pos 2))) (val.Int (pos 2))
truth_added = refl

number_negated : Prints (not (number (pos 5))) (val.Bool true)
number_negated = refl

number_is_nil : next classes (doing_with_number (print (is_nil (var "k")))) ≡ Went (record done_with_number { output = val.Bool true ∷ [] })
number_is_nil = refl

number_followed : next classes (doing_with_number (print (path (dot "k" "v")))) ≡ Trapped trap.Nil 1
number_followed = refl
