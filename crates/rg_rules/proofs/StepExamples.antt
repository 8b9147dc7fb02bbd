-- Single rules of steps, computed: what comes first, what is used up, and what a window and a merged region are. Beside each text
-- stands its tree.
use Rattle.std.proofs.Common.{◌≡◌, refl, pos, false, [], ◌∷◌, Some, None, codes}
use Rattle.std.specs.Fmt.{digits}
use Rattle.rg_base.specs.declared.words.Cap.TheVariants as cap
use Rattle.rg_base.specs.declared.words.Manager.TheVariants as manager
use Rattle.rg_base.specs.declared.object.Place.TheVariants as place
use Rattle.rg_base.specs.declared.outcome.Trap.TheVariants as trap
use Rattle.rg_base.specs.declared.value.Val.TheVariants as val
use Rattle.rg_tree.specs.declared.rows.BinOp.TheVariants as op
use Rattle.rg_tree.specs.Tree.{int, number, nil, path, is_nil, neg, binary, value, new, new_iso, freeze, merge, read, result_of, declare, assign}
use Rattle.rg_tree.specs.Tree.{call, swap, enter, print, return, Class, Tree}
use Rattle.rg_rules.specs.State.{Window}
use Rattle.rg_rules.specs.Runs.{Done, Stopped, plain_from, plain}
use Rattle.rg_rules.specs.Owners.{leads_into}
use Rattle.rg_rules.proofs.Sources.{var, dot, use_of, to, call_of, block, param, method_named, class_named, program}
use Rattle.rg_rules.proofs.RunSources.{Source, shown, alive}
use Rattle.rg_rules.proofs.RunExamples.{counted, nested}

-- What comes first

-- the object of a target is followed before the right side is computed
abbrev target_first : Tree
target_first = program (counted ∷ []) manager.Arena
    (declare (codes "a") (to cap.Mut "N") (value nil) ∷ assign (dot "a" "v") read ∷ [])

target_first-text : Source ("class N { v: int; }" ∷ "main arena { let a: mut N = nil; a.v = read; }" ∷ []) target_first
unfolding digits
target_first-text = (refl, refl)

target_first-traps : shown (plain target_first [] 9) ≡ ([], Stopped trap.Nil 1, 1, 0)
unfolding plain_from
target_first-traps = refl

-- class A { def mut go(k: int) { } }
abbrev going : Class
going = class_named "A" false (method_named cap.Mut "go" (param "k" int ∷ []) None [] ∷ [])

-- a receiver is followed before the arguments are computed
abbrev receiver_first : Tree
receiver_first = program (going ∷ []) manager.Arena
    (declare (codes "a") (to cap.Mut "A") (value nil)
    ∷ call (call_of (var "a") "go" (binary op.Div (number (pos 1)) (number (pos 0)) ∷ [])) ∷ [])

receiver_first-text : Source ("class A { def mut go(k: int) { } }" ∷ "main arena { let a: mut A = nil; call a.go(1 / 0); }" ∷ []) receiver_first
unfolding digits
receiver_first-text = (refl, refl)

receiver_first-traps : shown (plain receiver_first [] 9) ≡ ([], Stopped trap.Nil 1, 1, 0)
unfolding plain_from
receiver_first-traps = refl

-- the least number has no negation and no remainder by -1
abbrev least_negated : Tree
least_negated = program [] manager.Arena
    (print (neg (binary op.Sub (neg (number (pos 9223372036854775807))) (number (pos 1)))) ∷ [])

least_negated-text : Source ("main arena { print -(-9223372036854775807 - 1); }" ∷ []) least_negated
unfolding digits
least_negated-text = (refl, refl)

least_negated-traps : shown (plain least_negated [] 9) ≡ ([], Stopped trap.Overflow 1, 0, 0)
unfolding plain_from
least_negated-traps = refl

abbrev least_rest : Tree
least_rest = program [] manager.Arena
    (print (binary op.Rem (binary op.Sub (neg (number (pos 9223372036854775807))) (number (pos 1))) (neg (number (pos 1)))) ∷ [])

least_rest-text : Source ("main arena { print (-9223372036854775807 - 1) % -1; }" ∷ []) least_rest
unfolding digits
least_rest-text = (refl, refl)

least_rest-traps : shown (plain least_rest [] 9) ≡ ([], Stopped trap.Overflow 1, 0, 0)
unfolding plain_from
least_rest-traps = refl

-- What is used up

-- a method that gives its argument back
abbrev giving : Class
giving = class_named "A" false
    (method_named cap.Mut "same" (param "y" (to cap.Iso "N") ∷ []) (Some (to cap.Iso "N")) (return (use_of "y") ∷ []) ∷ [])

-- a variable goes away and comes back; given to itself it stays; given to another it is nil
abbrev used_up : Tree
used_up = program (counted ∷ giving ∷ []) manager.Arena
    (declare (codes "a") (to cap.Mut "A") (new (codes "A") None)
    ∷ declare (codes "y") (to cap.Iso "N") (new_iso (codes "N") None manager.Trace)
    ∷ assign (var "y") (result_of (call_of (var "a") "same" (use_of "y" ∷ [])))
    ∷ assign (var "y") (value (use_of "y"))
    ∷ print (is_nil (var "y")) ∷ declare (codes "z") (to cap.Iso "N") (value (use_of "y")) ∷ print (is_nil (var "z")) ∷ [])

used_up-text : Source
    ("class N { v: int; }"
    ∷ "class A { def mut same(y: iso N): iso N { return y; } }"
    ∷ "main arena { let a: mut A = new A; let y: iso N = new iso N in trace; y = call a.same(y); y = y;"
    ∷ "print y is nil; let z: iso N = y; print z is nil; }" ∷ [])
    used_up
unfolding digits
used_up-text = (refl, refl)

used_up-ends : shown (plain used_up [] 20) ≡ (val.Bool false ∷ val.Bool false ∷ [], Done, 9, 2)
unfolding plain_from
used_up-ends = refl

-- while the method runs, its parameter owns, and the caller's variable doesn't
used_up-parameter_owns : leads_into (counted ∷ giving ∷ []) (plain used_up [] 3).state.store (plain used_up [] 3).state.frames (place.Var 1 1)
    ≡ Some 1
unfolding plain_from
used_up-parameter_owns = refl

used_up-caller_owns_nothing : leads_into (counted ∷ giving ∷ []) (plain used_up [] 3).state.store (plain used_up [] 3).state.frames (place.Var 0 1)
    ≡ None
unfolding plain_from
used_up-caller_owns_nothing = refl

-- class A { def mut take(y: iso N, k: int) { } }
abbrev taking : Class
taking = class_named "A" false (method_named cap.Mut "take" (param "y" (to cap.Iso "N") ∷ param "k" int ∷ []) None [] ∷ [])

-- an argument traps behind one that is used up
abbrev trap_in_call : Tree
trap_in_call = program (counted ∷ taking ∷ []) manager.Arena
    (declare (codes "a") (to cap.Mut "A") (new (codes "A") None)
    ∷ declare (codes "y") (to cap.Iso "N") (new_iso (codes "N") None manager.Trace)
    ∷ call (call_of (var "a") "take" (use_of "y" ∷ binary op.Div (number (pos 1)) (number (pos 0)) ∷ [])) ∷ [])

trap_in_call-text : Source
    ("class N { v: int; }"
    ∷ "class A { def mut take(y: iso N, k: int) { } }"
    ∷ "main arena { let a: mut A = new A; let y: iso N = new iso N in trace; call a.take(y, 1 / 0); }" ∷ [])
    trap_in_call
unfolding digits
trap_in_call-text = (refl, refl)

trap_in_call-traps : shown (plain trap_in_call [] 9) ≡ ([], Stopped trap.Zero 1, 2, 2)
unfolding plain_from
trap_in_call-traps = refl

-- a step that traps has no other effect
trap_in_call-keeps : (plain trap_in_call [] 9).state ≡ (plain trap_in_call [] 2).state
unfolding plain_from
trap_in_call-keeps = refl

-- nil can't be frozen
abbrev nil_frozen : Tree
nil_frozen = program (counted ∷ []) manager.Arena
    (declare (codes "y") (to cap.Iso "N") (value nil) ∷ declare (codes "f") (to cap.Imm "N") (freeze (codes "y")) ∷ [])

nil_frozen-text : Source ("class N { v: int; }" ∷ "main arena { let y: iso N = nil; let f: imm N = freeze y; }" ∷ []) nil_frozen
unfolding digits
nil_frozen-text = (refl, refl)

nil_frozen-traps : shown (plain nil_frozen [] 9) ≡ ([], Stopped trap.Nil 1, 1, 0)
unfolding plain_from
nil_frozen-traps = refl

-- nil can't be entered
abbrev nil_entered : Tree
nil_entered = program (counted ∷ []) manager.Arena
    (declare (codes "y") (to cap.Iso "N") (value nil) ∷ enter (var "y") (codes "z") (block []) None ∷ [])

nil_entered-text : Source ("class N { v: int; }" ∷ "main arena { let y: iso N = nil; enter y as z { } }" ∷ []) nil_entered
unfolding digits
nil_entered-text = (refl, refl)

nil_entered-traps : shown (plain nil_entered [] 9) ≡ ([], Stopped trap.Nil 1, 1, 0)
unfolding plain_from
nil_entered-traps = refl

-- Windows, and regions in regions

-- a region is merged, and the one beneath it stays and is entered through a field
abbrev merged_alone : Tree
merged_alone = program (nested ∷ []) manager.Trace
    (declare (codes "y") (to cap.Iso "N") (new_iso (codes "N") None manager.Arena)
    ∷ declare (codes "w") (to cap.Iso "N") (new_iso (codes "N") None manager.Count)
    ∷ enter (var "y") (codes "z") (block (swap (codes "w") (dot "z" "down") ∷ [])) None
    ∷ declare (codes "b") (to cap.Mut "N") (merge (codes "y"))
    ∷ enter (dot "b" "down") (codes "z")
    (block (assign (dot "z" "v") (value (number (pos 3))) ∷ print (path (dot "z" "v")) ∷ [])) None ∷ [])

merged_alone-text : Source
    ("class N { v: int; down: iso N; }"
    ∷ "main trace { let y: iso N = new iso N in arena; let w: iso N = new iso N in count; enter y as z { swap w, z.down; }"
    ∷ "let b: mut N = merge y; enter b.down as z { z.v = 3; print z.v; } }" ∷ [])
    merged_alone
unfolding digits
merged_alone-text = (refl, refl)

merged_alone-ends : shown (plain merged_alone [] 20) ≡ (val.Int (pos 3) ∷ [], Done, 11, 2)
unfolding plain_from
merged_alone-ends = refl

-- the open regions come first
merged_alone-alive_inside : alive merged_alone 4 ≡ 1 ∷ 0 ∷ 2 ∷ []
unfolding plain_from
merged_alone-alive_inside = refl

merged_alone-alive : alive merged_alone 6 ≡ 0 ∷ 2 ∷ []
unfolding plain_from
merged_alone-alive = refl

-- main's window
abbrev first_window : Window
first_window = record { number = 0; region = 0; owner = None; base_frame = 0; base_place = 0 }

-- the owner is a variable, and two variables were there before
merged_alone-first_window : (plain merged_alone [] 3).state.windows ≡
    record { number = 1; region = 1; owner = Some (place.Var 0 0); base_frame = 0; base_place = 2 } ∷ first_window ∷ []
unfolding plain_from
merged_alone-first_window = refl

-- the owner is a field, and three variables were there before
merged_alone-second_window : (plain merged_alone [] 7).state.windows ≡
    record { number = 2; region = 2; owner = Some (place.Field 0 1); base_frame = 0; base_place = 3 } ∷ first_window ∷ []
unfolding plain_from
merged_alone-second_window = refl
