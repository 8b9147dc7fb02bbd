-- Short programs and their first faults, computed: for each subject some of what is refused and allowed, and the order of
-- tests. Beside each text stands its tree.
use Rattle.std.proofs.Common.{refl, List, [], ◌∷◌, true, false, Some, None, codes, pos}
use Rattle.std.specs.Fmt.{digits}
use Rattle.rg_base.specs.declared.words.Cap.TheVariants as cap
use Rattle.rg_base.specs.declared.words.Manager.TheVariants as manager
use Rattle.rg_base.specs.declared.fault.Code.TheVariants as code
use Rattle.rg_tree.specs.declared.rows.BinOp.TheVariants as op
use Rattle.rg_tree.specs.Tree.{int, bool, number, boolean, nil, path, is_nil, binary, value, new, new_tmp, freeze, merge, result_of, declare, assign}
use Rattle.rg_tree.specs.Tree.{swap, branch, no_else, otherwise, enter, print, return, Class}
use Rattle.rg_rules.proofs.Sources.{self, var, dot, use_of, to, call_of, block, field_named, param, method_named, class_named, program, fault}
use Rattle.rg_rules.proofs.Sources.{Example}

-- Headers

-- the names of all classes come first
class_twice : Example ("class A { x: mut B; }" ∷ "class A { }" ∷ "main arena { }" ∷ []) (fault code.Duplicate)
    (program (class_named "A" false (field_named "x" (to cap.Mut "B") ∷ []) ∷ class_named "A" false [] ∷ []) manager.Arena [])
unfolding digits
class_twice = (refl, refl)

-- a member's name comes before its type
name_before_type : Example ("class A { x: int; x: mut B; }" ∷ "main arena { }" ∷ []) (fault code.Duplicate)
    (program (class_named "A" false (field_named "x" int ∷ field_named "x" (to cap.Mut "B") ∷ []) ∷ []) manager.Arena [])
unfolding digits
name_before_type = (refl, refl)

-- a receiver comes before the parameters
receiver_before_params : Example ("class A { def iso f(a: int, a: int) { } }" ∷ "main arena { }" ∷ []) (fault code.BadType)
    (program (class_named "A" false (method_named cap.Iso "f" (param "a" int ∷ param "a" int ∷ []) None [] ∷ []) ∷ []) manager.Arena [])
unfolding digits
receiver_before_params = (refl, refl)

-- a parameter's name comes before its type
param_twice : Example ("class A { def mut f(a: int, a: mut B) { } }" ∷ "main arena { }" ∷ []) (fault code.Duplicate)
    (program (class_named "A" false (method_named cap.Mut "f" (param "a" int ∷ param "a" (to cap.Mut "B") ∷ []) None [] ∷ []) ∷ []) manager.Arena
    [])
unfolding digits
param_twice = (refl, refl)

-- the parameters come before the result
params_before_result : Example ("class A { def mut f(a: tmp A): mut B { } }" ∷ "main arena { }" ∷ []) (fault code.BadType)
    (program (class_named "A" false (method_named cap.Mut "f" (param "a" (to cap.Tmp "A") ∷ []) (Some (to cap.Mut "B")) [] ∷ []) ∷ [])
    manager.Arena
    [])
unfolding digits
params_before_result = (refl, refl)

-- a receiver `imm` in a tmp class
imm_receiver_of_tmp_class : Example ("tmp class A { def imm f() { } }" ∷ "main arena { }" ∷ []) (fault code.BadType)
    (program (class_named "A" true (method_named cap.Imm "f" [] None [] ∷ []) ∷ []) manager.Arena [])
unfolding digits
imm_receiver_of_tmp_class = (refl, refl)

-- a `paused` field of an ordinary class
paused_field : Example ("class A { x: paused A; }" ∷ "main arena { }" ∷ []) (fault code.BadType)
    (program (class_named "A" false (field_named "x" (to cap.Paused "A") ∷ []) ∷ []) manager.Arena [])
unfolding digits
paused_field = (refl, refl)

-- headers come before bodies
headers_before_bodies : Example ("class A { def mut f() { print nil; } }" ∷ "class B { x: mut C; }" ∷ "main arena { }" ∷ []) (fault code.Unknown)
    (program (class_named "A" false (method_named cap.Mut "f" [] None (print nil ∷ []) ∷ [])
    ∷ class_named "B" false (field_named "x" (to cap.Mut "C") ∷ []) ∷ [])
    manager.Arena
    [])
unfolding digits
headers_before_bodies = (refl, refl)

-- Paths

-- a variable that isn't visible
unknown_variable : Example ("main arena { print k; }" ∷ []) (fault code.Unknown)
    (program [] manager.Arena (print (use_of "k") ∷ []))
unfolding digits
unknown_variable = (refl, refl)

-- a field of a number
field_of_number : Example ("main arena { let k: int = 1; print k.v; }" ∷ []) (fault code.Mismatch)
    (program [] manager.Arena (declare (codes "k") int (value (number (pos 1))) ∷ print (path (dot "k" "v")) ∷ []))
unfolding digits
field_of_number = (refl, refl)

-- a class of one number and a region beneath, which several programs have:
-- class A { n: int; o: iso A; def mut f(y: iso A): iso A { return y; } def imm g() { } }
abbrev one_class : List Class
one_class =
    class_named "A" false (field_named "n" int
    ∷ field_named "o" (to cap.Iso "A")
    ∷ method_named cap.Mut "f" (param "y" (to cap.Iso "A") ∷ []) (Some (to cap.Iso "A")) (return (use_of "y") ∷ [])
    ∷ method_named cap.Imm "g" [] None [] ∷ []) ∷ []

-- an `iso` variable isn't followed, be it ready or gone
field_behind_iso : Example
    ("class A { n: int; o: iso A; def mut f(y: iso A): iso A { return y; } def imm g() { } }"
    ∷ "main arena { let y: iso A = nil; let z: iso A = y; print y.n; }" ∷ [])
    (fault code.Capability)
    (program one_class manager.Arena
    (declare (codes "y") (to cap.Iso "A") (value nil)
    ∷ declare (codes "z") (to cap.Iso "A") (value (use_of "y"))
    ∷ print (path (dot "y" "n")) ∷ []))
unfolding digits
field_behind_iso = (refl, refl)

-- a field that the class doesn't have
unknown_field : Example ("class A { }" ∷ "main arena { let a: mut A = nil; print a.x; }" ∷ []) (fault code.Unknown)
    (program (class_named "A" false [] ∷ []) manager.Arena (declare (codes "a") (to cap.Mut "A") (value nil) ∷ print (path (dot "a" "x")) ∷ []))
unfolding digits
unknown_field = (refl, refl)

-- `iso` isn't read through `paused`
iso_field_behind_paused : Example
    ("class A { n: int; o: iso A; def mut f(y: iso A): iso A { return y; } def imm g() { } }"
    ∷ "main arena { let a: mut A = nil; let p: paused A = a; print p.o is nil; }" ∷ [])
    (fault code.Capability)
    (program one_class manager.Arena
    (declare (codes "a") (to cap.Mut "A") (value nil)
    ∷ declare (codes "p") (to cap.Paused "A") (value (use_of "a"))
    ∷ print (is_nil (dot "p" "o")) ∷ []))
unfolding digits
iso_field_behind_paused = (refl, refl)

-- through `imm` it is `imm`
iso_field_behind_imm : Example
    ("class A { n: int; o: iso A; def mut f(y: iso A): iso A { return y; } def imm g() { } }"
    ∷ "main arena { let p: imm A = nil; let q: imm A = p.o; }" ∷ [])
    None
    (program one_class manager.Arena
    (declare (codes "p") (to cap.Imm "A") (value nil) ∷ declare (codes "q") (to cap.Imm "A") (value (path (dot "p" "o"))) ∷ []))
unfolding digits
iso_field_behind_imm = (refl, refl)

-- Expressions

-- `nil` has no type but the expected one
nil_alone : Example ("main arena { print nil; }" ∷ []) (fault code.Mismatch)
    (program [] manager.Arena (print nil ∷ []))
unfolding digits
nil_alone = (refl, refl)

-- so it can't be compared
nil_compared : Example ("class A { }" ∷ "main arena { let a: mut A = nil; print a == nil; }" ∷ []) (fault code.Mismatch)
    (program (class_named "A" false [] ∷ []) manager.Arena
    (declare (codes "a") (to cap.Mut "A") (value nil) ∷ print (binary op.Eq (use_of "a") nil) ∷ []))
unfolding digits
nil_compared = (refl, refl)

-- `iso` variables can't be compared
iso_compared : Example ("class A { }" ∷ "main arena { let y: iso A = nil; let z: iso A = nil; print y == z; }" ∷ []) (fault code.Mismatch)
    (program (class_named "A" false [] ∷ []) manager.Arena
    (declare (codes "y") (to cap.Iso "A") (value nil)
    ∷ declare (codes "z") (to cap.Iso "A") (value nil)
    ∷ print (binary op.Eq (use_of "y") (use_of "z")) ∷ []))
unfolding digits
iso_compared = (refl, refl)

-- the first operand uses it up
iso_compared_with_itself : Example ("class A { }" ∷ "main arena { let y: iso A = nil; print y == y; }" ∷ []) (fault code.Unavailable)
    (program (class_named "A" false [] ∷ []) manager.Arena
    (declare (codes "y") (to cap.Iso "A") (value nil) ∷ print (binary op.Eq (use_of "y") (use_of "y")) ∷ []))
unfolding digits
iso_compared_with_itself = (refl, refl)

-- references of two classes can't be compared
classes_compared : Example
    ("class A { }" ∷ "class B { }" ∷ "main arena { let a: mut A = nil; let b: mut B = nil; print a == b; }" ∷ [])
    (fault code.Mismatch)
    (program (class_named "A" false [] ∷ class_named "B" false [] ∷ []) manager.Arena
    (declare (codes "a") (to cap.Mut "A") (value nil)
    ∷ declare (codes "b") (to cap.Mut "B") (value nil)
    ∷ print (binary op.Eq (use_of "a") (use_of "b")) ∷ []))
unfolding digits
classes_compared = (refl, refl)

-- `and` takes truth values
number_and_truth : Example ("main arena { print 1 and true; }" ∷ []) (fault code.Mismatch)
    (program [] manager.Arena (print (binary op.And (number (pos 1)) (boolean true)) ∷ []))
unfolding digits
number_and_truth = (refl, refl)

-- what is gone can't be asked
asked_when_gone : Example ("class A { }" ∷ "main arena { let y: iso A = nil; let z: iso A = y; print y is nil; }" ∷ []) (fault code.Unavailable)
    (program (class_named "A" false [] ∷ []) manager.Arena
    (declare (codes "y") (to cap.Iso "A") (value nil)
    ∷ declare (codes "z") (to cap.Iso "A") (value (use_of "y"))
    ∷ print (is_nil (var "y")) ∷ []))
unfolding digits
asked_when_gone = (refl, refl)

-- asking uses nothing up
asked_twice : Example ("class A { }" ∷ "main arena { let y: iso A = nil; print y is nil; print y is nil; }" ∷ []) None
    (program (class_named "A" false [] ∷ []) manager.Arena
    (declare (codes "y") (to cap.Iso "A") (value nil) ∷ print (is_nil (var "y")) ∷ print (is_nil (var "y")) ∷ []))
unfolding digits
asked_twice = (refl, refl)

-- Right sides

-- `new` of an unknown class
new_of_unknown_class : Example ("class A { }" ∷ "main arena { let a: mut A = new B; }" ∷ []) (fault code.Unknown)
    (program (class_named "A" false [] ∷ []) manager.Arena (declare (codes "a") (to cap.Mut "A") (new (codes "B") None) ∷ []))
unfolding digits
new_of_unknown_class = (refl, refl)

-- `new` of a tmp class
new_of_tmp_class : Example ("tmp class T { }" ∷ "class A { }" ∷ "main arena { let a: mut A = new T; }" ∷ []) (fault code.BadType)
    (program (class_named "T" true [] ∷ class_named "A" false [] ∷ []) manager.Arena
    (declare (codes "a") (to cap.Mut "A") (new (codes "T") None) ∷ []))
unfolding digits
new_of_tmp_class = (refl, refl)

-- `new tmp` of an ordinary class
new_tmp_of_ordinary_class : Example ("class A { }" ∷ "main arena { let a: mut A = new tmp A; }" ∷ []) (fault code.BadType)
    (program (class_named "A" false [] ∷ []) manager.Arena (declare (codes "a") (to cap.Mut "A") (new_tmp (codes "A") None) ∷ []))
unfolding digits
new_tmp_of_ordinary_class = (refl, refl)

-- `freeze` of a number
number_frozen : Example ("class A { }" ∷ "main arena { let k: int = 1; let f: imm A = freeze k; }" ∷ []) (fault code.Mismatch)
    (program (class_named "A" false [] ∷ []) manager.Arena
    (declare (codes "k") int (value (number (pos 1))) ∷ declare (codes "f") (to cap.Imm "A") (freeze (codes "k")) ∷ []))
unfolding digits
number_frozen = (refl, refl)

-- `merge` of what is gone
gone_merged : Example
    ("class A { }" ∷ "main arena { let y: iso A = nil; let f: imm A = freeze y; let b: mut A = merge y; }" ∷ [])
    (fault code.Unavailable)
    (program (class_named "A" false [] ∷ []) manager.Arena
    (declare (codes "y") (to cap.Iso "A") (value nil)
    ∷ declare (codes "f") (to cap.Imm "A") (freeze (codes "y"))
    ∷ declare (codes "b") (to cap.Mut "A") (merge (codes "y")) ∷ []))
unfolding digits
gone_merged = (refl, refl)

-- a `mut` method through `paused`
receiver_not_below : Example
    ("class A { n: int; o: iso A; def mut f(y: iso A): iso A { return y; } def imm g() { } }"
    ∷ "main arena { let y: iso A = nil; let a: mut A = nil; let p: paused A = a; y = call p.f(y); }" ∷ [])
    (fault code.Capability)
    (program one_class manager.Arena
    (declare (codes "y") (to cap.Iso "A") (value nil)
    ∷ declare (codes "a") (to cap.Mut "A") (value nil)
    ∷ declare (codes "p") (to cap.Paused "A") (value (use_of "a"))
    ∷ assign (var "y") (result_of (call_of (var "p") "f" ((use_of "y") ∷ []))) ∷ []))
unfolding digits
receiver_not_below = (refl, refl)

-- the number of arguments comes before their types
arity_before_types : Example
    ("class A { n: int; o: iso A; def mut f(y: iso A): iso A { return y; } def imm g() { } }"
    ∷ "main arena { let y: iso A = nil; let a: mut A = nil; y = call a.f(1, 2); }" ∷ [])
    (fault code.Arity)
    (program one_class manager.Arena
    (declare (codes "y") (to cap.Iso "A") (value nil)
    ∷ declare (codes "a") (to cap.Mut "A") (value nil)
    ∷ assign (var "y") (result_of (call_of (var "a") "f" ((number (pos 1)) ∷ (number (pos 2)) ∷ []))) ∷ []))
unfolding digits
arity_before_types = (refl, refl)

-- a call without a result where a type is expected
no_result : Example
    ("class A { n: int; o: iso A; def mut f(y: iso A): iso A { return y; } def imm g() { } }"
    ∷ "main arena { let p: imm A = nil; let k: int = call p.g(); }" ∷ [])
    (fault code.Mismatch)
    (program one_class manager.Arena
    (declare (codes "p") (to cap.Imm "A") (value nil) ∷ declare (codes "k") int (result_of (call_of (var "p") "g" [])) ∷ []))
unfolding digits
no_result = (refl, refl)

-- Statements

-- a name that is visible comes before its type
let_twice : Example ("main arena { let k: int = 1; let k: mut B = nil; }" ∷ []) (fault code.Duplicate)
    (program [] manager.Arena (declare (codes "k") int (value (number (pos 1))) ∷ declare (codes "k") (to cap.Mut "B") (value nil) ∷ []))
unfolding digits
let_twice = (refl, refl)

-- what a block adds goes at its end
block_ends : Example ("main arena { if true { let k: int = 1; } let k: bool = true; print k; }" ∷ []) None
    (program [] manager.Arena
    (branch (boolean true) (block (declare (codes "k") int (value (number (pos 1))) ∷ [])) no_else
    ∷ declare (codes "k") bool (value (boolean true))
    ∷ print (use_of "k") ∷ []))
unfolding digits
block_ends = (refl, refl)

-- `y = y` of a ready `iso` variable
assigned_to_itself : Example ("class A { }" ∷ "main arena { let y: iso A = nil; y = y; }" ∷ []) None
    (program (class_named "A" false [] ∷ []) manager.Arena
    (declare (codes "y") (to cap.Iso "A") (value nil) ∷ assign (var "y") (value (use_of "y")) ∷ []))
unfolding digits
assigned_to_itself = (refl, refl)

-- an argument may be taken back
taken_back : Example
    ("class A { n: int; o: iso A; def mut f(y: iso A): iso A { return y; } def imm g() { } }"
    ∷ "main arena { let y: iso A = nil; let a: mut A = nil; y = call a.f(y); }" ∷ [])
    None
    (program one_class manager.Arena
    (declare (codes "y") (to cap.Iso "A") (value nil)
    ∷ declare (codes "a") (to cap.Mut "A") (value nil)
    ∷ assign (var "y") (result_of (call_of (var "a") "f" ((use_of "y") ∷ []))) ∷ []))
unfolding digits
taken_back = (refl, refl)

-- `self` can't be assigned
self_assigned : Example ("class A { def mut f() { self = nil; } }" ∷ "main arena { }" ∷ []) (fault code.OutsideWindow)
    (program (class_named "A" false (method_named cap.Mut "f" [] None (assign self (value nil) ∷ []) ∷ []) ∷ []) manager.Arena [])
unfolding digits
self_assigned = (refl, refl)

-- an `imm` variable outside the window may be assigned
outer_imm_assigned : Example ("class A { }" ∷ "main arena { let f: imm A = nil; let y: iso A = nil; enter y as z { f = nil; } }" ∷ []) None
    (program (class_named "A" false [] ∷ []) manager.Arena
    (declare (codes "f") (to cap.Imm "A") (value nil)
    ∷ declare (codes "y") (to cap.Iso "A") (value nil)
    ∷ enter (var "y") (codes "z") (block (assign (var "f") (value nil) ∷ [])) None ∷ []))
unfolding digits
outer_imm_assigned = (refl, refl)

-- a `mut` variable outside the window is seen as `paused`
outer_mut_seen : Example
    ("class A { }" ∷ "main arena { let a: mut A = nil; let y: iso A = nil; enter y as z { let p: paused A = a; let b: mut A = a; } }" ∷ [])
    (fault code.Mismatch)
    (program (class_named "A" false [] ∷ []) manager.Arena
    (declare (codes "a") (to cap.Mut "A") (value nil)
    ∷ declare (codes "y") (to cap.Iso "A") (value nil)
    ∷ enter (var "y") (codes "z") (block (declare (codes "p") (to cap.Paused "A") (value (use_of "a"))
    ∷ declare (codes "b") (to cap.Mut "A") (value (use_of "a")) ∷ [])) None ∷ []))
unfolding digits
outer_mut_seen = (refl, refl)

-- what is entered can't be used
lent_used : Example ("class A { }" ∷ "main arena { let y: iso A = nil; enter y as z { let w: iso A = y; } }" ∷ []) (fault code.Unavailable)
    (program (class_named "A" false [] ∷ []) manager.Arena
    (declare (codes "y") (to cap.Iso "A") (value nil)
    ∷ enter (var "y") (codes "z") (block (declare (codes "w") (to cap.Iso "A") (value (use_of "y")) ∷ [])) None ∷ []))
unfolding digits
lent_used = (refl, refl)

-- it stays so behind a branch
lent_behind_branch : Example
    ("class A { }" ∷ "main arena { let y: iso A = nil; enter y as z { if true { } else { } enter y as w { } } }" ∷ [])
    (fault code.Unavailable)
    (program (class_named "A" false [] ∷ []) manager.Arena
    (declare (codes "y") (to cap.Iso "A") (value nil)
    ∷ enter (var "y") (codes "z") (block (branch (boolean true) (block []) (otherwise (block []))
    ∷ enter (var "y") (codes "w") (block []) None ∷ [])) None ∷ []))
unfolding digits
lent_behind_branch = (refl, refl)

-- it is ready again behind the `enter`
entered_again : Example ("class A { }" ∷ "main arena { let y: iso A = nil; enter y as z { } enter y as z { } }" ∷ []) None
    (program (class_named "A" false [] ∷ []) manager.Arena
    (declare (codes "y") (to cap.Iso "A") (value nil)
    ∷ enter (var "y") (codes "z") (block []) None
    ∷ enter (var "y") (codes "z") (block []) None ∷ []))
unfolding digits
entered_again = (refl, refl)

-- an `iso` field comes before a call as the right side
iso_field_before_call : Example
    ("class A { n: int; o: iso A; def mut f(y: iso A): iso A { return y; } def imm g() { } }"
    ∷ "main arena { let y: iso A = nil; let a: mut A = nil; a.o = call a.f(y); }" ∷ [])
    (fault code.IsoField)
    (program one_class manager.Arena
    (declare (codes "y") (to cap.Iso "A") (value nil)
    ∷ declare (codes "a") (to cap.Mut "A") (value nil)
    ∷ assign (dot "a" "o") (result_of (call_of (var "a") "f" ((use_of "y") ∷ []))) ∷ []))
unfolding digits
iso_field_before_call = (refl, refl)

-- `swap` needs a field
swap_without_field : Example ("class A { }" ∷ "main arena { let y: iso A = nil; swap y, y; }" ∷ []) (fault code.Mismatch)
    (program (class_named "A" false [] ∷ []) manager.Arena (declare (codes "y") (to cap.Iso "A") (value nil) ∷ swap (codes "y") (var "y") ∷ []))
unfolding digits
swap_without_field = (refl, refl)

-- `swap` needs an `iso` field
swap_with_number : Example
    ("class A { n: int; o: iso A; def mut f(y: iso A): iso A { return y; } def imm g() { } }"
    ∷ "main arena { let y: iso A = nil; let a: mut A = nil; swap y, a.n; }" ∷ [])
    (fault code.Mismatch)
    (program one_class manager.Arena
    (declare (codes "y") (to cap.Iso "A") (value nil)
    ∷ declare (codes "a") (to cap.Mut "A") (value nil)
    ∷ swap (codes "y") (dot "a" "n") ∷ []))
unfolding digits
swap_with_number = (refl, refl)

-- `enter` needs an `iso` variable
mut_entered : Example ("class A { }" ∷ "main arena { let a: mut A = nil; enter a as z { } }" ∷ []) (fault code.Mismatch)
    (program (class_named "A" false [] ∷ []) manager.Arena
    (declare (codes "a") (to cap.Mut "A") (value nil) ∷ enter (var "a") (codes "z") (block []) None ∷ []))
unfolding digits
mut_entered = (refl, refl)

-- or an `iso` field
field_entered : Example
    ("class A { n: int; o: iso A; def mut f(y: iso A): iso A { return y; } def imm g() { } }"
    ∷ "main arena { let a: mut A = nil; enter a.o as z { z.n = 1; } }" ∷ [])
    None
    (program one_class manager.Arena
    (declare (codes "a") (to cap.Mut "A") (value nil)
    ∷ enter (dot "a" "o") (codes "z") (block (assign (dot "z" "n") (value (number (pos 1))) ∷ [])) None ∷ []))
unfolding digits
field_entered = (refl, refl)

-- a reference can't be printed
reference_printed : Example ("class A { }" ∷ "main arena { let a: mut A = nil; print a; }" ∷ []) (fault code.Mismatch)
    (program (class_named "A" false [] ∷ []) manager.Arena (declare (codes "a") (to cap.Mut "A") (value nil) ∷ print (use_of "a") ∷ []))
unfolding digits
reference_printed = (refl, refl)

-- Bodies

-- main gives no result
return_in_main : Example ("main arena { return 1; }" ∷ []) (fault code.Return)
    (program [] manager.Arena (return (number (pos 1)) ∷ []))
unfolding digits
return_in_main = (refl, refl)

-- a `return` inside a block isn't the last statement of its body
return_in_block : Example ("class A { def mut f(): int { if true { return 1; } return 2; } }" ∷ "main arena { }" ∷ []) (fault code.Return)
    (program (class_named "A" false (method_named cap.Mut "f" [] (Some int)
    (branch (boolean true) (block (return (number (pos 1)) ∷ [])) no_else
    ∷ return (number (pos 2)) ∷ []) ∷ []) ∷ [])
    manager.Arena
    [])
unfolding digits
return_in_block = (refl, refl)

-- the faults of a body come before its end
body_before_end : Example ("class A { def mut f(): int { print nil; } }" ∷ "main arena { }" ∷ []) (fault code.Mismatch)
    (program (class_named "A" false (method_named cap.Mut "f" [] (Some int) (print nil ∷ []) ∷ []) ∷ []) manager.Arena [])
unfolding digits
body_before_end = (refl, refl)

-- methods come before main
methods_before_main : Example ("class A { def mut f() { print nil; } }" ∷ "main arena { return 1; }" ∷ []) (fault code.Mismatch)
    (program (class_named "A" false (method_named cap.Mut "f" [] None (print nil ∷ []) ∷ []) ∷ []) manager.Arena (return (number (pos 1)) ∷ []))
unfolding digits
methods_before_main = (refl, refl)
