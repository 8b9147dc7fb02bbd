-- Short programs and their first faults, computed. Beside each text stands its tree.
use Rattle.std.proofs.Common.{refl, [], ◌∷◌, true, false, Some, None, codes, pos}
use Rattle.std.specs.Fmt.{digits}
use Rattle.rg_base.specs.declared.words.Cap.TheVariants as cap
use Rattle.rg_base.specs.declared.words.Manager.TheVariants as manager
use Rattle.rg_base.specs.declared.fault.Code.TheVariants as code
use Rattle.rg_tree.specs.declared.rows.BinOp.TheVariants as op
use Rattle.rg_tree.specs.Tree.{int, number, nil, path, is_nil, binary, value, new, new_iso, freeze, read, result_of, declare, assign, call, swap}
use Rattle.rg_tree.specs.Tree.{branch, no_else, while, enter, print, return}
use Rattle.rg_rules.proofs.Sources.{var, dot, dots, use_of, to, call_of, block, field_named, param, method_named, class_named, program, fault}
use Rattle.rg_rules.proofs.Sources.{Example}

-- what one branch uses up is gone
used_twice : Example
    ("class N { v: int; }"
    ∷ "main arena { let y: iso N = new iso N in trace; let k: int = read; if k == 1 { let z: iso N = y; } let w: iso N = y; }" ∷ [])
    (fault code.Unavailable)
    (program (class_named "N" false (field_named "v" int ∷ []) ∷ []) manager.Arena
    (declare (codes "y") (to cap.Iso "N") (new_iso (codes "N") None manager.Trace)
    ∷ declare (codes "k") int read
    ∷ branch (binary op.Eq (use_of "k") (number (pos 1))) (block (declare (codes "z") (to cap.Iso "N") (value (use_of "y")) ∷ [])) no_else
    ∷ declare (codes "w") (to cap.Iso "N") (value (use_of "y")) ∷ []))
unfolding digits
used_twice = (refl, refl)

-- it may be assigned again
made_again : Example
    ("class N { v: int; }"
    ∷ "main arena { let y: iso N = new iso N in trace; let k: int = read; if k == 1 { let z: iso N = y; } y = new iso N in trace; }" ∷ [])
    None
    (program (class_named "N" false (field_named "v" int ∷ []) ∷ []) manager.Arena
    (declare (codes "y") (to cap.Iso "N") (new_iso (codes "N") None manager.Trace)
    ∷ declare (codes "k") int read
    ∷ branch (binary op.Eq (use_of "k") (number (pos 1))) (block (declare (codes "z") (to cap.Iso "N") (value (use_of "y")) ∷ [])) no_else
    ∷ assign (var "y") (new_iso (codes "N") None manager.Trace) ∷ []))
unfolding digits
made_again = (refl, refl)

-- a field of an object outside the window can't be written
outer_field_written : Example
    ("class N { v: int; down: iso N; }"
    ∷ "main trace { let a: mut N = new N; let k: int = 0; let w: iso N = nil; let y: iso N = new iso N in arena; enter y as z {"
    ∷ "a.v = 1; } }" ∷ [])
    (fault code.Capability)
    (program (class_named "N" false (field_named "v" int ∷ field_named "down" (to cap.Iso "N") ∷ []) ∷ []) manager.Trace
    (declare (codes "a") (to cap.Mut "N") (new (codes "N") None)
    ∷ declare (codes "k") int (value (number (pos 0)))
    ∷ declare (codes "w") (to cap.Iso "N") (value nil)
    ∷ declare (codes "y") (to cap.Iso "N") (new_iso (codes "N") None manager.Arena)
    ∷ enter (var "y") (codes "z") (block (assign (dot "a" "v") (value (number (pos 1))) ∷ [])) None ∷ []))
unfolding digits
outer_field_written = (refl, refl)

-- a `mut` variable outside the window can't be assigned
outer_reference_assigned : Example
    ("class N { v: int; down: iso N; }"
    ∷ "main trace { let a: mut N = new N; let k: int = 0; let w: iso N = nil; let y: iso N = new iso N in arena; enter y as z {"
    ∷ "a = nil; } }" ∷ [])
    (fault code.OutsideWindow)
    (program (class_named "N" false (field_named "v" int ∷ field_named "down" (to cap.Iso "N") ∷ []) ∷ []) manager.Trace
    (declare (codes "a") (to cap.Mut "N") (new (codes "N") None)
    ∷ declare (codes "k") int (value (number (pos 0)))
    ∷ declare (codes "w") (to cap.Iso "N") (value nil)
    ∷ declare (codes "y") (to cap.Iso "N") (new_iso (codes "N") None manager.Arena)
    ∷ enter (var "y") (codes "z") (block (assign (var "a") (value nil) ∷ [])) None ∷ []))
unfolding digits
outer_reference_assigned = (refl, refl)

-- an `iso` field of an object outside the window can't be swapped
outer_field_swapped : Example
    ("class N { v: int; down: iso N; }"
    ∷ "main trace { let a: mut N = new N; let k: int = 0; let w: iso N = nil; let y: iso N = new iso N in arena; enter y as z {"
    ∷ "swap w, a.down; } }" ∷ [])
    (fault code.Capability)
    (program (class_named "N" false (field_named "v" int ∷ field_named "down" (to cap.Iso "N") ∷ []) ∷ []) manager.Trace
    (declare (codes "a") (to cap.Mut "N") (new (codes "N") None)
    ∷ declare (codes "k") int (value (number (pos 0)))
    ∷ declare (codes "w") (to cap.Iso "N") (value nil)
    ∷ declare (codes "y") (to cap.Iso "N") (new_iso (codes "N") None manager.Arena)
    ∷ enter (var "y") (codes "z") (block (swap (codes "w") (dot "a" "down") ∷ [])) None ∷ []))
unfolding digits
outer_field_swapped = (refl, refl)

-- a number outside the window may be assigned
outer_number_assigned : Example
    ("class N { v: int; down: iso N; }"
    ∷ "main trace { let a: mut N = new N; let k: int = 0; let w: iso N = nil; let y: iso N = new iso N in arena; enter y as z {"
    ∷ "k = 1; } }" ∷ [])
    None
    (program (class_named "N" false (field_named "v" int ∷ field_named "down" (to cap.Iso "N") ∷ []) ∷ []) manager.Trace
    (declare (codes "a") (to cap.Mut "N") (new (codes "N") None)
    ∷ declare (codes "k") int (value (number (pos 0)))
    ∷ declare (codes "w") (to cap.Iso "N") (value nil)
    ∷ declare (codes "y") (to cap.Iso "N") (new_iso (codes "N") None manager.Arena)
    ∷ enter (var "y") (codes "z") (block (assign (var "k") (value (number (pos 1))) ∷ [])) None ∷ []))
unfolding digits
outer_number_assigned = (refl, refl)

-- the entered variable can't be assigned
entered_variable_assigned : Example
    ("class N { v: int; down: iso N; }"
    ∷ "main trace { let a: mut N = new N; let k: int = 0; let w: iso N = nil; let y: iso N = new iso N in arena; enter y as z {"
    ∷ "y = nil; } }" ∷ [])
    (fault code.Unavailable)
    (program (class_named "N" false (field_named "v" int ∷ field_named "down" (to cap.Iso "N") ∷ []) ∷ []) manager.Trace
    (declare (codes "a") (to cap.Mut "N") (new (codes "N") None)
    ∷ declare (codes "k") int (value (number (pos 0)))
    ∷ declare (codes "w") (to cap.Iso "N") (value nil)
    ∷ declare (codes "y") (to cap.Iso "N") (new_iso (codes "N") None manager.Arena)
    ∷ enter (var "y") (codes "z") (block (assign (var "y") (value nil) ∷ [])) None ∷ []))
unfolding digits
entered_variable_assigned = (refl, refl)

-- a loop can't use up what is ready at its head
used_in_loop : Example
    ("class N { v: int; }" ∷ "main arena { let k: int = 0; let y: iso N = nil; while k < 3 { let w: iso N = y; } }" ∷ [])
    (fault code.Loop)
    (program (class_named "N" false (field_named "v" int ∷ []) ∷ []) manager.Arena
    (declare (codes "k") int (value (number (pos 0)))
    ∷ declare (codes "y") (to cap.Iso "N") (value nil)
    ∷ while (binary op.Lt (use_of "k") (number (pos 3))) (block (declare (codes "w") (to cap.Iso "N") (value (use_of "y")) ∷ [])) ∷ []))
unfolding digits
used_in_loop = (refl, refl)

-- it may use it up and give it back
given_back_in_loop : Example
    ("class N { v: int; }" ∷ "main arena { let k: int = 0; let y: iso N = nil; while k < 3 { let w: iso N = y; y = w; k = k + 1; } }" ∷ [])
    None
    (program (class_named "N" false (field_named "v" int ∷ []) ∷ []) manager.Arena
    (declare (codes "k") int (value (number (pos 0)))
    ∷ declare (codes "y") (to cap.Iso "N") (value nil)
    ∷ while (binary op.Lt (use_of "k") (number (pos 3))) (block (declare (codes "w") (to cap.Iso "N") (value (use_of "y"))
    ∷ assign (var "y") (value (use_of "w"))
    ∷ assign (var "k") (value (binary op.Add (use_of "k") (number (pos 1)))) ∷ [])) ∷ []))
unfolding digits
given_back_in_loop = (refl, refl)

-- what is frozen may be read, behind its `iso` fields too
frozen_read : Example
    ("class N { v: int; down: iso N; }"
    ∷ "main trace { let y: iso N = new iso N in arena; let w: iso N = new iso N in count; enter w as z { z.v = 9; } enter y as z {"
    ∷ "swap w, z.down; } let f: imm N = freeze y; print f.down.v; }" ∷ [])
    None
    (program (class_named "N" false (field_named "v" int ∷ field_named "down" (to cap.Iso "N") ∷ []) ∷ []) manager.Trace
    (declare (codes "y") (to cap.Iso "N") (new_iso (codes "N") None manager.Arena)
    ∷ declare (codes "w") (to cap.Iso "N") (new_iso (codes "N") None manager.Count)
    ∷ enter (var "w") (codes "z") (block (assign (dot "z" "v") (value (number (pos 9))) ∷ [])) None
    ∷ enter (var "y") (codes "z") (block (swap (codes "w") (dot "z" "down") ∷ [])) None
    ∷ declare (codes "f") (to cap.Imm "N") (freeze (codes "y"))
    ∷ print (path (dots "f" "down" "v")) ∷ []))
unfolding digits
frozen_read = (refl, refl)

-- it can't be written
frozen_written : Example
    ("class N { v: int; down: iso N; }"
    ∷ "main trace { let y: iso N = new iso N in arena; let w: iso N = new iso N in count; enter w as z { z.v = 9; } enter y as z {"
    ∷ "swap w, z.down; } let f: imm N = freeze y; f.v = 1; }" ∷ [])
    (fault code.Capability)
    (program (class_named "N" false (field_named "v" int ∷ field_named "down" (to cap.Iso "N") ∷ []) ∷ []) manager.Trace
    (declare (codes "y") (to cap.Iso "N") (new_iso (codes "N") None manager.Arena)
    ∷ declare (codes "w") (to cap.Iso "N") (new_iso (codes "N") None manager.Count)
    ∷ enter (var "w") (codes "z") (block (assign (dot "z" "v") (value (number (pos 9))) ∷ [])) None
    ∷ enter (var "y") (codes "z") (block (swap (codes "w") (dot "z" "down") ∷ [])) None
    ∷ declare (codes "f") (to cap.Imm "N") (freeze (codes "y"))
    ∷ assign (dot "f" "v") (value (number (pos 1))) ∷ []))
unfolding digits
frozen_written = (refl, refl)

-- an `iso` field may be asked whether it is nil
iso_field_asked : Example
    ("class N { v: int; down: iso N; }"
    ∷ "main trace { let a: mut N = new N; let y: iso N = new iso N in arena; swap y, a.down; print y is nil; print a.down is nil; }" ∷ [])
    None
    (program (class_named "N" false (field_named "v" int ∷ field_named "down" (to cap.Iso "N") ∷ []) ∷ []) manager.Trace
    (declare (codes "a") (to cap.Mut "N") (new (codes "N") None)
    ∷ declare (codes "y") (to cap.Iso "N") (new_iso (codes "N") None manager.Arena)
    ∷ swap (codes "y") (dot "a" "down")
    ∷ print (is_nil (var "y"))
    ∷ print (is_nil (dot "a" "down")) ∷ []))
unfolding digits
iso_field_asked = (refl, refl)

-- it can't be used as a value
iso_field_read : Example
    ("class N { v: int; down: iso N; }"
    ∷ "main trace { let a: mut N = new N; let y: iso N = new iso N in arena; swap y, a.down; let q: iso N = a.down;"
    ∷ "print a.down is nil; }" ∷ [])
    (fault code.IsoField)
    (program (class_named "N" false (field_named "v" int ∷ field_named "down" (to cap.Iso "N") ∷ []) ∷ []) manager.Trace
    (declare (codes "a") (to cap.Mut "N") (new (codes "N") None)
    ∷ declare (codes "y") (to cap.Iso "N") (new_iso (codes "N") None manager.Arena)
    ∷ swap (codes "y") (dot "a" "down")
    ∷ declare (codes "q") (to cap.Iso "N") (value (path (dot "a" "down")))
    ∷ print (is_nil (dot "a" "down")) ∷ []))
unfolding digits
iso_field_read = (refl, refl)

-- a field of an unknown class
field_of_unknown_class : Example ("class A { x: mut B; }" ∷ "main arena { }" ∷ []) (fault code.Unknown)
    (program (class_named "A" false (field_named "x" (to cap.Mut "B") ∷ []) ∷ []) manager.Arena [])
unfolding digits
field_of_unknown_class = (refl, refl)

-- a method with the name of a field
member_twice : Example ("class A { x: int; def mut x() { } }" ∷ "main arena { }" ∷ []) (fault code.Duplicate)
    (program (class_named "A" false (field_named "x" int ∷ method_named cap.Mut "x" [] None [] ∷ []) ∷ []) manager.Arena [])
unfolding digits
member_twice = (refl, refl)

-- `tmp` of an ordinary class
tmp_of_ordinary_class : Example ("class A { x: tmp A; }" ∷ "main arena { }" ∷ []) (fault code.BadType)
    (program (class_named "A" false (field_named "x" (to cap.Tmp "A") ∷ []) ∷ []) manager.Arena [])
unfolding digits
tmp_of_ordinary_class = (refl, refl)

-- `mut` of a tmp class
mut_of_tmp_class : Example ("tmp class T { p: paused A; }" ∷ "class A { x: mut T; }" ∷ "main arena { }" ∷ []) (fault code.BadType)
    (program (class_named "T" true (field_named "p" (to cap.Paused "A") ∷ [])
    ∷ class_named "A" false (field_named "x" (to cap.Mut "T") ∷ []) ∷ [])
    manager.Arena
    [])
unfolding digits
mut_of_tmp_class = (refl, refl)

-- `iso` of an ordinary class
iso_of_ordinary_class : Example ("tmp class T { p: paused A; }" ∷ "class A { x: iso A; }" ∷ "main arena { }" ∷ []) None
    (program (class_named "T" true (field_named "p" (to cap.Paused "A") ∷ [])
    ∷ class_named "A" false (field_named "x" (to cap.Iso "A") ∷ []) ∷ [])
    manager.Arena
    [])
unfolding digits
iso_of_ordinary_class = (refl, refl)

-- fewer arguments than parameters
too_few_arguments : Example
    ("class A { n: int; def mut f(k: int): int { return k; } }" ∷ "main arena { let a: mut A = new A; call a.f(); }" ∷ [])
    (fault code.Arity)
    (program (class_named "A" false (field_named "n" int
    ∷ method_named cap.Mut "f" (param "k" int ∷ []) (Some int) (return (use_of "k") ∷ []) ∷ []) ∷ [])
    manager.Arena
    (declare (codes "a") (to cap.Mut "A") (new (codes "A") None) ∷ call (call_of (var "a") "f" []) ∷ []))
unfolding digits
too_few_arguments = (refl, refl)

-- a call whose result goes into a field
call_into_field : Example
    ("class A { n: int; def mut f(k: int): int { return k; } }" ∷ "main arena { let a: mut A = new A; a.n = call a.f(1); }" ∷ [])
    (fault code.CallTarget)
    (program (class_named "A" false (field_named "n" int
    ∷ method_named cap.Mut "f" (param "k" int ∷ []) (Some int) (return (use_of "k") ∷ []) ∷ []) ∷ [])
    manager.Arena
    (declare (codes "a") (to cap.Mut "A") (new (codes "A") None)
    ∷ assign (dot "a" "n") (result_of (call_of (var "a") "f" ((number (pos 1)) ∷ []))) ∷ []))
unfolding digits
call_into_field = (refl, refl)

-- a method with a result that doesn't end in `return`
no_return : Example ("class A { def mut f(): int { } }" ∷ "main arena { }" ∷ []) (fault code.Return)
    (program (class_named "A" false (method_named cap.Mut "f" [] (Some int) [] ∷ []) ∷ []) manager.Arena [])
unfolding digits
no_return = (refl, refl)
