-- Programs and their runs, computed: what each prints, how it stands, its steps and the objects that it made. Beside each text
-- stands its tree.
use Rattle.std.proofs.Common.{◌≡◌, refl, pos, negsuc, true, false, [], ◌∷◌, codes, None}
use Rattle.std.specs.Fmt.{digits}
use Rattle.rg_base.specs.declared.words.Cap.TheVariants as cap
use Rattle.rg_base.specs.declared.words.Manager.TheVariants as manager
use Rattle.rg_base.specs.declared.outcome.Trap.TheVariants as trap
use Rattle.rg_base.specs.declared.value.Val.TheVariants as val
use Rattle.rg_tree.specs.declared.rows.BinOp.TheVariants as op
use Rattle.rg_tree.specs.Tree.{int, bool, number, nil, path, is_nil, neg, not, binary, value, new, new_iso, freeze, read, more, declare, assign, swap}
use Rattle.rg_tree.specs.Tree.{branch, no_else, while, enter, print, Class, Tree}
use Rattle.rg_rules.specs.Runs.{Running, Done, Stopped, plain_from, plain}
use Rattle.rg_rules.proofs.Sources.{var, dot, dots, use_of, to, block, field_named, class_named, program}
use Rattle.rg_rules.proofs.RunSources.{Source, shown}

-- class N { v: int; }
abbrev pub counted : Class
counted = class_named "N" false (field_named "v" int ∷ [])

-- class N { v: int; next: mut N; }
abbrev pub linked : Class
linked = class_named "N" false (field_named "v" int ∷ field_named "next" (to cap.Mut "N") ∷ [])

-- class N { v: int; down: iso N; }
abbrev pub nested : Class
nested = class_named "N" false (field_named "v" int ∷ field_named "down" (to cap.Iso "N") ∷ [])

-- Steps

-- one number is printed
abbrev one_number : Tree
one_number = program [] manager.Arena (print (number (pos 7)) ∷ [])

one_number-text : Source ("main arena { print 7; }" ∷ []) one_number
unfolding digits
one_number-text = (refl, refl)

one_number-ends : shown (plain one_number [] 10) ≡ (val.Int (pos 7) ∷ [], Done, 2, 0)
unfolding plain_from
one_number-ends = refl

one_number-after_two : shown (plain one_number [] 2) ≡ (val.Int (pos 7) ∷ [], Done, 2, 0)
unfolding plain_from
one_number-after_two = refl

one_number-after_one : shown (plain one_number [] 1) ≡ (val.Int (pos 7) ∷ [], Running, 1, 0)
unfolding plain_from
one_number-after_one = refl

one_number-after_none : shown (plain one_number [] 0) ≡ ([], Running, 0, 0)
unfolding plain_from
one_number-after_none = refl

-- nil is followed
abbrev nil_followed : Tree
nil_followed =
    program (counted ∷ []) manager.Trace (declare (codes "a") (to cap.Mut "N") (value nil) ∷ print (path (dot "a" "v")) ∷ [])

nil_followed-text : Source ("class N { v: int; }" ∷ "main trace { let a: mut N = nil; print a.v; }" ∷ []) nil_followed
unfolding digits
nil_followed-text = (refl, refl)

nil_followed-traps : shown (plain nil_followed [] 10) ≡ ([], Stopped trap.Nil 1, 1, 0)
unfolding plain_from
nil_followed-traps = refl

-- an `iso` variable goes round in a loop
abbrev given_back : Tree
given_back = program (counted ∷ []) manager.Arena
    (declare (codes "k") int (value (number (pos 0)))
    ∷ declare (codes "y") (to cap.Iso "N") (value nil)
    ∷ while (binary op.Lt (use_of "k") (number (pos 3)))
    (block
    (declare (codes "w") (to cap.Iso "N") (value (use_of "y"))
    ∷ assign (var "y") (value (use_of "w"))
    ∷ assign (var "k") (value (binary op.Add (use_of "k") (number (pos 1)))) ∷ [])) ∷ [])

given_back-text : Source
    ("class N { v: int; }"
    ∷ "main arena { let k: int = 0; let y: iso N = nil; while k < 3 { let w: iso N = y; y = w; k = k + 1; } }" ∷ [])
    given_back
unfolding digits
given_back-text = (refl, refl)

given_back-ends : shown (plain given_back [] 50) ≡ ([], Done, 19, 0)
unfolding plain_from
given_back-ends = refl

-- Input

-- three numbers are read
abbrev three_reads : Tree
three_reads = program [] manager.Arena
    (declare (codes "a") int read
    ∷ print (use_of "a") ∷ declare (codes "b") int read ∷ print (use_of "b") ∷ declare (codes "c") int read ∷ [])

three_reads-text : Source ("main arena { let a: int = read; print a; let b: int = read; print b; let c: int = read; }" ∷ []) three_reads
unfolding digits
three_reads-text = (refl, refl)

three_reads-malformed : shown (plain three_reads (codes "12 -5 x") 50) ≡ (val.Int (pos 12) ∷ val.Int (negsuc 4) ∷ [], Stopped trap.Input 1, 4, 0)
unfolding plain_from
three_reads-malformed = refl

-- what is read is divided
abbrev read_divided : Tree
read_divided = program [] manager.Arena
    (declare (codes "a") int read ∷ print (binary op.Div (use_of "a") (neg (number (pos 1)))) ∷ [])

read_divided-text : Source ("main arena { let a: int = read; print a / -1; }" ∷ []) read_divided
unfolding digits
read_divided-text = (refl, refl)

read_divided-overflows : shown (plain read_divided (codes "-9223372036854775808") 50) ≡ ([], Stopped trap.Overflow 1, 1, 0)
unfolding plain_from
read_divided-overflows = refl

read_divided-without_input : shown (plain read_divided [] 50) ≡ ([], Stopped trap.End 1, 0, 0)
unfolding plain_from
read_divided-without_input = refl

-- all numbers of the input are added
abbrev sum_of_input : Tree
sum_of_input = program [] manager.Arena
    (declare (codes "s") int (value (number (pos 0)))
    ∷ declare (codes "k") int (value (number (pos 0)))
    ∷ declare (codes "go") bool more
    ∷ while (use_of "go")
    (block
    (assign (var "k") read
    ∷ assign (var "s") (value (binary op.Add (use_of "s") (use_of "k")))
    ∷ assign (var "go") more ∷ []))
    ∷ print (use_of "s") ∷ [])

sum_of_input-text : Source
    ("main arena { let s: int = 0; let k: int = 0; let go: bool = more;"
    ∷ "while go { k = read; s = s + k; go = more; } print s; }" ∷ [])
    sum_of_input
unfolding digits
sum_of_input-text = (refl, refl)

sum_of_input-of_three : shown (plain sum_of_input (codes "1 2 3\n") 50) ≡ (val.Int (pos 6) ∷ [], Done, 21, 0)
unfolding plain_from
sum_of_input-of_three = refl

sum_of_input-of_none : shown (plain sum_of_input [] 50) ≡ (val.Int (pos 0) ∷ [], Done, 6, 0)
unfolding plain_from
sum_of_input-of_none = refl

-- Operators

-- `or` and `and` compute no more than they need, division truncates, and a sum overflows
abbrev operators : Tree
operators = program (counted ∷ []) manager.Arena
    (declare (codes "a") (to cap.Mut "N") (value nil)
    ∷ print (binary op.Or (is_nil (var "a")) (binary op.Eq (path (dot "a" "v")) (number (pos 1))))
    ∷ print (binary op.And (not (is_nil (var "a"))) (binary op.Eq (path (dot "a" "v")) (number (pos 1))))
    ∷ print (binary op.Div (neg (number (pos 7))) (number (pos 2)))
    ∷ print (binary op.Rem (neg (number (pos 7))) (number (pos 2)))
    ∷ print (binary op.Add (number (pos 9223372036854775807)) (number (pos 1))) ∷ [])

operators-text : Source
    ("class N { v: int; }"
    ∷ "main arena { let a: mut N = nil; print a is nil or a.v == 1; print not a is nil and a.v == 1;"
    ∷ "print -7 / 2; print -7 % 2; print 9223372036854775807 + 1; }" ∷ [])
    operators
unfolding digits
operators-text = (refl, refl)

operators-overflow : shown (plain operators [] 50) ≡
    (val.Bool true ∷ val.Bool false ∷ val.Int (negsuc 2) ∷ val.Int (negsuc 0) ∷ [], Stopped trap.Overflow 1, 5, 0)
unfolding plain_from
operators-overflow = refl

-- a divisor is zero
abbrev zero_divisor : Tree
zero_divisor = program [] manager.Arena (print (binary op.Div (number (pos 1)) (number (pos 0))) ∷ [])

zero_divisor-text : Source ("main arena { print 1 / 0; }" ∷ []) zero_divisor
unfolding digits
zero_divisor-text = (refl, refl)

zero_divisor-traps : shown (plain zero_divisor [] 50) ≡ ([], Stopped trap.Zero 1, 0, 0)
unfolding plain_from
zero_divisor-traps = refl

-- Regions

-- the variable and the field exchange their references
abbrev swapped : Tree
swapped = program (nested ∷ []) manager.Trace
    (declare (codes "a") (to cap.Mut "N") (new (codes "N") None)
    ∷ declare (codes "y") (to cap.Iso "N") (new_iso (codes "N") None manager.Arena)
    ∷ swap (codes "y") (dot "a" "down") ∷ print (is_nil (var "y")) ∷ print (is_nil (dot "a" "down")) ∷ [])

swapped-text : Source
    ("class N { v: int; down: iso N; }"
    ∷ "main trace { let a: mut N = new N; let y: iso N = new iso N in arena;"
    ∷ "swap y, a.down; print y is nil; print a.down is nil; }" ∷ [])
    swapped
unfolding digits
swapped-text = (refl, refl)

swapped-ends : shown (plain swapped [] 50) ≡ (val.Bool true ∷ val.Bool false ∷ [], Done, 6, 2)
unfolding plain_from
swapped-ends = refl

-- an owner is replaced
abbrev owner_replaced : Tree
owner_replaced = program (counted ∷ []) manager.Arena
    (declare (codes "y") (to cap.Iso "N") (new_iso (codes "N") None manager.Trace)
    ∷ declare (codes "k") int read
    ∷ branch (binary op.Eq (use_of "k") (number (pos 1))) (block (declare (codes "z") (to cap.Iso "N") (value (use_of "y")) ∷ [])) no_else
    ∷ assign (var "y") (new_iso (codes "N") None manager.Trace) ∷ [])

owner_replaced-text : Source
    ("class N { v: int; }"
    ∷ "main arena { let y: iso N = new iso N in trace; let k: int = read; if k == 1 { let z: iso N = y; } y = new iso N in trace; }" ∷ [])
    owner_replaced
unfolding digits
owner_replaced-text = (refl, refl)

owner_replaced-after_four : shown (plain owner_replaced (codes "0") 4) ≡ ([], Running, 4, 2)
unfolding plain_from
owner_replaced-after_four = refl

-- a region is frozen with what hangs beneath it
abbrev frozen_beneath : Tree
frozen_beneath = program (nested ∷ []) manager.Trace
    (declare (codes "y") (to cap.Iso "N") (new_iso (codes "N") None manager.Arena)
    ∷ declare (codes "w") (to cap.Iso "N") (new_iso (codes "N") None manager.Count)
    ∷ enter (var "w") (codes "z") (block (assign (dot "z" "v") (value (number (pos 9))) ∷ [])) None
    ∷ enter (var "y") (codes "z") (block (swap (codes "w") (dot "z" "down") ∷ [])) None
    ∷ declare (codes "f") (to cap.Imm "N") (freeze (codes "y")) ∷ print (path (dots "f" "down" "v")) ∷ [])

frozen_beneath-text : Source
    ("class N { v: int; down: iso N; }"
    ∷ "main trace { let y: iso N = new iso N in arena; let w: iso N = new iso N in count; enter w as z { z.v = 9; }"
    ∷ "enter y as z { swap w, z.down; } let f: imm N = freeze y; print f.down.v; }" ∷ [])
    frozen_beneath
unfolding digits
frozen_beneath-text = (refl, refl)

frozen_beneath-ends : shown (plain frozen_beneath [] 50) ≡ (val.Int (pos 9) ∷ [], Done, 11, 2)
unfolding plain_from
frozen_beneath-ends = refl
