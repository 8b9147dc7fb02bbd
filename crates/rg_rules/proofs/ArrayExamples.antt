-- Programs with arrays, computed: their first faults, and their runs. Beside each text stands its tree.
use Rattle.std.proofs.Common.{◌≡◌, refl, ℕ, pos, [], ◌∷◌, true, false, Some, None, codes}
use Rattle.std.specs.Fmt.{digits}
use Rattle.rg_base.specs.declared.words.Cap.TheVariants as cap
use Rattle.rg_base.specs.declared.words.Manager.TheVariants as manager
use Rattle.rg_base.specs.declared.fault.Code.TheVariants as code
use Rattle.rg_base.specs.declared.outcome.Trap.TheVariants as trap
use Rattle.rg_base.specs.declared.value.Val.TheVariants as val
use Rattle.rg_tree.specs.declared.rows.BinOp.TheVariants as op
use Rattle.rg_tree.specs.Tree.{Expr, int, number, boolean, nil, path, neg, binary, size, element, value, new, new_tmp, new_iso, result_of, StmtKind}
use Rattle.rg_tree.specs.Tree.{declare, assign, assign_element, print, collect, Class, Tree}
use Rattle.rg_rules.specs.Runs.{Done, Stopped, plain_from, plain}
use Rattle.rg_rules.proofs.Sources.{var, dot, use_of, to, call_of, method_named, class_named, array_class, program, fault, Example}
use Rattle.rg_rules.proofs.RunSources.{Source, shown, kept}
use Rattle.rg_rules.proofs.RunExamples.{counted}

-- class Row [int];
abbrev numbers : Class
numbers = array_class "Row" false int

-- class Row [mut N];
abbrev nodes : Class
nodes = array_class "Row" false (to cap.Mut "N")

-- a[k]
abbrev at : ℕ → Expr
at k = element (var "a") (number (pos k))

-- Runs

-- elements start with 0, are written and read, and one that isn't there traps
abbrev read_and_written : Tree
read_and_written = program (numbers ∷ []) manager.Trace
    (declare (codes "a") (to cap.Mut "Row") (new (codes "Row") (Some (number (pos 3))))
    ∷ assign_element (var "a") (number (pos 0)) (value (number (pos 5)))
    ∷ assign_element (var "a") (number (pos 2)) (value (binary op.Add (at 0) (size (var "a"))))
    ∷ print (at 2) ∷ print (at 1) ∷ print (at 3) ∷ [])

read_and_written-text : Source
    ("class Row [int];"
    ∷ "main trace { let a: mut Row = new Row [3]; a[0] = 5; a[2] = a[0] + size a; print a[2]; print a[1]; print a[3]; }" ∷ [])
    read_and_written
unfolding digits
read_and_written-text = (refl, refl)

read_and_written-traps : shown (plain read_and_written [] 9) ≡ (val.Int (pos 8) ∷ val.Int (pos 0) ∷ [], Stopped trap.Index 1, 5, 1)
unfolding plain_from
read_and_written-traps = refl

-- an element keeps an object
abbrev keeping : Tree
keeping = program (counted ∷ nodes ∷ []) manager.Trace
    (declare (codes "a") (to cap.Mut "Row") (new (codes "Row") (Some (number (pos 2))))
    ∷ assign_element (var "a") (number (pos 0)) (new (codes "N") None)
    ∷ assign_element (var "a") (number (pos 1)) (value (at 0))
    ∷ declare (codes "x") (to cap.Mut "N") (value (at 1))
    ∷ assign (dot "x" "v") (value (number (pos 4)))
    ∷ assign_element (var "a") (number (pos 0)) (value nil)
    ∷ assign (var "x") (value nil) ∷ collect
    ∷ declare (codes "y") (to cap.Mut "N") (value (at 1))
    ∷ print (path (dot "y" "v")) ∷ assign (var "a") (value nil) ∷ assign (var "y") (value nil) ∷ collect ∷ [])

keeping-text : Source
    ("class N { v: int; }"
    ∷ "class Row [mut N];"
    ∷ "main trace { let a: mut Row = new Row [2]; a[0] = new N; a[1] = a[0]; let x: mut N = a[1]; x.v = 4; a[0] = nil; x = nil; collect;"
    ∷ "let y: mut N = a[1]; print y.v; a = nil; y = nil; collect; }" ∷ [])
    keeping
unfolding digits
keeping-text = (refl, refl)

keeping-ends : shown (plain keeping [] 20) ≡ (val.Int (pos 4) ∷ [], Done, 14, 2)
unfolding plain_from
keeping-ends = refl

keeping-kept_by_element : kept keeping 8 ≡ 0 ∷ 1 ∷ []
unfolding plain_from
keeping-kept_by_element = refl

keeping-kept : kept keeping 13 ≡ []
unfolding plain_from
keeping-kept = refl

-- an array of so many numbers
abbrev sized : Expr → Tree
sized e = program (numbers ∷ []) manager.Trace (declare (codes "a") (to cap.Mut "Row") (new (codes "Row") (Some e)) ∷ [])

negative_size-text : Source ("class Row [int];" ∷ "main trace { let a: mut Row = new Row [-1]; }" ∷ []) (sized (neg (number (pos 1))))
unfolding digits
negative_size-text = (refl, refl)

negative_size-traps : shown (plain (sized (neg (number (pos 1)))) [] 9) ≡ ([], Stopped trap.Size 1, 0, 0)
unfolding plain_from
negative_size-traps = refl

size_past_its_limit-text : Source ("class Row [int];" ∷ "main trace { let a: mut Row = new Row [65536]; }" ∷ []) (sized (number (pos 65536)))
unfolding digits
size_past_its_limit-text = (refl, refl)

size_past_its_limit-traps : shown (plain (sized (number (pos 65536))) [] 9) ≡ ([], Stopped trap.Size 1, 0, 0)
unfolding plain_from
size_past_its_limit-traps = refl

no_elements-ends : shown (plain (sized (number (pos 0))) [] 9) ≡ ([], Done, 2, 1)
unfolding plain_from
no_elements-ends = refl

-- What comes first

-- an array of two numbers, or nil, and a statement
abbrev with_array : StmtKind → StmtKind → Tree
with_array d k = program (numbers ∷ []) manager.Arena (d ∷ k ∷ [])

abbrev two : StmtKind
two = declare (codes "a") (to cap.Mut "Row") (new (codes "Row") (Some (number (pos 2))))

abbrev none : StmtKind
none = declare (codes "a") (to cap.Mut "Row") (value nil)

abbrev trapping : Expr
trapping = binary op.Div (number (pos 1)) (number (pos 0))

-- the array is followed before the index is computed
array_first-text : Source ("class Row [int];" ∷ "main arena { let a: mut Row = nil; print a[1 / 0]; }" ∷ [])
    (with_array none (print (element (var "a") trapping)))
unfolding digits
array_first-text = (refl, refl)

array_first-traps : shown (plain (with_array none (print (element (var "a") trapping))) [] 9) ≡ ([], Stopped trap.Nil 1, 1, 0)
unfolding plain_from
array_first-traps = refl

-- the index is tested before the right side is computed
index_first-text : Source ("class Row [int];" ∷ "main arena { let a: mut Row = new Row [2]; a[2] = 1 / 0; }" ∷ [])
    (with_array two (assign_element (var "a") (number (pos 2)) (value trapping)))
unfolding digits
index_first-text = (refl, refl)

index_first-traps : shown (plain (with_array two (assign_element (var "a") (number (pos 2)) (value trapping))) [] 9)
    ≡ ([], Stopped trap.Index 1, 1, 1)
unfolding plain_from
index_first-traps = refl

-- Faults

-- an array class is made with a size
no_size : Example ("class Row [int];" ∷ "main trace { let a: mut Row = new Row; }" ∷ []) (fault code.BadType)
    (program (numbers ∷ []) manager.Trace (declare (codes "a") (to cap.Mut "Row") (new (codes "Row") None) ∷ []))
unfolding digits
no_size = (refl, refl)

-- and no other class is
size_of_ordinary_class : Example ("class N { v: int; }" ∷ "main trace { let a: mut N = new N [true]; }" ∷ []) (fault code.BadType)
    (program (counted ∷ []) manager.Trace (declare (codes "a") (to cap.Mut "N") (new (codes "N") (Some (boolean true))) ∷ []))
unfolding digits
size_of_ordinary_class = (refl, refl)

-- an element isn't `iso`
iso_elements : Example ("class N { v: int; }" ∷ "class Row [iso N];" ∷ "main arena { }" ∷ []) (fault code.BadType)
    (program (counted ∷ array_class "Row" false (to cap.Iso "N") ∷ []) manager.Arena [])
unfolding digits
iso_elements = (refl, refl)

-- nor is one of an ordinary class `paused`
paused_elements : Example ("class N { v: int; }" ∷ "class Row [paused N];" ∷ "main arena { }" ∷ []) (fault code.BadType)
    (program (counted ∷ array_class "Row" false (to cap.Paused "N") ∷ []) manager.Arena [])
unfolding digits
paused_elements = (refl, refl)

-- one of a tmp class may be
paused_elements_of_tmp_class : Example
    ("class N { v: int; }" ∷ "tmp class Row [paused N];" ∷ "main arena { let a: tmp Row = new tmp Row [1]; a[0] = new N; }" ∷ []) None
    (program (counted ∷ array_class "Row" true (to cap.Paused "N") ∷ []) manager.Arena
    (declare (codes "a") (to cap.Tmp "Row") (new_tmp (codes "Row") (Some (number (pos 1))))
    ∷ assign_element (var "a") (number (pos 0)) (new (codes "N") None) ∷ []))
unfolding digits
paused_elements_of_tmp_class = (refl, refl)

-- an object of another class has no size and no elements
size_of_object : Example ("class N { v: int; }" ∷ "main arena { let a: mut N = nil; print size a; }" ∷ []) (fault code.Mismatch)
    (program (counted ∷ []) manager.Arena (declare (codes "a") (to cap.Mut "N") (value nil) ∷ print (size (var "a")) ∷ []))
unfolding digits
size_of_object = (refl, refl)

-- an array in a region of its own isn't looked into
size_behind_iso : Example ("class Row [int];" ∷ "main arena { let a: iso Row = new iso Row [2] in count; print size a; }" ∷ [])
    (fault code.Capability)
    (program (numbers ∷ []) manager.Arena
    (declare (codes "a") (to cap.Iso "Row") (new_iso (codes "Row") (Some (number (pos 2))) manager.Count) ∷ print (size (var "a")) ∷ []))
unfolding digits
size_behind_iso = (refl, refl)

-- an index is a number
truth_as_index : Example ("class Row [int];" ∷ "main arena { let a: mut Row = nil; print a[true]; }" ∷ []) (fault code.Mismatch)
    (with_array none (print (element (var "a") (boolean true))))
unfolding digits
truth_as_index = (refl, refl)

-- a `mut` element is `paused` through a `paused` reference
element_behind_paused : Example
    ("class N { v: int; }" ∷ "class Row [mut N];"
    ∷ "main arena { let a: paused Row = new Row [1]; let x: mut N = a[0]; }" ∷ [])
    (fault code.Mismatch)
    (program (counted ∷ nodes ∷ []) manager.Arena
    (declare (codes "a") (to cap.Paused "Row") (new (codes "Row") (Some (number (pos 1))))
    ∷ declare (codes "x") (to cap.Mut "N") (value (at 0)) ∷ []))
unfolding digits
element_behind_paused = (refl, refl)

-- nothing is written through one
paused_array_written : Example ("class Row [int];" ∷ "main arena { let a: paused Row = new Row [1]; a[true] = 1; }" ∷ []) (fault code.Capability)
    (program (numbers ∷ []) manager.Arena
    (declare (codes "a") (to cap.Paused "Row") (new (codes "Row") (Some (number (pos 1))))
    ∷ assign_element (var "a") (boolean true) (value (number (pos 1))) ∷ []))
unfolding digits
paused_array_written = (refl, refl)

-- the result of a call doesn't go into an element, which is tested before the index
call_into_element : Example
    ("class A { def mut f() { } }" ∷ "class Row [int];"
    ∷ "main arena { let b: mut A = nil; let a: mut Row = nil; a[true] = call b.f(); }" ∷ [])
    (fault code.CallTarget)
    (program (class_named "A" false (method_named cap.Mut "f" [] None [] ∷ []) ∷ numbers ∷ []) manager.Arena
    (declare (codes "b") (to cap.Mut "A") (value nil)
    ∷ none ∷ assign_element (var "a") (boolean true) (result_of (call_of (var "b") "f" [])) ∷ []))
unfolding digits
call_into_element = (refl, refl)
