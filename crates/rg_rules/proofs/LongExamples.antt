-- Programs with many steps, many frames or a long expression, and their runs, computed. Beside each text stands its tree.
use Rattle.std.proofs.Common.{◌≡◌, refl, ℕ, zero, suc, List, ◌++◌, length, slice_get, Option, pos, false, [], ◌∷◌, Some, None, codes}
use Rattle.std.specs.Fmt.{digits}
use Rattle.rg_base.specs.declared.words.Cap.TheVariants as cap
use Rattle.rg_base.specs.declared.words.Manager.TheVariants as manager
use Rattle.rg_base.specs.declared.outcome.Trap.TheVariants as trap
use Rattle.rg_base.specs.declared.value.Val.TheVariants as val
use Rattle.rg_tree.specs.declared.rows.BinOp.TheVariants as op
use Rattle.rg_tree.specs.Tree.{Expr, int, bool, number, boolean, path, is_nil, not, binary, value, new, new_iso, read, result_of, declare, assign}
use Rattle.rg_tree.specs.Tree.{call, branch, no_else, otherwise, while, enter, print, collect, return, Class, Tree}
use Rattle.rg_tree.specs.Canonical.{canon}
use Rattle.rg_rules.specs.Acceptance.{first_fault}
use Rattle.rg_rules.specs.Runs.{Done, Stopped, plain_from, plain}
use Rattle.rg_rules.specs.Outside.Asks.{asks_from, asks}
use Rattle.rg_rules.proofs.Sources.{self, var, dot, dots, use_of, to, call_of, block, field_named, param, method_named, class_named, program}
use Rattle.rg_rules.proofs.Sources.{on_one_line, self_dot}
use Rattle.rg_rules.proofs.RunSources.{Source, shown}

-- a node of a list
abbrev node : Class
node = class_named "Node" false (field_named "value" int ∷ field_named "next" (to cap.Mut "Node") ∷ [])

-- a list, to which a number can be pushed, every second node of which can be unlinked, and whose sum can be computed
abbrev list : Class
list = class_named "List" false
    (field_named "head" (to cap.Mut "Node")
    ∷ method_named cap.Mut "push" (param "v" int ∷ []) None
    (declare (codes "n") (to cap.Mut "Node") (new (codes "Node") None)
    ∷ assign (dot "n" "value") (value (use_of "v"))
    ∷ assign (dot "n" "next") (value (path (self_dot "head"))) ∷ assign (self_dot "head") (value (use_of "n")) ∷ [])
    ∷ method_named cap.Mut "thin" [] None
    (declare (codes "p") (to cap.Mut "Node") (value (path (self_dot "head")))
    ∷ declare (codes "go") bool (value (not (is_nil (var "p"))))
    ∷ while (use_of "go")
    (block
    (branch (is_nil (dot "p" "next"))
    (block (assign (var "go") (value (boolean false)) ∷ []))
    (otherwise
    (block
    (assign (dot "p" "next") (value (path (dots "p" "next" "next")))
    ∷ assign (var "p") (value (path (dot "p" "next"))) ∷ assign (var "go") (value (not (is_nil (var "p")))) ∷ []))) ∷ [])) ∷ [])
    ∷ method_named cap.Paused "sum" [] (Some int)
    (declare (codes "s") int (value (number (pos 0)))
    ∷ declare (codes "p") (to cap.Paused "Node") (value (path (self_dot "head")))
    ∷ while (not (is_nil (var "p")))
    (block
    (assign (var "s") (value (binary op.Add (use_of "s") (path (dot "p" "value"))))
    ∷ assign (var "p") (value (path (dot "p" "next"))) ∷ []))
    ∷ return (use_of "s") ∷ []) ∷ [])

-- a list of so many nodes in a region, every second one of which is unlinked
abbrev nodes : ℕ → Tree
nodes size = program (node ∷ list ∷ []) manager.Arena
    (declare (codes "box") (to cap.Iso "List") (new_iso (codes "List") None manager.Trace)
    ∷ enter (var "box") (codes "l")
    (block
    (declare (codes "i") int (value (number (pos 1)))
    ∷ while (binary op.Le (use_of "i") (number (pos size)))
    (block
    (call (call_of (var "l") "push" (use_of "i" ∷ []))
    ∷ assign (var "i") (value (binary op.Add (use_of "i") (number (pos 1)))) ∷ []))
    ∷ declare (codes "all") int (result_of (call_of (var "l") "sum" []))
    ∷ print (use_of "all")
    ∷ call (call_of (var "l") "thin" [])
    ∷ declare (codes "half") int (result_of (call_of (var "l") "sum" [])) ∷ print (use_of "half") ∷ collect ∷ [])) None
    ∷ print (number (pos 1)) ∷ [])

nodes-text : Source
    ("class Node { value: int; next: mut Node; }"
    ∷ "class List { head: mut Node;"
    ∷ "def mut push(v: int) { let n: mut Node = new Node; n.value = v; n.next = self.head; self.head = n; }"
    ∷ "def mut thin() { let p: mut Node = self.head; let go: bool = not p is nil; while go {"
    ∷ "if p.next is nil { go = false; } else { p.next = p.next.next; p = p.next; go = not p is nil; } } }"
    ∷ "def paused sum(): int { let s: int = 0; let p: paused Node = self.head;"
    ∷ "while not p is nil { s = s + p.value; p = p.next; } return s; } }"
    ∷ "main arena { let box: iso List = new iso List in trace; enter box as l { let i: int = 1;"
    ∷ "while i <= 1000 { call l.push(i); i = i + 1; } let all: int = call l.sum(); print all; call l.thin();"
    ∷ "let half: int = call l.sum(); print half; collect; } print 1; }" ∷ [])
    (nodes 1000)
unfolding digits
nodes-text = (refl, refl)

nodes-end : shown (plain (nodes 1000) [] 20000) ≡ (val.Int (pos 500500) ∷ val.Int (pos 250500) ∷ val.Int (pos 1) ∷ [], Done, 18525, 1001)
unfolding plain_from
nodes-end = refl

-- the steps at which the pacer of trace regions is asked, for a list of 100 nodes: how many, the first and the last of them
abbrev chosen : List ℕ → ℕ × Option ℕ × Option ℕ
chosen asked = (length asked, slice_get asked 0, slice_get asked 99)

nodes-asked : chosen (asks (nodes 100) [] 2000 manager.Trace) ≡ (100, Some 6, Some 897)
unfolding asks_from
nodes-asked = refl

-- no region of another manager is active when an object is made
nodes-asked_of_count : asks (nodes 100) [] 2000 manager.Count ≡ []
unfolding asks_from
nodes-asked_of_count = refl

-- a method that calls itself as often as the input says
abbrev deep_calls : Tree
deep_calls = program
    (class_named "R" false
    (method_named cap.Mut "go" (param "k" int ∷ []) (Some int)
    (declare (codes "r") int (value (use_of "k"))
    ∷ branch (binary op.Gt (use_of "k") (number (pos 0)))
    (block (assign (var "r") (result_of (call_of self "go" (binary op.Sub (use_of "k") (number (pos 1)) ∷ []))) ∷ [])) no_else
    ∷ return (use_of "r") ∷ []) ∷ []) ∷ [])
    manager.Trace
    (declare (codes "a") (to cap.Mut "R") (new (codes "R") None)
    ∷ declare (codes "n") int read
    ∷ declare (codes "r") int (result_of (call_of (var "a") "go" (use_of "n" ∷ []))) ∷ print (use_of "r") ∷ [])

deep_calls-text : Source
    ("class R { def mut go(k: int): int { let r: int = k; if k > 0 { r = call self.go(k - 1); } return r; } }"
    ∷ "main trace { let a: mut R = new R; let n: int = read; let r: int = call a.go(n); print r; }" ∷ [])
    deep_calls
unfolding digits
deep_calls-text = (refl, refl)

deep_calls-short : shown (plain deep_calls (codes "2") 50) ≡ (val.Int (pos 0) ∷ [], Done, 18, 1)
unfolding plain_from
deep_calls-short = refl

-- with main's frame, there are 4,096
deep_calls-deepest : (plain deep_calls (codes "4094") 30000).state.output ≡ val.Int (pos 0) ∷ []
unfolding plain_from
deep_calls-deepest = refl

deep_calls-too_deep : (plain deep_calls (codes "4095") 30000).ending ≡ Stopped trap.Depth 1
unfolding plain_from
deep_calls-too_deep = refl

-- so many times ` + 1` behind a 1
abbrev ones : ℕ → Expr
ones zero = number (pos 1)
ones (suc n) = binary op.Add (ones n) (number (pos 1))

-- its text
abbrev ones_text : ℕ → List ℕ
ones_text zero = codes "1"
ones_text (suc n) = ones_text n ++ codes " + 1"

-- as many signs as a statement can have
abbrev many_signs : Tree
many_signs = program [] manager.Arena (print (ones 512) ∷ [])

many_signs-text : on_one_line (canon many_signs) false ≡ codes "main arena { print " ++ ones_text 512 ++ codes "; } "
unfolding digits
many_signs-text = refl

many_signs-accepted : first_fault many_signs ≡ None
many_signs-accepted = refl

many_signs-end : shown (plain many_signs [] 5) ≡ (val.Int (pos 513) ∷ [], Done, 2, 0)
unfolding plain_from
many_signs-end = refl
