-- The generated program (docs/language.md, "The generated program"): a list is filled, summed, thinned and filled again. Above each
-- part stands its text; all lines are 1.
use Prim.Native.String.{String}
use Rattle.std.specs.Prelude.{ℕ, pos, ◌*◌, ◌/◌, ◌%◌, List, [], ◌∷◌, Option, None, Some, map, false, codes}
use Rattle.rg_base.specs.declared.words.Cap.{Cap}
use Rattle.rg_base.specs.declared.words.Cap.TheVariants as cap
use Rattle.rg_base.specs.declared.words.Manager.TheVariants as manager
use Rattle.rg_tree.specs.declared.rows.BinOp.TheVariants as op
use Rattle.rg_tree.specs.Tree.{Path, Ty, int, bool, ref, Expr, number, boolean, path}
use Rattle.rg_tree.specs.Tree.{is_nil, not, binary, Call, Right, value, new, new_iso, result_of}
use Rattle.rg_tree.specs.Tree.{stmt, StmtKind, declare, assign, call, branch, otherwise, while, enter, print, collect, return, Block, empty, then}
use Rattle.rg_tree.specs.Tree.{Param, Member, field, method, Class, Tree}

-- Words for what recurs.

-- `x.f.g`
abbrev pub of : String → List String → Path
of x fields = record { base = Some (codes x); fields = map codes fields }

-- `x`
abbrev pub var : String → Path
var x = of x []

-- `self.head`
abbrev pub own_head : Path
own_head = record { base = None; fields = codes "head" ∷ [] }

-- `1`
abbrev pub num : ℕ → Expr
num n = number (pos n)

-- `let x: T = r;`
abbrev pub lets : String → Ty → Right → StmtKind
lets x ty right = declare (codes x) ty right

-- `q = e;`
abbrev pub sets : Path → Expr → StmtKind
sets q e = assign q (value e)

-- `call l.m(a)`
abbrev pub of_list : String → List Expr → Call
of_list m args = record { target = var "l"; method = codes m; args = args }

-- `{ .. }`
abbrev pub block : List StmtKind → Block
block [] = empty
block (kind ∷ kinds) = then (stmt 1 kind) (block kinds)

-- `x: T;`
abbrev pub fields : String → Ty → Member
fields x ty = field (record { name = codes x; ty = ty; line = 1 })

-- `a: T`
abbrev pub takes : String → Ty → Param
takes a ty = record { name = codes a; ty = ty }

-- `def mut m(a: T): R { .. }`
abbrev pub def : Cap → String → List Param → Option Ty → Block → Member
def receiver m params result body =
    method (record { receiver = receiver; name = codes m; params = params; result = result; body = body; line = 1 })

-- `class C { .. }`
abbrev pub class : String → List Member → Class
class c members = record { name = codes c; is_tmp = false; element = None; members = members; line = 1 }

-- `mut Node`
abbrev pub to_node : Cap → Ty
to_node k = ref k (codes "Node")

-- The classes.

-- class Node { value: int; next: mut Node; }
abbrev pub node_class : Class
node_class = class "Node" (fields "value" int ∷ fields "next" (to_node cap.Mut) ∷ [])

-- def mut push(v: int) {
--   let n: mut Node = new Node; n.value = v; n.next = self.head; self.head = n;
-- }
abbrev pub push : Member
push = def cap.Mut "push" (takes "v" int ∷ []) None (block (
    lets "n" (to_node cap.Mut) (new (codes "Node") None)
    ∷ sets (of "n" ("value" ∷ [])) (path (var "v"))
    ∷ sets (of "n" ("next" ∷ [])) (path own_head)
    ∷ sets own_head (path (var "n"))
    ∷ []))

-- if p.next is nil { go = false; } else {
--   p.next = p.next.next; p = p.next; go = not p is nil;
-- }
abbrev pub thin_step : StmtKind
thin_step = branch (is_nil (of "p" ("next" ∷ [])))
    (block (sets (var "go") (boolean false) ∷ []))
    (otherwise (block (
    sets (of "p" ("next" ∷ [])) (path (of "p" ("next" ∷ "next" ∷ [])))
    ∷ sets (var "p") (path (of "p" ("next" ∷ [])))
    ∷ sets (var "go") (not (is_nil (var "p")))
    ∷ [])))

-- while go { .. }
abbrev pub thin_loop : StmtKind
thin_loop = while (path (var "go")) (block (thin_step ∷ []))

-- def mut thin() {
--   let p: mut Node = self.head;
--   let go: bool = not p is nil;
--   while go { .. }
-- }
abbrev pub thin : Member
thin = def cap.Mut "thin" [] None (block (
    lets "p" (to_node cap.Mut) (value (path own_head))
    ∷ lets "go" bool (value (not (is_nil (var "p"))))
    ∷ thin_loop
    ∷ []))

-- while not p is nil { s = s + p.value; p = p.next; }
abbrev pub sum_loop : StmtKind
sum_loop = while (not (is_nil (var "p"))) (block (
    sets (var "s") (binary op.Add (path (var "s")) (path (of "p" ("value" ∷ []))))
    ∷ sets (var "p") (path (of "p" ("next" ∷ [])))
    ∷ []))

-- def paused sum(): int {
--   let s: int = 0;
--   let p: paused Node = self.head;
--   while not p is nil { .. }
--   return s;
-- }
abbrev pub sum : Member
sum = def cap.Paused "sum" [] (Some int) (block (
    lets "s" int (value (num 0))
    ∷ lets "p" (to_node cap.Paused) (value (path own_head))
    ∷ sum_loop
    ∷ return (path (var "s"))
    ∷ []))

-- class List { head: mut Node; .. }
abbrev pub list_class : Class
list_class = class "List" (fields "head" (to_node cap.Mut) ∷ push ∷ thin ∷ sum ∷ [])

-- Main.

-- i * A + B
abbrev pub total : (a b : ℕ) → Expr
total a b = binary op.Add (binary op.Mul (path (var "i")) (num a)) (num b)

-- (i * A + B) % 1000
abbrev pub mixed : (a b : ℕ) → Expr
mixed a b = binary op.Rem (total a b) (num 1000)

-- call l.push((i * A + B) % 1000);
abbrev pub push_call : (a b : ℕ) → StmtKind
push_call a b = call (of_list "push" (mixed a b ∷ []))

-- while i <= SIZE { call l.push((i * A + B) % 1000); i = i + 1; }
abbrev pub fill : (size a b : ℕ) → StmtKind
fill size a b = while (binary op.Le (path (var "i")) (num size)) (block (
    push_call a b
    ∷ sets (var "i") (binary op.Add (path (var "i")) (num 1))
    ∷ []))

-- let a: int = call l.sum();
abbrev pub lets_sum : String → StmtKind
lets_sum x = lets x int (result_of (of_list "sum" []))

-- let i: int = 1;
-- while i <= SIZE { call l.push((i * A + B) % 1000); i = i + 1; }
-- let a: int = call l.sum();
-- print a;
-- call l.thin();
-- let b: int = call l.sum();
-- print b;
-- collect;
-- i = 1;
-- while i <= SIZE { call l.push((i * A + B) % 1000); i = i + 1; }
-- let c: int = call l.sum();
-- print c;
abbrev pub inner_block : (size a b : ℕ) → Block
inner_block size a b = block (
    lets "i" int (value (num 1))
    ∷ fill size a b
    ∷ lets_sum "a"
    ∷ print (path (var "a"))
    ∷ call (of_list "thin" [])
    ∷ lets_sum "b"
    ∷ print (path (var "b"))
    ∷ collect
    ∷ sets (var "i") (num 1)
    ∷ fill size a b
    ∷ lets_sum "c"
    ∷ print (path (var "c"))
    ∷ [])

-- main arena {
--   let box: iso List = new iso List in trace;
--   enter box as l { .. }
-- }
abbrev pub main_block : (size a b : ℕ) → Block
main_block size a b = block (
    lets "box" (ref cap.Iso (codes "List")) (new_iso (codes "List") None manager.Trace)
    ∷ enter (var "box") (codes "l") (inner_block size a b) None
    ∷ [])

-- the program with these numbers
abbrev pub listing : (size a b : ℕ) → Tree
listing size a b = record {
  classes = node_class ∷ list_class ∷ [];
  manager = manager.Arena;
  body = main_block size a b;
  line = 1;
}

-- A, by which the numbers of the list go on
abbrev pub step_of : (seed : ℕ) → ℕ
step_of seed = seed % 1000

-- B, from which they start
abbrev pub start_of : (seed size : ℕ) → ℕ
start_of seed size = size % 1000 * (step_of seed / 500)

-- the program of that seed and size
abbrev pub generated : (seed size : ℕ) → Tree
generated seed size = listing size (step_of seed) (start_of seed size)
