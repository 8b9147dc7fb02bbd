-- Words for examples, also of crates above: the trees of short programs, all of whose lines are 1, their texts and their faults.
use Rattle.std.proofs.Common.{◌≡◌, ℕ, ◌==◌, List, [], ◌∷◌, ◌++◌, Bool, true, false, ◌&&◌, ◌||◌, Option, Some, None, codes}
use Prim.Native.String.{String}
use Rattle.rg_base.specs.declared.fault.Code.{Code}
use Rattle.rg_base.specs.declared.fault.Fault.{Fault}
use Rattle.rg_base.specs.declared.words.Cap.{Cap}
use Rattle.rg_base.specs.declared.words.Manager.{Manager}
use Rattle.rg_tree.specs.Tree.{Path, Ty, ref, Call, Expr, path, StmtKind, stmt, Block, empty, then, Param, Member, field, method, Class, Tree}
use Rattle.rg_tree.specs.Canonical.{canon}
use Rattle.rg_rules.specs.Acceptance.{first_fault}

-- `self`
abbrev pub self : Path
self = record { base = None; fields = [] }

-- `x`
abbrev pub var : String → Path
var x = record { base = Some (codes x); fields = [] }

-- `x.f`
abbrev pub dot : String → String → Path
dot x f = record { base = Some (codes x); fields = codes f ∷ [] }

-- `x.f.g`
abbrev pub dots : String → String → String → Path
dots x f g = record { base = Some (codes x); fields = codes f ∷ codes g ∷ [] }

-- `self.f`
abbrev pub self_dot : String → Path
self_dot f = record { base = None; fields = codes f ∷ [] }

-- `x` as an expression
abbrev pub use_of : String → Expr
use_of x = path (var x)

-- `mut C`, `tmp C`, ..
abbrev pub to : Cap → String → Ty
to k c = ref k (codes c)

-- `call q.m(a, b)`
abbrev pub call_of : Path → String → List Expr → Call
call_of q m args = record { target = q; method = codes m; args = args }

-- `{ .. }`
abbrev pub block : List StmtKind → Block
block [] = empty
block (k ∷ ks) = then (stmt 1 k) (block ks)

-- `x: T;`
abbrev pub field_named : String → Ty → Member
field_named x t = field (record { name = codes x; ty = t; line = 1 })

-- `a: T`
abbrev pub param : String → Ty → Param
param a t = record { name = codes a; ty = t }

-- `def mut m(a: T): R { .. }`
abbrev pub method_named : Cap → String → List Param → Option Ty → List StmtKind → Member
method_named k m ps r body = method (record { receiver = k; name = codes m; params = ps; result = r; body = block body; line = 1 })

-- `class C { .. }`, or `tmp class C { .. }`
abbrev pub class_named : String → (is_tmp : Bool) → List Member → Class
class_named c is_tmp members = record { name = codes c; is_tmp = is_tmp; element = None; members = members; line = 1 }

-- `class C [T];`, or `tmp class C [T];`
abbrev pub array_class : String → (is_tmp : Bool) → Ty → Class
array_class c is_tmp t = record { name = codes c; is_tmp = is_tmp; element = Some t; members = []; line = 1 }

-- classes, and `main M { .. }`
abbrev pub program : List Class → Manager → List StmtKind → Tree
program classes m body = record { classes = classes; manager = m; body = block body; line = 1 }

-- a byte in front of the rest: the end of a line becomes a blank, and the blanks that begin the next line go
abbrev pub kept : (ends_line begins_line : Bool) → ℕ → List ℕ → List ℕ
kept true begins b rest = 32 ∷ rest
kept false true b rest = rest
kept false false b rest = b ∷ rest

-- a text on one line; whether the last byte belongs to the blanks that begin a line
abbrev pub on_one_line : List ℕ → (begins_line : Bool) → List ℕ
on_one_line [] begins = []
on_one_line (b ∷ bs) begins = kept (b == 10) (begins && b == 32) b (on_one_line bs (b == 10 || begins && b == 32))

-- pieces of a text, each with a blank behind it
abbrev pub pieces : List String → List ℕ
pieces [] = []
pieces (s ∷ ss) = codes s ++ 32 ∷ pieces ss

-- a fault on line 1
abbrev pub fault : Code → Option Fault
fault c = Some (record { code = c; line = 1 })

-- a text, its first fault, and its tree: the text is the canonical one of the tree, on one line
abbrev pub Example : (text : List String) → Option Fault → Tree → Type 0
Example text f t = (on_one_line (canon t) false ≡ pieces text) × (first_fault t ≡ f)
