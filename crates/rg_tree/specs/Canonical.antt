-- The canonical text of a program (docs/language.md, "Canonical text"): each statement, each field and each line that
-- opens or closes a block on a line of its own, indented by two blanks for each open block.
use Rattle.std.specs.Prelude.{ℕ, suc, ◌+◌, ◌*◌, Bool, true, false, List, [], ◌∷◌, ◌++◌, Option, Some, None, codes, flat_map, nat_lt, replicate}
use Rattle.std.specs.Fmt.{signed_decimal}
use Rattle.rg_base.specs.Text.{bool_text}
use Rattle.rg_tree.specs.declared.rows.BinOp.{BinOp}
use Rattle.rg_tree.specs.declared.rows.BinOp.TheVariants.{Or, And, Eq, Ne, Lt, Le, Gt, Ge, Add, Sub, Mul, Div, Rem}
use Rattle.rg_base.specs.declared.words.Cap.{Cap}
use Rattle.rg_base.specs.declared.words.Cap.TheVariants.{Mut, Tmp, Paused, Imm, Iso}
use Rattle.rg_base.specs.declared.words.Manager.{Manager}
use Rattle.rg_base.specs.declared.words.Manager.TheVariants.{Arena, Count, Trace}
use Rattle.rg_tree.specs.Tree.{Name, Variable, Path, Ty, int, bool, ref, Expr, number, boolean, nil, path, is_nil, neg, not, binary, size, element}
use Rattle.rg_tree.specs.Tree.{Call, Right, value, new, new_tmp, new_iso, freeze, merge, read, more, result_of, Stmt, stmt, StmtKind, declare, assign}
use Rattle.rg_tree.specs.Tree.{assign_element, call, swap, branch, while, enter, print, collect, return, Else, no_else, otherwise, Block, empty, then}
use Rattle.rg_tree.specs.Tree.{Param, Method, Member, field, method, Class, Tree}

-- an operator, with one blank on each side
abbrev pub op_text : BinOp → List ℕ
op_text Or = codes " or "
op_text And = codes " and "
op_text Eq = codes " == "
op_text Ne = codes " != "
op_text Lt = codes " < "
op_text Le = codes " <= "
op_text Gt = codes " > "
op_text Ge = codes " >= "
op_text Add = codes " + "
op_text Sub = codes " - "
op_text Mul = codes " * "
op_text Div = codes " / "
op_text Rem = codes " % "

-- a capability
abbrev pub cap_text : Cap → List ℕ
cap_text Mut = codes "mut"
cap_text Tmp = codes "tmp"
cap_text Paused = codes "paused"
cap_text Imm = codes "imm"
cap_text Iso = codes "iso"

-- a manager
abbrev pub manager_text : Manager → List ℕ
manager_text Arena = codes "arena"
manager_text Count = codes "count"
manager_text Trace = codes "trace"

-- A level is how tight an expression binds, by the phrase that takes it bare: 0 Expr, 1 And, 2 Not, 3 Cmp, 4 Sum, 5 Mul, 6 Unary, 7 Primary.

-- the level of an expression with this operator
abbrev pub op_level : BinOp → ℕ
op_level Or = 0
op_level And = 1
op_level Eq = 3
op_level Ne = 3
op_level Lt = 3
op_level Le = 3
op_level Gt = 3
op_level Ge = 3
op_level Add = 4
op_level Sub = 4
op_level Mul = 5
op_level Div = 5
op_level Rem = 5

-- the least level that stands bare on the left: chains group to the left
abbrev pub left_level : BinOp → ℕ
left_level Or = 0
left_level And = 1
left_level Eq = 4
left_level Ne = 4
left_level Lt = 4
left_level Le = 4
left_level Gt = 4
left_level Ge = 4
left_level Add = 4
left_level Sub = 4
left_level Mul = 5
left_level Div = 5
left_level Rem = 5

-- the least level that stands bare on the right
abbrev pub right_level : BinOp → ℕ
right_level op = op_level op + 1

-- the level of an expression
abbrev pub level : Expr → ℕ
level (number z) = 7
level (boolean b) = 7
level nil = 7
level (path q) = 7
level (is_nil q) = 7
level (neg a) = 6
level (not a) = 2
level (binary op a b) = op_level op
level (size q) = 7
level (element q e) = 7

-- what begins a path
abbrev pub base_text : Variable → List ℕ
base_text None = codes "self"
base_text (Some x) = x

-- a path
abbrev pub path_text : Path → List ℕ
path_text q = base_text q.base ++ flat_map (λ f. codes "." ++ f) q.fields

-- a text in parentheses, where it can't stand bare
abbrev pub in_parens : Bool → List ℕ → List ℕ
in_parens true text = codes "(" ++ text ++ codes ")"
in_parens false text = text

-- an operand of a level, where this level is the least that stands bare
abbrev pub operand : ℕ → ℕ → List ℕ → List ℕ
operand least has text = in_parens (nat_lt has least) text

-- an expression
abbrev pub expr_text : Expr → List ℕ
expr_text (number z) = signed_decimal z
expr_text (boolean b) = bool_text b
expr_text nil = codes "nil"
expr_text (path q) = path_text q
expr_text (is_nil q) = path_text q ++ codes " is nil"
expr_text (neg a) = codes "-" ++ operand 7 (level a) (expr_text a)
expr_text (not a) = codes "not " ++ operand 3 (level a) (expr_text a)
expr_text (binary op a b) = operand (left_level op) (level a) (expr_text a) ++ op_text op ++ operand (right_level op) (level b) (expr_text b)
expr_text (size q) = codes "size " ++ path_text q
expr_text (element q e) = path_text q ++ codes "[" ++ expr_text e ++ codes "]"

-- a type
abbrev pub ty_text : Ty → List ℕ
ty_text int = codes "int"
ty_text bool = codes "bool"
ty_text (ref c n) = cap_text c ++ codes " " ++ n

-- texts with a comma and one blank between
abbrev pub joined : List (List ℕ) → List ℕ
joined [] = []
joined (x ∷ []) = x
joined (x ∷ y ∷ ys) = x ++ codes ", " ++ joined (y ∷ ys)

-- the texts of arguments
abbrev pub arg_texts : List Expr → List (List ℕ)
arg_texts [] = []
arg_texts (e ∷ es) = expr_text e ∷ arg_texts es

-- a call
abbrev pub call_text : Call → List ℕ
call_text c = codes "call " ++ path_text c.target ++ codes "." ++ c.method ++ codes "(" ++ joined (arg_texts c.args) ++ codes ")"

-- a size in brackets, where there is one
abbrev pub size_text : Option Expr → List ℕ
size_text None = []
size_text (Some e) = codes " [" ++ expr_text e ++ codes "]"

-- a right side
abbrev pub right_text : Right → List ℕ
right_text (value e) = expr_text e
right_text (new n o) = codes "new " ++ n ++ size_text o
right_text (new_tmp n o) = codes "new tmp " ++ n ++ size_text o
right_text (new_iso n o m) = codes "new iso " ++ n ++ size_text o ++ codes " in " ++ manager_text m
right_text (freeze n) = codes "freeze " ++ n
right_text (merge n) = codes "merge " ++ n
right_text read = codes "read"
right_text more = codes "more"
right_text (result_of c) = call_text c

-- behind the block of an `enter`: the variable that is given, where there is one
abbrev pub giving_text : Option Name → List ℕ
giving_text None = []
giving_text (Some w) = codes " giving " ++ w ++ codes ";"

-- a line of its own, behind two blanks for each open block
abbrev pub line_of : ℕ → List ℕ → List ℕ
line_of depth text = replicate (2 * depth) 32 ++ text ++ 10 ∷ []

abbrev mutual
  -- the lines of a statement
  pub stmt_text : ℕ → Stmt → List ℕ
  stmt_text d (stmt line k) = kind_text d k

  -- the lines of what a statement says
  pub kind_text : ℕ → StmtKind → List ℕ
  kind_text d (declare n t r) = line_of d (codes "let " ++ n ++ codes ": " ++ ty_text t ++ codes " = " ++ right_text r ++ codes ";")
  kind_text d (assign q r) = line_of d (path_text q ++ codes " = " ++ right_text r ++ codes ";")
  kind_text d (assign_element q e r) = line_of d (path_text q ++ codes "[" ++ expr_text e ++ codes "] = " ++ right_text r ++ codes ";")
  kind_text d (call c) = line_of d (call_text c ++ codes ";")
  kind_text d (swap n q) = line_of d (codes "swap " ++ n ++ codes ", " ++ path_text q ++ codes ";")
  kind_text d (branch e b o) = line_of d (codes "if " ++ expr_text e ++ codes " {") ++ block_text (suc d) b ++ else_text d o
  kind_text d (while e b) = line_of d (codes "while " ++ expr_text e ++ codes " {") ++ block_text (suc d) b ++ line_of d (codes "}")
  kind_text d (enter q n b o) =
      line_of d (codes "enter " ++ path_text q ++ codes " as " ++ n ++ codes " {") ++ block_text (suc d) b
      ++ line_of d (codes "}" ++ giving_text o)
  kind_text d (print e) = line_of d (codes "print " ++ expr_text e ++ codes ";")
  kind_text d collect = line_of d (codes "collect;")
  kind_text d (return e) = line_of d (codes "return " ++ expr_text e ++ codes ";")

  -- the lines from the one that closes the first block of an if
  pub else_text : ℕ → Else → List ℕ
  else_text d no_else = line_of d (codes "}")
  else_text d (otherwise b) = line_of d (codes "} else {") ++ block_text (suc d) b ++ line_of d (codes "}")

  -- the lines of the statements of a block
  pub block_text : ℕ → Block → List ℕ
  block_text d empty = []
  block_text d (then s b) = stmt_text d s ++ block_text d b

-- the texts of parameters
abbrev pub param_texts : List Param → List (List ℕ)
param_texts [] = []
param_texts (p ∷ ps) = (p.name ++ codes ": " ++ ty_text p.ty) ∷ param_texts ps

-- a result type
abbrev pub result_text : Option Ty → List ℕ
result_text None = []
result_text (Some t) = codes ": " ++ ty_text t

-- the line that opens a method, from its receiver's capability on
abbrev pub head_text : Method → List ℕ
head_text m = cap_text m.receiver ++ codes " " ++ m.name ++ codes "(" ++ joined (param_texts m.params) ++ codes ")" ++ result_text m.result

-- the lines of a member of a class
abbrev pub member_text : Member → List ℕ
member_text (field f) = line_of 1 (f.name ++ codes ": " ++ ty_text f.ty ++ codes ";")
member_text (method m) = line_of 1 (codes "def " ++ head_text m ++ codes " {") ++ block_text 2 m.body ++ line_of 1 (codes "}")

-- class, or tmp class
abbrev pub class_word : Bool → List ℕ
class_word false = codes "class "
class_word true = codes "tmp class "

-- what stands behind a class's name: its members on lines of their own, or the type of its elements
abbrev pub rest_text : (element : Option Ty) → List Member → List ℕ
rest_text None ms = codes " {" ++ 10 ∷ [] ++ flat_map member_text ms ++ line_of 0 (codes "}")
rest_text (Some t) ms = codes " [" ++ ty_text t ++ codes "];" ++ 10 ∷ []

-- the lines of a class
abbrev pub class_text : Class → List ℕ
class_text c = class_word c.is_tmp ++ c.name ++ rest_text c.element c.members

-- the canonical text of a program
abbrev pub canon : Tree → List ℕ
canon r =
    flat_map class_text r.classes ++ line_of 0 (codes "main " ++ manager_text r.manager ++ codes " {") ++ block_text 1 r.body ++ line_of 0 (codes "}")
