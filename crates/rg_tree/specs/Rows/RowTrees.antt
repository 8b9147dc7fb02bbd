-- The tree that the tables of a program stand for (docs/language.md, "The tree").
use Rattle.std.specs.Prelude.{ℕ, List, [], ◌∷◌, ◌++◌, Option, Some, None, map, option_map, slice_index_or}
use Rattle.rg_base.specs.declared.words.Manager.TheVariants.{Arena}
use Rattle.rg_tree.specs.declared.rows.Span.{Span}
use Rattle.rg_tree.specs.declared.rows.Path as row_path
use Rattle.rg_tree.specs.declared.rows.ClassRow.{ClassRow}
use Rattle.rg_tree.specs.declared.rows.MemberRow.{MemberRow}
use Rattle.rg_tree.specs.declared.rows.MemberRow.TheVariants.{Field, Method}
use Rattle.rg_tree.specs.declared.rows.MethodRow.{MethodRow}
use Rattle.rg_tree.specs.declared.rows.ParamRow.{ParamRow}
use Rattle.rg_tree.specs.declared.rows.TypeRow.{TypeRow}
use Rattle.rg_tree.specs.declared.rows.TypeRow.TheVariants as type_row
use Rattle.rg_tree.specs.declared.rows.CallRow.{CallRow}
use Rattle.rg_tree.specs.declared.rows.Right as row_right
use Rattle.rg_tree.specs.declared.rows.Right.TheVariants as right_row
use Rattle.rg_tree.specs.declared.rows.StmtKind as row_kind
use Rattle.rg_tree.specs.declared.rows.StmtKind.TheVariants as kind_row
use Rattle.rg_tree.specs.declared.rows.StmtRow.{StmtRow}
use Rattle.rg_tree.specs.declared.rows.ExprRow.{ExprRow}
use Rattle.rg_tree.specs.declared.rows.ExprRow.TheVariants as expr_row
use Rattle.rg_tree.specs.Tree.{Variable, Path, Ty, int, bool, ref, Expr, number, boolean, nil, path, is_nil, neg, not, binary, size, element}
use Rattle.rg_tree.specs.Tree.{Call, Right, value, new, new_tmp, new_iso, freeze, merge, read, more, result_of, Stmt, stmt, StmtKind, declare, assign}
use Rattle.rg_tree.specs.Tree.{assign_element, call, swap, branch, while, enter, print, collect, return, Else, no_else, otherwise, Block, empty, then}
use Rattle.rg_tree.specs.Tree.{Param, Method as MethodTree, Member, field, method, Class, Tree}
use Rattle.rg_tree.specs.Rows.Tables.{Tables, name_at, numbers_in}

-- the trees of the rows of a table, behind those that are done: each is made over the trees of the rows before it
abbrev pub trees_from : {R T : Type 0} → T → ((ℕ → T) → R → T) → List T → List R → List T
trees_from none tree done [] = done
trees_from none tree done (r ∷ rs) = trees_from none tree (done ++ tree (λ k. slice_index_or done k none) r ∷ []) rs

-- a variable, by the number of its name
abbrev pub variable_of : Tables → Option ℕ → Variable
variable_of t o = option_map (name_at t) o

-- a path
abbrev pub path_of : Tables → row_path.Path → Path
path_of t p = record { base = variable_of t p.base; fields = map (name_at t) (numbers_in t p.fields) }

-- a type
abbrev pub type_of : Tables → TypeRow → Ty
type_of t type_row.Int = int
type_of t type_row.Bool = bool
type_of t (type_row.Ref c n) = ref c (name_at t n)

-- an expression, over what the numbers of expressions stand for
abbrev pub expr_over : Tables → (ℕ → Expr) → ExprRow → Expr
expr_over t at (expr_row.Int z) = number z
expr_over t at (expr_row.Bool b) = boolean b
expr_over t at expr_row.Nil = nil
expr_over t at (expr_row.Path p) = path (path_of t p)
expr_over t at (expr_row.IsNil p) = is_nil (path_of t p)
expr_over t at (expr_row.Neg a) = neg (at a)
expr_over t at (expr_row.Not a) = not (at a)
expr_over t at (expr_row.Binary op a b) = binary op (at a) (at b)
expr_over t at (expr_row.Size p) = size (path_of t p)
expr_over t at (expr_row.At p a) = element (path_of t p) (at a)

-- the expressions of the tables
unfoldable pub exprs_of : Tables → List Expr
exprs_of t = trees_from nil (expr_over t) [] t.exprs

-- the expression of that number
abbrev pub expr_at : Tables → ℕ → Expr
expr_at t e = slice_index_or (exprs_of t) e nil

-- the expression of a row
abbrev pub expr_of : Tables → ExprRow → Expr
expr_of t r = expr_over t (expr_at t) r

-- a call
abbrev pub call_of : Tables → CallRow → Call
call_of t c = record { target = path_of t c.path; method = name_at t c.method; args = map (expr_at t) (numbers_in t c.args) }

-- a right side
abbrev pub right_of : Tables → row_right.Right → Right
right_of t (right_row.Expr e) = value (expr_at t e)
right_of t (right_row.New n o) = new (name_at t n) (option_map (expr_at t) o)
right_of t (right_row.NewTmp n o) = new_tmp (name_at t n) (option_map (expr_at t) o)
right_of t (right_row.NewIso n o m) = new_iso (name_at t n) (option_map (expr_at t) o) m
right_of t (right_row.Freeze n) = freeze (name_at t n)
right_of t (right_row.Merge n) = merge (name_at t n)
right_of t right_row.Read = read
right_of t right_row.More = more
right_of t (right_row.Call c) = result_of (call_of t c)

-- the statements of these numbers in order, over what the numbers stand for
abbrev pub block_over : (ℕ → Stmt) → List ℕ → Block
block_over at [] = empty
block_over at (k ∷ ks) = then (at k) (block_over at ks)

-- what stands behind the first block of an if
abbrev pub else_over : Tables → (ℕ → Stmt) → Option Span → Else
else_over t at None = no_else
else_over t at (Some s) = otherwise (block_over at (numbers_in t s))

-- what a statement says, over what the numbers of statements stand for
abbrev pub kind_over : Tables → (ℕ → Stmt) → row_kind.StmtKind → StmtKind
kind_over t at (kind_row.Let n y r) = declare (name_at t n) (type_of t y) (right_of t r)
kind_over t at (kind_row.Set p r) = assign (path_of t p) (right_of t r)
kind_over t at (kind_row.SetAt p e r) = assign_element (path_of t p) (expr_at t e) (right_of t r)
kind_over t at (kind_row.Call c) = call (call_of t c)
kind_over t at (kind_row.Swap n p) = swap (name_at t n) (path_of t p)
kind_over t at (kind_row.If e s o) = branch (expr_at t e) (block_over at (numbers_in t s)) (else_over t at o)
kind_over t at (kind_row.While e s) = while (expr_at t e) (block_over at (numbers_in t s))
kind_over t at (kind_row.Enter p n s o) = enter (path_of t p) (name_at t n) (block_over at (numbers_in t s)) (option_map (name_at t) o)
kind_over t at (kind_row.Print e) = print (expr_at t e)
kind_over t at kind_row.Collect = collect
kind_over t at (kind_row.Return e) = return (expr_at t e)

-- a statement, over what the numbers of statements stand for
abbrev pub stmt_over : Tables → (ℕ → Stmt) → StmtRow → Stmt
stmt_over t at r = stmt r.line (kind_over t at r.kind)

-- no statement of a program
abbrev pub no_stmt : Stmt
no_stmt = stmt 0 collect

-- the statements of the tables
unfoldable pub stmts_of : Tables → List Stmt
stmts_of t = trees_from no_stmt (stmt_over t) [] t.stmts

-- the statement of that number
abbrev pub stmt_at : Tables → ℕ → Stmt
stmt_at t s = slice_index_or (stmts_of t) s no_stmt

-- the statement of a row
abbrev pub stmt_of : Tables → StmtRow → Stmt
stmt_of t r = stmt_over t (stmt_at t) r

-- the block of a span
abbrev pub block_of : Tables → Span → Block
block_of t s = block_over (stmt_at t) (numbers_in t s)

-- a parameter
abbrev pub param_of : Tables → ParamRow → Param
param_of t r = record { name = name_at t r.name; ty = type_of t r.ty }

-- the parameters of the tables
unfoldable pub params_of : Tables → List Param
params_of t = map (param_of t) t.params

-- no parameter of a program
abbrev pub no_param : Param
no_param = record { name = []; ty = int }

-- the parameter of that number
abbrev pub param_at : Tables → ℕ → Param
param_at t k = slice_index_or (params_of t) k no_param

-- a method
abbrev pub method_of : Tables → MethodRow → MethodTree
method_of t m = record {
  receiver = m.cap;
  name = name_at t m.name;
  params = map (param_at t) (numbers_in t m.params);
  result = option_map (type_of t) m.result;
  body = block_of t m.body;
  line = m.line;
}

-- a field or a method
abbrev pub member_of : Tables → MemberRow → Member
member_of t (Field n y line) = field (record { name = name_at t n; ty = type_of t y; line = line })
member_of t (Method c n ps r b line) =
    method (method_of t (record { cap = c; name = n; params = ps; result = r; body = b; line = line }))

-- the members of the tables
unfoldable pub members_of : Tables → List Member
members_of t = map (member_of t) t.members

-- no member of a program
abbrev pub no_member : Member
no_member = field (record { name = []; ty = int; line = 0 })

-- the member of that number
abbrev pub member_at : Tables → ℕ → Member
member_at t k = slice_index_or (members_of t) k no_member

-- the members of a class, of these numbers; an array class has none
abbrev pub members_under : Tables → (element : Option TypeRow) → Span → List Member
members_under t None s = map (member_at t) (numbers_in t s)
members_under t (Some y) s = []

-- a class
abbrev pub class_of : Tables → ClassRow → Class
class_of t r = record {
  name = name_at t r.name;
  is_tmp = r.is_tmp;
  element = option_map (type_of t) r.element;
  members = members_under t r.element r.members;
  line = r.line;
}

-- the classes of the tables
unfoldable pub classes_of : Tables → List Class
classes_of t = map (class_of t) t.classes

-- the program without classes, whose main is an empty arena block at line 1
abbrev pub no_program : Tree
no_program = record { classes = []; manager = Arena; body = empty; line = 1 }

-- the program
abbrev pub program_of : Tables → Tree
program_of t = record { classes = classes_of t; manager = t.manager; body = block_of t t.body; line = t.line }
