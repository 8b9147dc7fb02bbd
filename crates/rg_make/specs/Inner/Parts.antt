-- The trees of the generated program's parts (docs/language.md, "The generated program").
use Rattle.std.specs.Prelude.{pos, List, [], ◌∷◌, Option, Some, None, option_map, codes}
use Rattle.rg_make.specs.declared.parts.Name as name_part
use Rattle.rg_make.specs.declared.parts.Name.TheVariants as name_is
use Rattle.rg_make.specs.declared.parts.Path as path_part
use Rattle.rg_make.specs.declared.parts.Fields as fields_part
use Rattle.rg_make.specs.declared.parts.Fields.TheVariants as fields_are
use Rattle.rg_make.specs.declared.parts.Ty as ty_part
use Rattle.rg_make.specs.declared.parts.Ty.TheVariants as ty_is
use Rattle.rg_make.specs.declared.parts.Operand as operand_part
use Rattle.rg_make.specs.declared.parts.Operand.TheVariants as operand_is
use Rattle.rg_make.specs.declared.parts.Expr as expr_part
use Rattle.rg_make.specs.declared.parts.Expr.TheVariants as expr_is
use Rattle.rg_make.specs.declared.parts.Right as right_part
use Rattle.rg_make.specs.declared.parts.Right.TheVariants as right_is
use Rattle.rg_make.specs.declared.parts.Stmt as stmt_part
use Rattle.rg_make.specs.declared.parts.Stmt.TheVariants as stmt_is
use Rattle.rg_make.specs.declared.parts.Head as head_part
use Rattle.rg_tree.specs.Tree.{Name, Path, Ty, int, bool, ref, Expr, number, boolean}
use Rattle.rg_tree.specs.Tree.{path, is_nil, not, binary, Call, Right, value, new, new_iso, result_of}
use Rattle.rg_tree.specs.Tree.{StmtKind, declare, assign, call, print, collect, return, Block, Param, Member, method}

-- the text of a name
abbrev pub name_text : name_part.Name → Name
name_text name_is.Node = codes "Node"
name_text name_is.Value = codes "value"
name_text name_is.Next = codes "next"
name_text name_is.List = codes "List"
name_text name_is.Head = codes "head"
name_text name_is.Push = codes "push"
name_text name_is.V = codes "v"
name_text name_is.N = codes "n"
name_text name_is.Thin = codes "thin"
name_text name_is.P = codes "p"
name_text name_is.Go = codes "go"
name_text name_is.Sum = codes "sum"
name_text name_is.S = codes "s"
name_text name_is.Boxed = codes "box"
name_text name_is.L = codes "l"
name_text name_is.I = codes "i"
name_text name_is.A = codes "a"
name_text name_is.B = codes "b"
name_text name_is.C = codes "c"

-- the fields of a path
abbrev pub fields_tree : fields_part.Fields → List Name
fields_tree fields_are.None = []
fields_tree (fields_are.One f) = name_text f ∷ []
fields_tree (fields_are.Two f g) = name_text f ∷ name_text g ∷ []

-- a path
abbrev pub path_tree : path_part.Path → Path
path_tree p = record { base = option_map name_text p.base; fields = fields_tree p.fields }

-- a type
abbrev pub ty_tree : ty_part.Ty → Ty
ty_tree ty_is.Int = int
ty_tree ty_is.Bool = bool
ty_tree (ty_is.Ref c n) = ref c (name_text n)

-- an operand
abbrev pub operand_tree : operand_part.Operand → Expr
operand_tree (operand_is.Int n) = number (pos n)
operand_tree (operand_is.Path q) = path (path_tree q)

-- an expression
abbrev pub expr_tree : expr_part.Expr → Expr
expr_tree (expr_is.Int n) = number (pos n)
expr_tree (expr_is.Bool b) = boolean b
expr_tree (expr_is.Path q) = path (path_tree q)
expr_tree (expr_is.IsNil q) = is_nil (path_tree q)
expr_tree (expr_is.IsThere q) = not (is_nil (path_tree q))
expr_tree (expr_is.Binary op a b) = binary op (operand_tree a) (operand_tree b)

-- `call l.m()`
abbrev pub call_tree : name_part.Name → Call
call_tree m = record { target = record { base = Some (codes "l"); fields = [] }; method = name_text m; args = [] }

-- a right side
abbrev pub right_tree : right_part.Right → Right
right_tree (right_is.Value e) = value (expr_tree e)
right_tree (right_is.New c) = new (name_text c) None
right_tree (right_is.NewIso c m) = new_iso (name_text c) None m
right_tree (right_is.Call m) = result_of (call_tree m)

-- what a statement says
abbrev pub kind_tree : stmt_part.Stmt → StmtKind
kind_tree (stmt_is.Let x y r) = declare (name_text x) (ty_tree y) (right_tree r)
kind_tree (stmt_is.Set q e) = assign (path_tree q) (value (expr_tree e))
kind_tree (stmt_is.Call m) = call (call_tree m)
kind_tree (stmt_is.Print q) = print (path (path_tree q))
kind_tree stmt_is.Collect = collect
kind_tree (stmt_is.Return q) = return (path (path_tree q))

-- the parameters of a method: one number, or none
abbrev pub param_tree : Option name_part.Name → List Param
param_tree None = []
param_tree (Some a) = record { name = name_text a; ty = int } ∷ []

-- a method with its body
abbrev pub method_tree : head_part.Head → Block → Member
method_tree h body = method (record {
  receiver = h.receiver;
  name = name_text h.name;
  params = param_tree h.param;
  result = option_map ty_tree h.result;
  body = body;
  line = 1;
})
