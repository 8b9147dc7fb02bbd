-- Rows whose numbers name rows that exist (docs/language.md, "The tree").
use Rattle.std.specs.Prelude.{ℕ, ◌≡◌, ◌^◌, ◌<◌, ◌≤◌, ⊤, List, length, All, Option, Some, IfSome, slice_get}
use Rattle.rg_tree.specs.declared.rows.Span.{Span}
use Rattle.rg_tree.specs.declared.rows.Path.{Path}
use Rattle.rg_tree.specs.declared.rows.ClassRow.{ClassRow}
use Rattle.rg_tree.specs.declared.rows.MemberRow.{MemberRow}
use Rattle.rg_tree.specs.declared.rows.MemberRow.TheVariants.{Field, Method}
use Rattle.rg_tree.specs.declared.rows.MethodRow.{MethodRow}
use Rattle.rg_tree.specs.declared.rows.ParamRow.{ParamRow}
use Rattle.rg_tree.specs.declared.rows.TypeRow.{TypeRow}
use Rattle.rg_tree.specs.declared.rows.TypeRow.TheVariants as type_row
use Rattle.rg_tree.specs.declared.rows.CallRow.{CallRow}
use Rattle.rg_tree.specs.declared.rows.Right.{Right}
use Rattle.rg_tree.specs.declared.rows.Right.TheVariants as right_row
use Rattle.rg_tree.specs.declared.rows.StmtKind.{StmtKind}
use Rattle.rg_tree.specs.declared.rows.StmtKind.TheVariants as kind_row
use Rattle.rg_tree.specs.declared.rows.StmtRow.{StmtRow}
use Rattle.rg_tree.specs.declared.rows.ExprRow.{ExprRow}
use Rattle.rg_tree.specs.declared.rows.ExprRow.TheVariants as expr_row
use Rattle.rg_tree.specs.Rows.Tables.{Tables, numbers_in, AreDistinct}

-- the span lies in the table of numbers
pub record IsWithin (t : Tables) (s : Span) : Type 0 where
  pub ordered : s.from ≤ s.to
  pub ends : s.to ≤ length t.numbers

-- the span lies in the table of numbers, and each number in it is below n
pub record IsSpanBelow (t : Tables) (n : ℕ) (s : Span) : Type 0 where
  pub within : IsWithin t s
  pub each : All (λ k. k < n) (numbers_in t s)

-- the span holds these numbers
pub record Holds (t : Tables) (s : Span) (these : List ℕ) : Type 0 where
  pub within : IsWithin t s
  pub these_are : numbers_in t s ≡ these

-- the number names a name
abbrev pub IsNameIn : Tables → ℕ → Type 0
IsNameIn t n = n < length t.names

-- the variable is `self`, or its number names a name
abbrev pub IsVariableIn : Tables → Option ℕ → Type 0
IsVariableIn t o = IfSome o (IsNameIn t)

-- the number names an expression
abbrev pub IsExprNumber : Tables → ℕ → Type 0
IsExprNumber t e = e < length t.exprs

-- the number names a statement
abbrev pub IsStmtNumber : Tables → ℕ → Type 0
IsStmtNumber t n = n < length t.stmts

-- the number names a parameter
abbrev pub IsParamNumber : Tables → ℕ → Type 0
IsParamNumber t n = n < length t.params

-- the number names a member
abbrev pub IsMemberNumber : Tables → ℕ → Type 0
IsMemberNumber t n = n < length t.members

-- each number in the path names a name
pub record IsPathIn (t : Tables) (p : Path) : Type 0 where
  pub base : IfSome p.base (IsNameIn t)
  pub fields : IsSpanBelow t (length t.names) p.fields

-- the number in the type names a name
abbrev pub IsTypeIn : Tables → TypeRow → Type 0
IsTypeIn t type_row.Int = ⊤
IsTypeIn t type_row.Bool = ⊤
IsTypeIn t (type_row.Ref c n) = IsNameIn t n

-- the numbers in the expression name names, and expressions below n
abbrev pub IsExprIn : Tables → ℕ → ExprRow → Type 0
IsExprIn t n (expr_row.Int z) = ⊤
IsExprIn t n (expr_row.Bool b) = ⊤
IsExprIn t n expr_row.Nil = ⊤
IsExprIn t n (expr_row.Path p) = IsPathIn t p
IsExprIn t n (expr_row.IsNil p) = IsPathIn t p
IsExprIn t n (expr_row.Neg a) = a < n
IsExprIn t n (expr_row.Not a) = a < n
IsExprIn t n (expr_row.Binary op a b) = (a < n) × (b < n)
IsExprIn t n (expr_row.Size p) = IsPathIn t p
IsExprIn t n (expr_row.At p a) = IsPathIn t p × (a < n)

-- the numbers in the call name names and expressions
pub record IsCallIn (t : Tables) (c : CallRow) : Type 0 where
  pub target : IsPathIn t c.path
  pub method : IsNameIn t c.method
  pub args : IsSpanBelow t (length t.exprs) c.args

-- the numbers in the right side name names and expressions
abbrev pub IsRightIn : Tables → Right → Type 0
IsRightIn t (right_row.Expr e) = IsExprNumber t e
IsRightIn t (right_row.New n o) = IsNameIn t n × IfSome o (IsExprNumber t)
IsRightIn t (right_row.NewTmp n o) = IsNameIn t n × IfSome o (IsExprNumber t)
IsRightIn t (right_row.NewIso n o m) = IsNameIn t n × IfSome o (IsExprNumber t)
IsRightIn t (right_row.Freeze n) = IsNameIn t n
IsRightIn t (right_row.Merge n) = IsNameIn t n
IsRightIn t right_row.Read = ⊤
IsRightIn t right_row.More = ⊤
IsRightIn t (right_row.Call c) = IsCallIn t c

-- the numbers in what a statement says name names and expressions, and statements below n
abbrev pub IsKindIn : Tables → ℕ → StmtKind → Type 0
IsKindIn t n (kind_row.Let x y r) = IsNameIn t x × IsTypeIn t y × IsRightIn t r
IsKindIn t n (kind_row.Set p r) = IsPathIn t p × IsRightIn t r
IsKindIn t n (kind_row.SetAt p e r) = IsPathIn t p × IsExprNumber t e × IsRightIn t r
IsKindIn t n (kind_row.Call c) = IsCallIn t c
IsKindIn t n (kind_row.Swap x p) = IsNameIn t x × IsPathIn t p
IsKindIn t n (kind_row.If e s o) = IsExprNumber t e × IsSpanBelow t n s × IfSome o (IsSpanBelow t n)
IsKindIn t n (kind_row.While e s) = IsExprNumber t e × IsSpanBelow t n s
IsKindIn t n (kind_row.Enter p x s o) = IsPathIn t p × IsNameIn t x × IsSpanBelow t n s × IfSome o (IsNameIn t)
IsKindIn t n (kind_row.Print e) = IsExprNumber t e
IsKindIn t n kind_row.Collect = ⊤
IsKindIn t n (kind_row.Return e) = IsExprNumber t e

-- the numbers in the statement name names and expressions, and statements below n
abbrev pub IsStmtIn : Tables → ℕ → StmtRow → Type 0
IsStmtIn t n r = IsKindIn t n r.kind

-- each number in the span names a statement
abbrev pub IsBlockIn : Tables → Span → Type 0
IsBlockIn t s = IsSpanBelow t (length t.stmts) s

-- the numbers in the parameter name names
pub record IsParamIn (t : Tables) (r : ParamRow) : Type 0 where
  pub name : IsNameIn t r.name
  pub ty : IsTypeIn t r.ty

-- the numbers in the member name names, parameters and statements
abbrev pub IsMemberIn : Tables → MemberRow → Type 0
IsMemberIn t (Field n y line) = IsNameIn t n × IsTypeIn t y
IsMemberIn t (Method c n ps r b line) = IsNameIn t n × IsSpanBelow t (length t.params) ps × IfSome r (IsTypeIn t) × IsBlockIn t b

-- the numbers in the method name parameters, a class and statements
pub record IsMethodIn (t : Tables) (m : MethodRow) : Type 0 where
  pub params : IsSpanBelow t (length t.params) m.params
  pub result : IfSome m.result (IsTypeIn t)
  pub body : IsBlockIn t m.body

-- the numbers in the class name names and members
pub record IsClassIn (t : Tables) (r : ClassRow) : Type 0 where
  pub name : IsNameIn t r.name
  pub element : IfSome r.element (IsTypeIn t)
  pub members : IsSpanBelow t (length t.members) r.members

-- P holds of each row and its number
abbrev pub EachRow : {R : Type 0} → (ℕ → R → Type 0) → List R → Type 0
EachRow {R} P rows = (k : ℕ) (r : R) → slice_get rows k ≡ Some r → P k r

-- The tables are those of a program: each number names a row that exists, which comes before it in its own table.
pub record AreRows (t : Tables) : Type 0 where
  pub names : AreDistinct t.names
  pub exprs : EachRow (IsExprIn t) t.exprs
  pub stmts : EachRow (IsStmtIn t) t.stmts
  pub params : EachRow (λ k r. IsParamIn t r) t.params
  pub members : EachRow (λ k r. IsMemberIn t r) t.members
  pub classes : EachRow (λ k r. IsClassIn t r) t.classes
  pub body : IsBlockIn t t.body
  pub counted : length t.classes < 2 ^ 32
