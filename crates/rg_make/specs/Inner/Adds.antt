-- What is added to tables: a row that stands for a tree, now and wherever the tables grow (docs/language.md, "The generated program").
use Rattle.std.specs.Prelude.{ℕ, ◌≡◌, List, [], ◌∷◌, ◌++◌, length, All, map, Option, option_map, IfSome}
use Rattle.rg_tree.specs.declared.rows.Span.{Span}
use Rattle.rg_tree.specs.declared.rows.ExprRow.{ExprRow}
use Rattle.rg_tree.specs.declared.rows.StmtKind.{StmtKind}
use Rattle.rg_tree.specs.declared.rows.TypeRow.{TypeRow}
use Rattle.rg_tree.specs.Tree as tree
use Rattle.rg_tree.specs.Tree.{Name, Expr, Stmt, Param, Member}
use Rattle.rg_tree.specs.Rows.Tables.{Tables, name_at, numbers_in}
use Rattle.rg_tree.specs.Rows.RowTrees.{type_of, expr_at, kind_over, stmt_at, block_of, param_at, member_at, classes_of}
use Rattle.rg_tree.specs.Rows.RowsExist.{IsTypeIn, IsExprIn, IsKindIn, IsBlockIn, IsSpanBelow, IsStmtNumber}
use Rattle.rg_tree.specs.Keeps.{Keeps}
use Rattle.rg_tree.specs.Adds.{Adds}

-- rows of these numbers stand for those trees
abbrev pub AddsAll : {A : Type 0} → (Tables → ℕ → A) → (Tables → ℕ → Type 0) → (old new : Tables) → List ℕ → List A → Type 0
AddsAll at exists = Adds (λ u. map (at u)) (λ u. All (exists u))

-- rows that name rows which exist

abbrev pub IsExprRow : Tables → ExprRow → Type 0
IsExprRow t r = IsExprIn t (length t.exprs) r

abbrev pub IsKindRow : Tables → StmtKind → Type 0
IsKindRow t k = IsKindIn t (length t.stmts) k

-- what a statement says
abbrev pub kind_of : Tables → StmtKind → tree.StmtKind
kind_of t k = kind_over t (stmt_at t) k

-- a type that may be missing

abbrev pub result_of : Tables → Option TypeRow → Option tree.Ty
result_of t o = option_map (type_of t) o

abbrev pub IsResultIn : Tables → Option TypeRow → Type 0
IsResultIn t o = IfSome o (IsTypeIn t)

-- what a span of such numbers stands for

abbrev pub names_in : Tables → Span → List Name
names_in t s = map (name_at t) (numbers_in t s)

abbrev pub exprs_in : Tables → Span → List Expr
exprs_in t s = map (expr_at t) (numbers_in t s)

abbrev pub params_in : Tables → Span → List Param
params_in t s = map (param_at t) (numbers_in t s)

abbrev pub members_in : Tables → Span → List Member
members_in t s = map (member_at t) (numbers_in t s)

-- and that it exists

abbrev pub AreNamesIn : Tables → Span → Type 0
AreNamesIn t = IsSpanBelow t (length t.names)

abbrev pub AreParamsIn : Tables → Span → Type 0
AreParamsIn t = IsSpanBelow t (length t.params)

-- statements one behind another
abbrev pub block_with : List Stmt → tree.Block
block_with [] = tree.empty
block_with (s ∷ ss) = tree.then s (block_with ss)

-- whatever statements these numbers stand for, the span is their block
abbrev pub AddsBlock : (old new : Tables) → List ℕ → Span → Type 0
AddsBlock old new ks s =
    (t : Tables) (ss : List Stmt) → AddsAll stmt_at IsStmtNumber t old ks ss → Adds block_of IsBlockIn t new s (block_with ss)

-- a class is put last, and all else stays
pub record AddsClass (old new : Tables) (c : tree.Class) : Type 0 where
  pub keeps : Keeps old new
  pub classes : classes_of new ≡ classes_of old ++ c ∷ []
