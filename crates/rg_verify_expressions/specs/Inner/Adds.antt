-- Rows that are added to tables.
use Rattle.std.specs.Prelude.{ℕ, length}
use Rattle.rg_tree.specs.declared.rows.ExprRow.{ExprRow}
use Rattle.rg_tree.specs.Tree.{Expr}
use Rattle.rg_tree.specs.Rows.Tables.{Tables}
use Rattle.rg_tree.specs.Rows.RowTrees.{expr_at}
use Rattle.rg_tree.specs.Rows.RowsExist.{IsExprNumber, IsExprIn}
use Rattle.rg_tree.specs.Adds.{Adds}
use Rattle.rg_verify_expressions.specs.declared.front.FrontRow.{FrontRow}
use Rattle.rg_verify_expressions.specs.Rows.{NamedFront, front_at, IsFrontIn}

-- an expression was added
abbrev pub AddsTree : (old new : Tables) → ℕ → Expr → Type 0
AddsTree old new n e = Adds expr_at IsExprNumber old new n e

-- a front was added
abbrev pub AddsFront : (old new : Tables) → FrontRow → NamedFront → Type 0
AddsFront old new f x = Adds front_at IsFrontIn old new f x

-- a row names rows which exist
abbrev pub IsExprRow : Tables → ExprRow → Type 0
IsExprRow t r = IsExprIn t (length t.exprs) r
