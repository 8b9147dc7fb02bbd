-- Rows that stand for what was raised, now and wherever the tables grow (docs/architecture.md, "Modules").
use Rattle.std.specs.Prelude.{ℕ, Bool as Truth, List, All, map}
use Rattle.rg_tree.specs.declared.rows.Path as row
use Rattle.rg_tree.specs.Tree.{Name, Path, Expr}
use Rattle.rg_tree.specs.Rows.Tables.{Tables, name_at}
use Rattle.rg_tree.specs.Rows.RowTrees.{expr_at, path_of}
use Rattle.rg_tree.specs.Rows.RowsExist.{IsNameIn, IsExprNumber, IsPathIn}
use Rattle.rg_tree.specs.Adds.{Means}
use Rattle.rg_verify_expressions.specs.declared.front.FrontRow.{FrontRow}
use Rattle.rg_verify_expressions.specs.declared.front.FrontRow.TheVariants as front
use Rattle.rg_verify_expressions.specs.Raised.{Front, expression, object, place, path_named, named}

-- names by their numbers, in order
abbrev pub AreNames : Tables → List ℕ → List Name → Type 0
AreNames t ns xs = Means (λ u. map (name_at u)) (λ u. All (IsNameIn u)) t ns xs

-- an expression by its number
abbrev pub IsTree : Tables → ℕ → Expr → Type 0
IsTree t n e = Means expr_at IsExprNumber t n e

-- a path by its row
abbrev pub IsPath : Tables → row.Path → Path → Type 0
IsPath t p q = Means path_of IsPathIn t p q

-- a front with its names
pub data NamedFront : Type 0 where
  an_expression : Expr → NamedFront
  an_object : Path → NamedFront
  a_place : Path → (index : Expr) → NamedFront

abbrev pub front_named : (in_method : Truth) → Front → NamedFront
front_named m (expression r) = an_expression (named m r)
front_named m (object s ks) = an_object (path_named m s ks)
front_named m (place s ks e) = a_place (path_named m s ks) (named m e)

-- what a row stands for, and that what it names is there
abbrev pub front_at : Tables → FrontRow → NamedFront
front_at t (front.Expression n) = an_expression (expr_at t n)
front_at t (front.Object p) = an_object (path_of t p)
front_at t (front.Place p n) = a_place (path_of t p) (expr_at t n)

abbrev pub IsFrontIn : Tables → FrontRow → Type 0
IsFrontIn t (front.Expression n) = IsExprNumber t n
IsFrontIn t (front.Object p) = IsPathIn t p
IsFrontIn t (front.Place p n) = IsPathIn t p × IsExprNumber t n

-- fronts by their rows, in order
abbrev pub AreFronts : Tables → List FrontRow → List NamedFront → Type 0
AreFronts t rows xs = Means (λ u. map (front_at u)) (λ u. All (IsFrontIn u)) t rows xs
