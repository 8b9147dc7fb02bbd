-- For crates above: rows by their numbers stand for their trees wherever the tables grow.
use Rattle.std.proofs.Common.{◌≡◌, ℕ, ◌<◌, [], ◌∷◌, ◌++◌, length, refl, ap, ◌∙◌, arith}
use Rattle.rg_base.proofs.Callers.Lists.{below}
use Rattle.rg_tree.specs.declared.rows.ExprRow.{ExprRow}
use Rattle.rg_tree.specs.Tree.{Name, Expr, Stmt, Param, Member}
use Rattle.rg_tree.specs.Rows.Tables.{Tables, name_at}
use Rattle.rg_tree.specs.Rows.RowTrees.{expr_at, stmt_at, param_at, member_at, program_of}
use Rattle.rg_tree.specs.Rows.RowsExist.{IsNameIn, IsExprNumber, IsStmtNumber, IsParamNumber, IsMemberNumber}
use Rattle.rg_tree.specs.Keeps.{Keeps}
use Rattle.rg_tree.specs.Adds.{Extends, Means, Adds}
use Rattle.rg_tree.proofs.Callers.{Keeps-same, Keeps-trans, IsAbove-Keeps, expr_at-keeps, stmt_at-keeps, param_at-keeps, member_at-keeps}
use Rattle.rg_tree.proofs.Grows.{name_at-grows}

module _ {t : Tables} (n : ℕ) where
  pub name-means : (x : Name) → name_at t n ≡ x → n < length t.names → Means name_at IsNameIn t n x
  name-means x e l = record {
    is = λ u k. name_at-grows (IsAbove-Keeps k) n l ∙ e;
    there = λ u k. omega (arith, (IsAbove-Keeps k).names);
  }

  pub expr-means : (x : Expr) → expr_at t n ≡ x → n < length t.exprs → Means expr_at IsExprNumber t n x
  expr-means x e l = record { is = λ u k. expr_at-keeps k n l ∙ e; there = λ u k. omega (arith, (IsAbove-Keeps k).exprs) }

  pub stmt-means : (x : Stmt) → stmt_at t n ≡ x → n < length t.stmts → Means stmt_at IsStmtNumber t n x
  stmt-means x e l = record { is = λ u k. stmt_at-keeps k n l ∙ e; there = λ u k. omega (arith, (IsAbove-Keeps k).stmts) }

  pub param-means : (x : Param) → param_at t n ≡ x → n < length t.params → Means param_at IsParamNumber t n x
  param-means x e l = record { is = λ u k. param_at-keeps k n l ∙ e; there = λ u k. omega (arith, (IsAbove-Keeps k).params) }

  pub member-means : (x : Member) → member_at t n ≡ x → n < length t.members → Means member_at IsMemberNumber t n x
  member-means x e l = record { is = λ u k. member_at-keeps k n l ∙ e; there = λ u k. omega (arith, (IsAbove-Keeps k).members) }

-- tables that grow, and whose program stays

pub extends-same : (t : Tables) → Extends t t
extends-same t = record { keeps = Keeps-same t; program = refl }

pub extends-trans : {t u v : Tables} → Extends t u → Extends u v → Extends t v
extends-trans a b = record { keeps = Keeps-trans a.keeps b.keeps; program = b.program ∙ a.program }

pub extends-by : {t u : Tables} → Keeps t u → program_of u ≡ program_of t → Extends t u
extends-by k p = record { keeps = k; program = p }

-- what a row stands for stays

pub means-kept : {V A : Type 0} {at : Tables → V → A} {exists : Tables → V → Type 0} {t u : Tables} {v : V} {a : A} → Means at exists t v a
    → Keeps t u → Means at exists u v a
means-kept m g = record { is = λ w k. m.is w (Keeps-trans g k); there = λ w k. m.there w (Keeps-trans g k) }

pub means-later : {V A : Type 0} {at : Tables → V → A} {exists : Tables → V → Type 0} {t u : Tables} {v : V} {a : A} → Means at exists t v a
    → Extends t u → Means at exists u v a
means-later m g = means-kept m g.keeps

-- A row that is put last into its table.
module _ {u v : Tables} (n : ℕ) (k : Keeps u v) (p : program_of v ≡ program_of u) where
  pub name-put : (x : Name) → name_at v n ≡ x → n < length v.names → Adds name_at IsNameIn u v n x
  name-put x e l = record { extends = extends-by k p; means = name-means n x e l }

  pub expr-put : (r : ExprRow) {a : Expr} → n ≡ length u.exprs → expr_at v n ≡ a → v ≡ record u { exprs = u.exprs ++ r ∷ [] }
      → Adds expr_at IsExprNumber u v n a
  expr-put r {a} l e w =
      record { extends = extends-by k p; means = expr-means n a e (below u.exprs v.exprs r n (ap (λ (x : Tables). x.exprs) w) l) }
