-- Statements, blocks and paths that were put into rows.
use Rattle.std.proofs.Common.{◌≡◌, ℕ, Bool as Truth, List, [], ◌∷◌, ◌++◌, map, length, Option, Some, None, refl, sym, ◌∙◌, ap, subst}
use Rattle.rg_base.proofs.Callers.Lists.{below}
use Rattle.rg_tree.specs.declared.rows.Span.{Span}
use Rattle.rg_tree.specs.declared.rows.Path as rows
use Rattle.rg_tree.specs.declared.rows.StmtRow.{StmtRow}
use Rattle.rg_tree.specs.declared.rows.ExprRow.{ExprRow}
use Rattle.rg_tree.specs.declared.rows.ExprRow.TheVariants as expr_row
use Rattle.rg_tree.specs.Tree as tree
use Rattle.rg_tree.specs.Tree.{Stmt}
use Rattle.rg_tree.specs.Rows.Tables.{Tables, numbers_in}
use Rattle.rg_tree.specs.Rows.RowTrees.{path_of, expr_at, expr_of, stmt_at, block_over, program_of}
use Rattle.rg_tree.specs.Rows.RowsExist.{Holds, IsPathIn, IsExprIn, IsStmtNumber}
use Rattle.rg_tree.specs.Keeps.{Keeps}
use Rattle.rg_tree.specs.Adds.{Means, Adds}
use Rattle.rg_tree.proofs.Callers.{IsAbove-Keeps}
use Rattle.rg_tree.proofs.Grows.{path_of-grows, IsPathIn-grows}
use Rattle.rg_tree.proofs.Adding.{stmt-means, extends-by, means-later}
use Rattle.rg_verify_expressions.specs.Raised.{Raised, number, boolean, nil, path, is_nil, size, element, neg, not, binary, named, path_named}
use Rattle.rg_verify_expressions.specs.Rows.{IsTree}
use Rattle.rg_verify_expressions.specs.Blocks.{path_in}
use Rattle.rg_raise.specs.Telling.{IsPathTo}
use Rattle.rg_raise.proofs.Rows.{means-now, means-span}
use Rattle.rg_blocks.specs.Blocks.{FindsPath, block_with, AddsBlock}

-- a row over four others
module _ {W B : Type 0} {at : Tables → W → B} {exists : Tables → W → Type 0} where
  pub means-four : {V1 A1 V2 A2 V3 A3 V4 A4 : Type 0} {at1 : Tables → V1 → A1} {exists1 : Tables → V1 → Type 0}
      {at2 : Tables → V2 → A2} {exists2 : Tables → V2 → Type 0} {at3 : Tables → V3 → A3} {exists3 : Tables → V3 → Type 0}
      {at4 : Tables → V4 → A4} {exists4 : Tables → V4 → Type 0} (row : V1 → V2 → V3 → V4 → W) (f : A1 → A2 → A3 → A4 → B)
      → ((u : Tables) (v1 : V1) (v2 : V2) (v3 : V3) (v4 : V4) → at u (row v1 v2 v3 v4) ≡ f (at1 u v1) (at2 u v2) (at3 u v3) (at4 u v4))
      → ((u : Tables) (v1 : V1) (v2 : V2) (v3 : V3) (v4 : V4) → exists1 u v1 → exists2 u v2 → exists3 u v3 → exists4 u v4
      → exists u (row v1 v2 v3 v4))
      → {t : Tables} {v1 : V1} {v2 : V2} {v3 : V3} {v4 : V4} {a1 : A1} {a2 : A2} {a3 : A3} {a4 : A4} → Means at1 exists1 t v1 a1
      → Means at2 exists2 t v2 a2 → Means at3 exists3 t v3 a3 → Means at4 exists4 t v4 a4 → Means at exists t (row v1 v2 v3 v4) (f a1 a2 a3 a4)
  means-four row f e h {v1 = v1} {v2 = v2} {v3 = v3} {v4 = v4} a b c d = record {
    is = λ w k. let p = a.is w k in let q = b.is w k in let r = c.is w k in let s = d.is w k in e w v1 v2 v3 v4 ∙ cc;
    there = λ w k. h w v1 v2 v3 v4 (a.there w k) (b.there w k) (c.there w k) (d.there w k);
  }

-- a statement that was put last
pub stmt-put : {u v : Tables} (n : ℕ) → Keeps u v → program_of v ≡ program_of u → (r : StmtRow) {a : Stmt} → n ≡ length u.stmts
    → stmt_at v n ≡ a → v ≡ record u { stmts = u.stmts ++ r ∷ [] } → Adds stmt_at IsStmtNumber u v n a
stmt-put {u} {v} n k p r {a} l e w =
    record { extends = extends-by k p; means = stmt-means n a e (below u.stmts v.stmts r n (ap (λ (x : Tables). x.stmts) w) l) }

-- a block

block_over-map : (f : ℕ → Stmt) (ks : List ℕ) → block_over f ks ≡ block_with (map f ks)
block_over-map f [] = refl
block_over-map f (k ∷ ks) = ap (tree.then (f k)) (block_over-map f ks)

pub block-put : {u v : Tables} {ns : List ℕ} {s : Span} → Keeps u v → program_of v ≡ program_of u → Holds v s ns → AddsBlock u v ns s
block-put {s = s} k p h ss a =
    let g = extends-by k p in
    let m = means-span stmt_at (λ w. length w.stmts) (means-later a g) h in
    record {
      extends = g;
      means = record {
        is = λ w k. block_over-map (stmt_at w) (numbers_in w s) ∙ ap block_with (m.is w k);
        there = m.there;
      };
    }

-- the path that an expression is

is-path : (m : Truth) (e : Raised) (q : tree.Path) → named m e ≡ tree.path q
    → (s : ℕ) × (ks : List ℕ) × (path_in e ≡ Some (s, ks)) × (q ≡ path_named m s ks)
is-path m (number z) q f = absurd cc
is-path m (boolean b) q f = absurd cc
is-path m nil q f = absurd cc
is-path m (path s ks) q f = (s, ks, refl, cc)
is-path m (is_nil s ks) q f = absurd cc
is-path m (size s ks) q f = absurd cc
is-path m (element s ks e) q f = absurd cc
is-path m (neg a) q f = absurd cc
is-path m (not a) q f = absurd cc
is-path m (binary o a b) q f = absurd cc

pub path-found : (t : Tables) (m : Truth) (row : ℕ) (r : ExprRow) (p : rows.Path) (e : Raised) → r ≡ expr_row.Path p → expr_at t row ≡ expr_of t r
    → IsExprIn t row r → IsTree t row (named m e) → FindsPath t m (path_in e) (Some p)
path-found t m row r p e is tree_is inside means =
    let same : named m e ≡ tree.path (path_of t p) = sym (means-now means) ∙ tree_is ∙ ap (expr_of t) is in
    let (s, ks, found, named_so) = is-path m e (path_of t p) same in
    let there : IsPathIn t p = subst (IsExprIn t row) is inside in
    let path : IsPathTo t m p s ks = record {
      is = λ w k. path_of-grows (IsAbove-Keeps k) p there ∙ named_so;
      there = λ w k. IsPathIn-grows (IsAbove-Keeps k) p there;
    } in
    subst (λ o. FindsPath t m o (Some p)) (sym found) path

-- a row of another kind stands for no path
row-of-path : (t : Tables) (r : ExprRow) (q : tree.Path) → expr_of t r ≡ tree.path q → ((p : rows.Path) → r ≡ expr_row.Path p → ⊥) → ⊥
row-of-path t (expr_row.Path p) q e other = other p refl
row-of-path t (expr_row.Int z) q e other = cc
row-of-path t (expr_row.Bool b) q e other = cc
row-of-path t expr_row.Nil q e other = cc
row-of-path t (expr_row.IsNil p) q e other = cc
row-of-path t (expr_row.Neg a) q e other = cc
row-of-path t (expr_row.Not a) q e other = cc
row-of-path t (expr_row.Binary o a b) q e other = cc
row-of-path t (expr_row.Size p) q e other = cc
row-of-path t (expr_row.At p a) q e other = cc

pub path-lost : (t : Tables) (m : Truth) (row : ℕ) (r : ExprRow) (e : Raised) → ((p : rows.Path) → r ≡ expr_row.Path p → ⊥)
    → expr_at t row ≡ expr_of t r → IsTree t row (named m e) → path_in e ≡ None
path-lost t m row r (path s ks) other tree_is means = absurd (row-of-path t r (path_named m s ks) (sym tree_is ∙ means-now means) other)
path-lost t m row r (number z) other tree_is means = refl
path-lost t m row r (boolean b) other tree_is means = refl
path-lost t m row r nil other tree_is means = refl
path-lost t m row r (is_nil s ks) other tree_is means = refl
path-lost t m row r (size s ks) other tree_is means = refl
path-lost t m row r (element s ks x) other tree_is means = refl
path-lost t m row r (neg a) other tree_is means = refl
path-lost t m row r (not a) other tree_is means = refl
path-lost t m row r (binary o a b) other tree_is means = refl

pub no-path : (t : Tables) (m : Truth) (o : Option (ℕ × List ℕ)) → o ≡ None → FindsPath t m o None
no-path t m None e = refl
no-path t m (Some q) e = absurd cc

pub finds-path : (t : Tables) (m : Truth) (o : Option (ℕ × List ℕ)) (p : rows.Path) → FindsPath t m o (Some p)
    → (q : ℕ × List ℕ) × (o ≡ Some q) × IsPathTo t m p q.0 q.1
finds-path t m (Some q) p is = (q, refl, is)
finds-path t m None p is = absurd is

pub finds-no-path : (t : Tables) (m : Truth) (o : Option (ℕ × List ℕ)) → FindsPath t m o None → o ≡ None
finds-no-path t m None is = refl
finds-no-path t m (Some q) is = absurd cc
