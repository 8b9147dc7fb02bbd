-- The rows that are made of what is held, by the front that it is.
use Rattle.std.proofs.Common.{◌≡◌, ℕ, Bool as Truth, Ok, Err, Vec}
use Rattle.std.proofs.Common.{refl, sym, ap, subst, ◌∙◌}
use Rattle.std.specs.declared.alloc.Global.{Global}
use Rattle.rg_tree.specs.declared.rows.ExprRow.TheVariants as row
use Rattle.rg_tree.specs.declared.rows.Path as row_path
use Rattle.rg_tree.specs.Tree as syntax
use Rattle.rg_tree.specs.Rows.Tables.{Tables}
use Rattle.rg_tree.specs.Rows.RowTrees.{expr_of}
use Rattle.rg_tree.proofs.Callers.{Keeps-same}
use Rattle.rg_verify_expressions.specs.declared.held.Held.TheVariants as held
use Rattle.rg_verify_expressions.specs.declared.held.Wait.{Wait}
use Rattle.rg_verify_expressions.specs.declared.refusal.Refusal.{Refusal}
use Rattle.rg_verify_expressions.specs.declared.refusal.Refusal.TheVariants as refusal
use Rattle.rg_verify_expressions.specs.declared.front.FrontRow.{FrontRow}
use Rattle.rg_verify_expressions.specs.declared.front.FrontRow.TheVariants as front
use Rattle.rg_verify_expressions.specs.Raised.{named, path}
use Rattle.rg_verify_expressions.specs.Raising.{Item, tree, checked, indexed, waits, front_in}
use Rattle.rg_verify_expressions.specs.Rows.{an_expression, an_object}
use Rattle.rg_verify_expressions.specs.Inner.Adds.{AddsTree, AddsFront}
use Rattle.rg_verify_expressions.specs.Inner.Stacks.{IsFor, MakesFront, MakesRow}
use Rattle.rg_verify_expressions.proofs.Row.{adds-same, adds-behind}
use Rattle.rg_verify_expressions.proofs.Path.{PathRow}

-- an expression as a front
as-expression : {t u : Tables} {n : ℕ} {e : syntax.Expr} → AddsTree t u n e → AddsFront t u (front.Expression n) (an_expression e)
as-expression a = record { extends = a.extends; means = record { is = λ v k. ap an_expression (a.means.is v k); there = a.means.there } }

module _ (t u : Tables) (m : Truth) (s : ℕ) (ns : Vec ℕ Global) (p : row_path.Path) (made : PathRow t u m s ns.items p) where
  pub path-front : {v : Tables} {n : ℕ} (x : Item) → IsFor t m (held.Path s ns) x → AddsTree u v n (expr_of u (row.Path p))
      → MakesFront t v m (front_in x) (Ok (front.Expression n))
  path-front {v} {n} (tree r) (ks, e, names) put =
      let one = made ks names in
      let is : expr_of u (row.Path p) ≡ named m r = ap syntax.path (one.means.is u (Keeps-same u)) ∙ ap (named m) (sym e) in
      as-expression (subst (λ a. AddsTree t v n a) is (adds-behind one.extends put))
  path-front x is put = absurd is

pub tree-front : (t : Tables) (m : Truth) (n : ℕ) (x : Item) → IsFor t m (held.Tree n) x → MakesFront t t m (front_in x) (Ok (front.Expression n))
tree-front t m n (tree r) (means, not_path) = as-expression (adds-same means)
tree-front t m n x is = absurd is

pub checked-front : (t : Tables) (m : Truth) (p : row_path.Path) (x : Item) → IsFor t m (held.Checked p) x
    → MakesFront t t m (front_in x) (Ok (front.Object p))
checked-front t m p (checked s ks) is =
    adds-same (record { is = λ u k. ap an_object (is.is u k); there = is.there })
checked-front t m p x is = absurd is

pub indexed-front : (t : Tables) (m : Truth) (p : row_path.Path) (n : ℕ) (x : Item) → IsFor t m (held.Indexed p n) x
    → MakesFront t t m (front_in x) (Ok (front.Place p n))
indexed-front t m p n (indexed s ks a) (is, index) =
    adds-same (record {
      is = λ u k. let e = is.is u k in let f = index.is u k in cc;
      there = λ u k. (is.there u k, index.there u k);
    })
indexed-front t m p n x is = absurd is

pub wait-front : (t : Tables) (m : Truth) (w : Wait) (x : Item) → IsFor t m (held.Waits w) x
    → MakesFront t t m (front_in x) (Err refusal.NotRaised)
wait-front t m w (waits j a to) is = tt
wait-front t m w x is = absurd is

same-expression : {a b : syntax.Expr} → an_expression a ≡ an_expression b → a ≡ b
same-expression e = cc

-- the row of a tree, by the front that it is
module _ (t u : Tables) (m : Truth) (x : Item) where
  pub front-row : (n : ℕ) → MakesFront t u m (front_in x) (Ok (front.Expression n)) → MakesRow t u m x (Ok n)
  front-row n made = by x made
    where
      by : (x : Item) → MakesFront t u m (front_in x) (Ok (front.Expression n)) → MakesRow t u m x (Ok n)
      by (tree r) made = record {
        extends = made.extends;
        means = record { is = λ v k. same-expression (made.means.is v k); there = made.means.there };
      }
      by (checked s ks) made = let e = made.means.is u (Keeps-same u) in absurd cc
      by (indexed s ks a) made = let e = made.means.is u (Keeps-same u) in absurd cc
      by (waits j a to) made = absurd made

  pub front-no-row : (f : FrontRow) → ((n : ℕ) → f ≡ front.Expression n → ⊥) → MakesFront t u m (front_in x) (Ok f)
      → MakesRow t u m x (Err refusal.NotRaised)
  front-no-row f other made = by x f other made
    where
      by : (x : Item) (f : FrontRow) → ((n : ℕ) → f ≡ front.Expression n → ⊥) → MakesFront t u m (front_in x) (Ok f)
          → MakesRow t u m x (Err refusal.NotRaised)
      by x (front.Expression n) other made = absurd (other n refl)
      by (tree r) (front.Object p) other made = let e = made.means.is u (Keeps-same u) in absurd cc
      by (tree r) (front.Place p n) other made = let e = made.means.is u (Keeps-same u) in absurd cc
      by x f other made = tt

  pub refused-row : (e : Refusal) → MakesFront t u m (front_in x) (Err e) → MakesRow t u m x (Err e)
  refused-row e made = by x e made
    where
      by : (x : Item) (e : Refusal) → MakesFront t u m (front_in x) (Err e) → MakesRow t u m x (Err e)
      by (tree r) refusal.NotRaised made = absurd made
      by (tree r) refusal.Memory made = tt
      by x refusal.NotRaised made = tt
      by x refusal.Memory made = tt
