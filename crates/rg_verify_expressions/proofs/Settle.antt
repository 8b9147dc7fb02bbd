-- A tree that comes on a stack of rows, and what waits for it.
use Rattle.std.proofs.Common.{◌≡◌, ℕ, Bool as Truth, List, [], ◌∷◌, Some}
use Rattle.std.proofs.Common.{refl, sym, ap, ◌∙◌}
use Rattle.rg_tree.specs.declared.rows.ExprRow.TheVariants as row
use Rattle.rg_tree.specs.Tree as syntax
use Rattle.rg_tree.specs.Rows.Tables.{Tables}
use Rattle.rg_tree.specs.Rows.RowTrees.{expr_at, expr_of}
use Rattle.rg_tree.proofs.Callers.{Keeps-same}
use Rattle.rg_tree.specs.Adds.{Extends}
use Rattle.rg_tree.proofs.Adding.{extends-trans}
use Rattle.rg_verify_expressions.specs.declared.held.Held.{Held}
use Rattle.rg_verify_expressions.specs.declared.held.Held.TheVariants as held
use Rattle.rg_verify_expressions.specs.declared.held.Wait.{Wait}
use Rattle.rg_verify_expressions.specs.declared.part.Junction.{Junction}
use Rattle.rg_verify_expressions.specs.declared.refusal.Refusal.TheVariants as refusal
use Rattle.rg_verify_expressions.specs.Raised.{Raised, named, binary}
use Rattle.rg_verify_expressions.specs.Raising.{operator_of, Item, tree, waits, settle}
use Rattle.rg_verify_expressions.specs.Rows.{IsTree}
use Rattle.rg_verify_expressions.specs.Inner.Adds.{AddsTree, IsExprRow}
use Rattle.rg_verify_expressions.specs.Inner.Stacks.{IsFor, Piled, TakesWait}
use Rattle.rg_verify_expressions.proofs.Settling.{settle-taken}
use Rattle.rg_verify_expressions.proofs.TreeStack.{piled-later}

-- what is still to settle is what was to settle
pub record Left (t u : Tables) (m : Truth) (end : ℕ) (now : List Held) (top : Held) (wanted : List Item) : Type 0 where
  pub items : List Item
  pub r : Raised
  pub extends : Extends t u
  pub piled : Piled u m now items
  pub is : IsFor u m top (tree r)
  pub same : settle end r items ≡ wanted

-- the same of each stack and tree that the first ones stand for
abbrev pub AllLeft : (t u : Tables) → Truth → (end : ℕ) → (old now : List Held) → (first top : Held) → Type 0
AllLeft t u m end old now first top =
    (items : List Item) (r : Raised) → Piled t m old items → IsFor t m first (tree r) → Left t u m end now top (settle end r items)

-- the row of a junction with both operands
module _ {u v : Tables} (m : Truth) (w : Wait) {right : ℕ} {j : Junction} (a r : Raised) (junction : w.junction ≡ j)
    (left : IsTree u w.left (named m a)) (made : AddsTree u v right (named m r)) where
  pub junction-there : IsExprRow v (row.Binary (operator_of w.junction) w.left right)
  junction-there = (left.there v made.extends.keeps, made.means.there v (Keeps-same v))

  pub junction-is : expr_of v (row.Binary (operator_of w.junction) w.left right) ≡ named m (binary (operator_of j) a r)
  junction-is =
      let l : expr_at v w.left ≡ named m a = left.is v made.extends.keeps in
      let k : expr_at v right ≡ named m r = made.means.is v (Keeps-same v) in
      ap (λ (i : Junction). syntax.binary (operator_of i) (expr_at v w.left) (expr_at v right)) junction
      ∙ ap (λ e. syntax.binary (operator_of j) e (expr_at v right)) l
      ∙ ap (λ e. syntax.binary (operator_of j) (named m a) e) k

-- a wait that was taken, with its tree
pub record Taken (t u : Tables) (m : Truth) (end : ℕ) (now : List Held) (top : Held) (w : Wait) (wanted : List Item) : Type 0 where
  pub items : List Item
  pub a : Raised
  pub r : Raised
  pub extends : Extends t u
  pub left : IsTree u w.left (named m a)
  pub piled : Piled u m now items
  pub is : IsFor u m top (tree r)
  pub same : settle end (binary (operator_of w.junction) a r) items ≡ wanted

taken-by : (t u : Tables) (m : Truth) (end : ℕ) (now news : List Held) (top : Held) (w : Wait) (wanted items : List Item) (r : Raised)
    → Extends t u → IsFor u m top (tree r) → settle end r items ≡ wanted → TakesWait u m end now news items (Some w)
    → Taken t u m end news top w wanted
taken-by t u m end now news top w wanted (waits j a to ∷ below) r g f same (junction, here, left, p) =
    let one : settle end r (waits j a to ∷ below) ≡ settle end r (waits j a end ∷ below) =
    ap (λ (n : ℕ). settle end r (waits j a n ∷ below)) here in
    record {
      items = below;
      a = a;
      r = r;
      extends = g;
      left = left;
      piled = p;
      is = f;
      same = ap (λ (i : Junction). settle end (binary (operator_of i) a r) below) junction ∙ sym (settle-taken end r j a below) ∙ sym one ∙ same;
    }
taken-by t u m end now news top w wanted items r g f same h = absurd h

pub left-taken : {t u : Tables} {m : Truth} {end : ℕ} {now : List Held} {top : Held} {wanted : List Item} (news : List Held) (w : Wait)
    → Left t u m end now top wanted → ((items : List Item) → Piled u m now items → TakesWait u m end now news items (Some w))
    → Taken t u m end news top w wanted
left-taken {t} {u} {m} {end} {now} {top} {wanted} news w l h =
    taken-by t u m end now news top w wanted l.items l.r l.extends l.is l.same (h l.items l.piled)

-- the next turn
pub left-next : {t u v x : Tables} {m : Truth} {end : ℕ} {news : List Held} {top : Held} {w : Wait} {wanted : List Item} {right n : ℕ}
    → (k : Taken t u m end news top w wanted) → AddsTree u v right (named m k.r)
    → AddsTree v x n (expr_of v (row.Binary (operator_of w.junction) w.left right))
    → Left t x m end news (held.Tree n) wanted
left-next {m = m} {news = news} {w = w} {n = n} k made put =
    let g = extends-trans made.extends put.extends in
    let is = junction-is m w {j = w.junction} k.a k.r refl k.left made in
    record {
      items = k.items;
      r = binary (operator_of w.junction) k.a k.r;
      extends = extends-trans k.extends g;
      piled = piled-later m news k.items g k.piled;
      is = (record { is = λ y j. put.means.is y j ∙ is; there = put.means.there }, refl);
      same = k.same;
    }
