-- What comes on a stack of rows, over what was taken of it.
use Rattle.std.proofs.Common.{◌≡◌, ℕ, ◌<◌, Bool as Truth, false, List, [], ◌∷◌, length, Option, Some, None, Result, Ok, Err}
use Rattle.std.proofs.Common.{refl, sym, ap, subst, ◌∙◌}
use Rattle.rg_tree.specs.declared.rows.ExprRow.{ExprRow}
use Rattle.rg_tree.specs.declared.rows.ExprRow.TheVariants as row
use Rattle.rg_tree.specs.Tree as syntax
use Rattle.rg_tree.specs.Tree.{Expr}
use Rattle.rg_tree.specs.declared.rows.BinOp.{BinOp}
use Rattle.rg_tree.specs.Rows.Tables.{Tables}
use Rattle.rg_tree.specs.Rows.RowTrees.{expr_at, expr_of}
use Rattle.rg_tree.proofs.Callers.{Keeps-same}
use Rattle.rg_tree.specs.Adds.{Extends}
use Rattle.rg_tree.proofs.Adding.{extends-trans}
use Rattle.rg_verify_expressions.specs.declared.held.Held.{Held}
use Rattle.rg_verify_expressions.specs.declared.held.Held.TheVariants as held
use Rattle.rg_verify_expressions.specs.declared.part.Junction.{Junction}
use Rattle.rg_verify_expressions.specs.declared.refusal.Refusal.{Refusal}
use Rattle.rg_verify_expressions.specs.declared.refusal.Refusal.TheVariants as refusal
use Rattle.rg_verify_expressions.specs.Raised.{Raised, named, binary}
use Rattle.rg_verify_expressions.specs.Raising.{Item, tree, waits, settle, from_tree, from_two, from_left}
use Rattle.rg_verify_expressions.specs.declared.expressions.Unary.{Unary}
use Rattle.rg_verify_expressions.specs.declared.expressions.Unary.TheVariants as unary
use Rattle.rg_verify_expressions.specs.Inner.Adds.{AddsTree, IsExprRow}
use Rattle.rg_verify_expressions.specs.Inner.Unaries.{row_over, tree_over}
use Rattle.rg_verify_expressions.specs.Inner.Stacks.{is_path, IsFor, Piled, IsPiled, Makes, TakesRow, Pushes}
use Rattle.rg_verify_expressions.proofs.TreeStack.{piled-later, piled-push}

-- what came before a call
pub makes-behind : {t u : Tables} (v : Tables) (m : Truth) (hs : List Held) (result : Result (Unit {0}) Refusal) (wanted : Option (List Item))
    → Extends t u
    → Makes u v m hs result wanted → Makes t v m hs result wanted
makes-behind v m hs (Ok done) (Some items) g h = record { extends = extends-trans g h.extends; piled = h.piled }
makes-behind v m hs (Ok done) None g h = absurd h
makes-behind v m hs (Err refusal.NotRaised) wanted g h = h
makes-behind v m hs (Err refusal.Memory) wanted g h = tt

-- a call that makes a stack of any that stands for one, over a tree that comes
abbrev pub Settles : (u v : Tables) → Truth → (now news : List Held) → (end : ℕ) → Held → Result (Unit {0}) Refusal → Type 0
Settles u v m now news end h result =
    (items : List Item) (r : Raised) → Piled u m now items → IsFor u m h (tree r) → Makes u v m news result (Some (settle end r items))

-- the same over the row of a tree
abbrev pub Puts : (u v : Tables) → Truth → (now news : List Held) → (end : ℕ) → ExprRow → Result (Unit {0}) Refusal → Type 0
Puts u v m now news end x result =
    (items : List Item) (r : Raised) → Piled u m now items → expr_of u x ≡ named m r → is_path r ≡ false
    → Makes u v m news result (Some (settle end r items))

-- a row is held
pub for-row : {t u : Tables} (m : Truth) {n : ℕ} {e : Expr} (r : Raised) → AddsTree t u n e → e ≡ named m r → is_path r ≡ false
    → IsFor u m (held.Tree n) (tree r)
for-row m r put e not_path = (record { is = λ w k. put.means.is w k ∙ e; there = put.means.there }, not_path)

pub puts-tree : (t u v : Tables) (m : Truth) (hs news : List Held) (end n : ℕ) (x : ExprRow) (result : Result (Unit {0}) Refusal)
    → AddsTree t u n (expr_of t x) → Settles u v m hs news end (held.Tree n) result → Puts t v m hs news end x result
puts-tree t u v m hs news end n x result put h items r p e not_path =
    makes-behind v m news result (Some (settle end r items)) put.extends
    (h items r (piled-later m hs items put.extends p) (for-row m r put e not_path))

-- Over a tree that was taken

module _ (t u : Tables) (m : Truth) (now : List Held) where
  pub took-there : (items : List Item) (n : ℕ) → TakesRow t u m now items (Ok n) → n < length u.exprs
  took-there (tree r ∷ below) n (made, p) = made.means.there u (Keeps-same u)
  took-there items n h = absurd h

  pub took-tree : (items : List Item) (n : ℕ) → TakesRow t u m now items (Ok n) → (r : Raised) × (expr_at u n ≡ named m r)
  took-tree (tree r ∷ below) n (made, p) = (r, made.means.is u (Keeps-same u))
  took-tree items n h = absurd h

  -- another tree comes over it
  pub put-over : (v : Tables) (news : List Held) (n : ℕ) (x : ExprRow) (f : Raised → Raised) (end : ℕ) (result : Result (Unit {0}) Refusal)
      (items : List Item) → TakesRow t u m now items (Ok n) → ((r : Raised) → expr_at u n ≡ named m r → expr_of u x ≡ named m (f r))
      → ((r : Raised) → is_path (f r) ≡ false) → Puts u v m now news end x result → Makes t v m news result (from_tree f end items)
  put-over v news n x f end result (tree r ∷ below) (made, p) e not_path puts =
      makes-behind v m news result (Some (settle end (f r) below)) made.extends
      (puts below (f r) p (e r (made.means.is u (Keeps-same u))) (not_path r))
  put-over v news n x f end result items h e not_path puts = absurd h

  -- it waits for the right operand
  pub put-waiting : (news : List Held) (n : ℕ) (j : Junction) (to : ℕ) (result : Result (Unit {0}) Refusal) (items : List Item)
      → TakesRow t u m now items (Ok n) → Pushes now news (held.Waits (record { junction = j; left = n; to = to })) result
      → Makes t u m news result (from_left j to items)
  put-waiting news n j to (Err refusal.Memory) (tree r ∷ below) h pushed = tt
  put-waiting news n j to (Err refusal.NotRaised) (tree r ∷ below) h pushed = absurd pushed
  put-waiting news n j to (Ok done) (tree r ∷ below) (made, p) pushed = record {
    extends = made.extends;
    piled = piled-push u m now news (held.Waits (record { junction = j; left = n; to = to })) below (waits j r to) pushed (refl, refl, made.means) p;
  }
  put-waiting news n j to result items h pushed = absurd h

-- it has a row, of whichever stack it was taken
pub taken-there : {t u : Tables} (m : Truth) {before now : List Held} {n : ℕ} → IsPiled t m before
    → ((items : List Item) → Piled t m before items → TakesRow t u m now items (Ok n)) → n < length u.exprs
taken-there {t} {u} m {before} {now} {n} (items, p) takes = took-there t u m now items n (takes items p)

-- an operator over it
pub over-there : (x : Unary) (u : Tables) (n : ℕ) → n < length u.exprs → IsExprRow u (row_over x n)
over-there unary.Neg u n there = there
over-there unary.Not u n there = there

pub over-is : (x : Unary) (u : Tables) (m : Truth) (n : ℕ) (r : Raised) → expr_at u n ≡ named m r
    → expr_of u (row_over x n) ≡ named m (tree_over x r)
over-is unary.Neg u m n r e = ap syntax.neg e
over-is unary.Not u m n r e = ap syntax.not e

pub over-no-path : (x : Unary) (r : Raised) → is_path (tree_over x r) ≡ false
over-no-path unary.Neg r = refl
over-no-path unary.Not r = refl

-- Over two trees

module _ (t u v : Tables) (m : Truth) (now next : List Held) where
  -- the second tree, once the first was taken
  abbrev pub Second : Result ℕ Refusal → Type 0
  Second result = (below : List Item) → Piled u m now below → TakesRow u v m next below result

  -- both trees
  pub record Both (items : List Item) (right left : ℕ) : Type 0 where
    pub b : Raised
    pub a : Raised
    pub below : List Item
    pub items_are : items ≡ tree b ∷ tree a ∷ below
    pub made : AddsTree t u right (named m b)
    pub more : AddsTree u v left (named m a)
    pub piled : Piled v m next below

  pub both : (items : List Item) (right left : ℕ) → TakesRow t u m now items (Ok right) → Second (Ok left) → Both items right left
  both (tree b ∷ tree a ∷ below) right left (made, p) k =
      let (more, q) = k (tree a ∷ below) p in
      record { b = b; a = a; below = below; items_are = refl; made = made; more = more; piled = q }
  both (tree b ∷ below) right left (made, p) k = absurd (k below p)
  both items right left h k = absurd h

  module _ (o : BinOp) {items : List Item} {right left : ℕ} (k : Both items right left) where
    pub both-there : IsExprRow v (row.Binary o left right)
    both-there = (k.more.means.there v (Keeps-same v), k.made.means.there v k.more.extends.keeps)

    pub both-is : expr_of v (row.Binary o left right) ≡ named m (binary o k.a k.b)
    both-is =
        let l : expr_at v left ≡ named m k.a = k.more.means.is v (Keeps-same v) in
        let r : expr_at v right ≡ named m k.b = k.made.means.is v k.more.extends.keeps in
        ap (λ (x : Expr). syntax.binary o x (expr_at v right)) l ∙ ap (λ (x : Expr). syntax.binary o (named m k.a) x) r

    pub put-between : (w : Tables) (news : List Held) (end : ℕ) (result : Result (Unit {0}) Refusal)
        → Puts v w m next news end (row.Binary o left right) result → Makes t w m news result (from_two o end items)
    put-between w news end result puts =
        subst (λ (xs : List Item). Makes t w m news result (from_two o end xs)) (sym k.items_are)
        (makes-behind w m news result (Some (settle end (binary o k.a k.b) k.below)) (extends-trans k.made.extends k.more.extends)
        (puts k.below (binary o k.a k.b) k.piled both-is refl))
