-- Paths and places in arrays that were tested, and elements.
use Rattle.std.proofs.Common.{◌≡◌, ℕ, Bool as Truth, false, List, [], ◌∷◌, ◌++◌, length, Some, Result, Ok, Err, Vec}
use Rattle.std.proofs.Common.{refl, sym, ap, subst, ◌∙◌}
use Rattle.std.specs.declared.alloc.Global.{Global}
use Rattle.rg_tree.specs.declared.rows.ExprRow.TheVariants as row
use Rattle.rg_tree.specs.declared.rows.Path as row_path
use Rattle.rg_tree.specs.Tree as syntax
use Rattle.rg_tree.specs.Rows.Tables.{Tables}
use Rattle.rg_tree.specs.Rows.RowTrees.{expr_at, expr_of}
use Rattle.rg_tree.proofs.Callers.{Keeps-same}
use Rattle.rg_tree.specs.Adds.{Extends}
use Rattle.rg_verify_expressions.specs.declared.held.Held.{Held}
use Rattle.rg_verify_expressions.specs.declared.held.Held.TheVariants as held
use Rattle.rg_verify_expressions.specs.declared.refusal.Refusal.{Refusal}
use Rattle.rg_verify_expressions.specs.declared.refusal.Refusal.TheVariants as refusal
use Rattle.rg_verify_expressions.specs.Raised.{Raised, element, named, path_named}
use Rattle.rg_verify_expressions.specs.Raising.{Item, tree, checked, indexed, from_checked, from_index, from_place}
use Rattle.rg_verify_expressions.specs.Rows.{IsPath, IsTree}
use Rattle.rg_verify_expressions.specs.Inner.Adds.{IsExprRow}
use Rattle.rg_verify_expressions.specs.Inner.Stacks.{is_path, IsFor, Piled, Makes, TakesRow, TakesPath, TakesChecked, TakesPlace, Pushes}
use Rattle.rg_verify_expressions.proofs.TreeStack.{piled-later, piled-push, piled-pop, piled-none}
use Rattle.rg_verify_expressions.proofs.Put.{Puts}
use Rattle.rg_verify_expressions.proofs.Path.{PathRow}

module _ (t : Tables) (m : Truth) (news : List Held) (items : List Item) where
  -- the topmost item, a path that was tested or a place

  pub takes-no-checked : (hs : List Held) → length hs ≡ 0 → Piled t m hs items → TakesChecked t m news items (Err refusal.NotRaised)
  takes-no-checked hs e p = rw (piled-none t m hs items e p) tt

  pub takes-no-place : (hs : List Held) → length hs ≡ 0 → Piled t m hs items → TakesPlace t m news items (Err refusal.NotRaised)
  takes-no-place hs e p = rw (piled-none t m hs items e p) tt

  pub takes-checked : (hs : List Held) (p : row_path.Path) → hs ≡ news ++ held.Checked p ∷ [] → Piled t m hs items
      → TakesChecked t m news items (Ok p)
  takes-checked hs p e q =
      let (x, xs, same, is, below) = piled-pop t m hs news (held.Checked p) items e q in
      rw same (by x xs is below)
    where
      by : (x : Item) (xs : List Item) → IsFor t m (held.Checked p) x → Piled t m news xs → TakesChecked t m news (x ∷ xs) (Ok p)
      by (checked s ks) xs is below = (is, below)
      by x xs is below = absurd is

  pub takes-other-checked : (hs : List Held) (h : Held) → hs ≡ news ++ h ∷ [] → ((p : row_path.Path) → h ≡ held.Checked p → ⊥) → Piled t m hs items
      → TakesChecked t m news items (Err refusal.NotRaised)
  takes-other-checked hs h e other q =
      let (x, xs, same, is, below) = piled-pop t m hs news h items e q in
      rw same (by h x xs other is)
    where
      by : (h : Held) (x : Item) (xs : List Item) → ((p : row_path.Path) → h ≡ held.Checked p → ⊥) → IsFor t m h x
          → TakesChecked t m news (x ∷ xs) (Err refusal.NotRaised)
      by (held.Checked p) (checked s ks) xs other is = absurd (other p refl)
      by h (checked s ks) xs other is = absurd is
      by h x xs other is = tt

  pub takes-place : (hs : List Held) (p : row_path.Path) (n : ℕ) → hs ≡ news ++ held.Indexed p n ∷ [] → Piled t m hs items
      → TakesPlace t m news items (Ok (p, n))
  takes-place hs p n e q =
      let (x, xs, same, is, below) = piled-pop t m hs news (held.Indexed p n) items e q in
      rw same (by x xs is below)
    where
      by : (x : Item) (xs : List Item) → IsFor t m (held.Indexed p n) x → Piled t m news xs → TakesPlace t m news (x ∷ xs) (Ok (p, n))
      by (indexed s ks a) xs (is, index) below = (is, index, below)
      by x xs is below = absurd is

  pub takes-other-place : (hs : List Held) (h : Held) → hs ≡ news ++ h ∷ [] → ((p : row_path.Path) (n : ℕ) → h ≡ held.Indexed p n → ⊥)
      → Piled t m hs items → TakesPlace t m news items (Err refusal.NotRaised)
  takes-other-place hs h e other q =
      let (x, xs, same, is, below) = piled-pop t m hs news h items e q in
      rw same (by h x xs other is)
    where
      by : (h : Held) (x : Item) (xs : List Item) → ((p : row_path.Path) (n : ℕ) → h ≡ held.Indexed p n → ⊥) → IsFor t m h x
          → TakesPlace t m news (x ∷ xs) (Err refusal.NotRaised)
      by (held.Indexed p n) (indexed s ks a) xs other is = absurd (other p n refl)
      by h (indexed s ks a) xs other is = absurd is
      by h x xs other is = tt

-- a path is tested
module _ (t u : Tables) (m : Truth) (now : List Held) (items : List Item) (s : ℕ) (ns : Vec ℕ Global) (taken : TakesPath t m now items (Ok (s, ns)))
    (p : row_path.Path) {fields : List ℕ} (same_fields : fields ≡ ns.items) (row_made : PathRow t u m s fields p) where
  pub check-put : (news : List Held) (result : Result (Unit {0}) Refusal) → Pushes now news (held.Checked p) result
      → Makes t u m news result (from_checked items)
  check-put news result pushed =
      let (ks, below, same, names, rest) = taken in
      let made = subst (λ (xs : List ℕ). PathRow t u m s xs p) same_fields row_made ks names in
      subst (λ (xs : List Item). Makes t u m news result (from_checked xs)) (sym same) (by ks below made.extends made.means rest result pushed)
    where
      by : (ks : List ℕ) (below : List Item) → Extends t u → IsPath u p (path_named m s ks) → Piled t m now below
          → (result : Result (Unit {0}) Refusal) → Pushes now news (held.Checked p) result → Makes t u m news result (Some (checked s ks ∷ below))
      by ks below g is rest (Ok done) pushed = record {
        extends = g;
        piled = piled-push u m now news (held.Checked p) below (checked s ks) pushed is (piled-later m now below g rest);
      }
      by ks below g is rest (Err refusal.NotRaised) pushed = absurd pushed
      by ks below g is rest (Err refusal.Memory) pushed = tt

-- an index is tested
module _ (t u : Tables) (m : Truth) (now next : List Held) (items : List Item) (n : ℕ) (taken : TakesRow t u m now items (Ok n)) where
  -- the array beneath, once the index was taken
  abbrev pub Beneath : Result row_path.Path Refusal → Type 0
  Beneath result = (below : List Item) → Piled u m now below → TakesChecked u m next below result

  pub bound-put : (p : row_path.Path) → Beneath (Ok p) → (news : List Held) (result : Result (Unit {0}) Refusal)
      → Pushes next news (held.Indexed p n) result → Makes t u m news result (from_index items)
  bound-put p checks news result pushed = by items taken result pushed
    where
      by : (items : List Item) → TakesRow t u m now items (Ok n) → (result : Result (Unit {0}) Refusal) → Pushes next news (held.Indexed p n) result
          → Makes t u m news result (from_index items)
      by (tree a ∷ checked s ks ∷ below) (made, rest) (Ok done) pushed =
          let (is, under) = checks (checked s ks ∷ below) rest in
          record {
            extends = made.extends;
            piled = piled-push u m next news (held.Indexed p n) below (indexed s ks a) pushed (is, made.means) under;
          }
      by (tree a ∷ checked s ks ∷ below) (made, rest) (Err refusal.NotRaised) pushed = absurd pushed
      by (tree a ∷ checked s ks ∷ below) (made, rest) (Err refusal.Memory) pushed = tt
      by (tree a ∷ below) (made, rest) result pushed = absurd (checks below rest)
      by items taken result pushed = absurd taken

  pub bound-refused : (e : Refusal) → Beneath (Err e) → Makes t u m next (Err e) (from_index items)
  bound-refused e checks = by items taken e checks
    where
      by : (items : List Item) → TakesRow t u m now items (Ok n) → (e : Refusal) → Beneath (Err e) → Makes t u m next (Err e) (from_index items)
      by (tree a ∷ checked s ks ∷ below) (made, rest) refusal.NotRaised checks = absurd (checks (checked s ks ∷ below) rest)
      by (tree a ∷ checked s ks ∷ below) (made, rest) refusal.Memory checks = tt
      by (tree a ∷ below) (made, rest) refusal.NotRaised checks = refl
      by (tree a ∷ below) (made, rest) refusal.Memory checks = tt
      by items taken e checks = absurd taken

-- the element of a place
module _ (t : Tables) (m : Truth) (now : List Held) (items : List Item) (p : row_path.Path) (n : ℕ) where
  pub element-there : TakesPlace t m now items (Ok (p, n)) → IsExprRow t (row.At p n)
  element-there taken = by items taken
    where
      by : (items : List Item) → TakesPlace t m now items (Ok (p, n)) → IsExprRow t (row.At p n)
      by (indexed s ks a ∷ below) (is, index, rest) = (is.there t (Keeps-same t), index.there t (Keeps-same t))
      by items taken = absurd taken

  element-is : (s : ℕ) (ks : List ℕ) (a : Raised) → IsPath t p (path_named m s ks) → IsTree t n (named m a)
      → expr_of t (row.At p n) ≡ named m (element s ks a)
  element-is s ks a is index =
      let e = is.is t (Keeps-same t) in
      let f = index.is t (Keeps-same t) in
      ap (λ (q : syntax.Path). syntax.element q (expr_at t n)) e ∙ ap (λ (b : syntax.Expr). syntax.element (path_named m s ks) b) f

  pub element-tree : TakesPlace t m now items (Ok (p, n)) → (r : Raised) × (expr_of t (row.At p n) ≡ named m r) × (is_path r ≡ false)
  element-tree taken = by items taken
    where
      by : (items : List Item) → TakesPlace t m now items (Ok (p, n)) → (r : Raised) × (expr_of t (row.At p n) ≡ named m r) × (is_path r ≡ false)
      by (indexed s ks a ∷ below) (is, index, rest) = (element s ks a, element-is s ks a is index, refl)
      by items taken = absurd taken

  pub element-pile : TakesPlace t m now items (Ok (p, n)) → (below : List Item) × Piled t m now below
  element-pile taken = by items taken
    where
      by : (items : List Item) → TakesPlace t m now items (Ok (p, n)) → (below : List Item) × Piled t m now below
      by (indexed s ks a ∷ below) (is, index, rest) = (below, rest)
      by items taken = absurd taken

  pub element-put : (u : Tables) (news : List Held) (end : ℕ) (result : Result (Unit {0}) Refusal) → TakesPlace t m now items (Ok (p, n))
      → Puts t u m now news end (row.At p n) result → Makes t u m news result (from_place end items)
  element-put u news end result taken puts = by items taken
    where
      by : (items : List Item) → TakesPlace t m now items (Ok (p, n)) → Makes t u m news result (from_place end items)
      by (indexed s ks a ∷ below) (is, index, rest) = puts below (element s ks a) rest (element-is s ks a is index) refl
      by items taken = absurd taken

pub element-refused : (t : Tables) (m : Truth) (now : List Held) (items : List Item) (e : Refusal) (end : ℕ) → TakesPlace t m now items (Err e)
    → Makes t t m now (Err e) (from_place end items)
element-refused t m now (indexed s ks a ∷ below) refusal.NotRaised end taken = absurd taken
element-refused t m now (indexed s ks a ∷ below) refusal.Memory end taken = absurd taken
element-refused t m now items refusal.NotRaised end taken = refl
element-refused t m now items refusal.Memory end taken = absurd taken
