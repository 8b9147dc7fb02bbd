-- Paths that are held, and what is asked of them.
use Rattle.std.proofs.Common.{◌≡◌, ℕ, Bool as Truth, false, List, [], ◌∷◌, ◌++◌, map, length, Some, None, Result, Ok, Err, Vec}
use Rattle.std.proofs.Common.{refl, sym, ap, subst, ◌∙◌}
use Rattle.std.proofs.lemmas.List.{map-append}
use Rattle.std.specs.declared.alloc.Global.{Global}
use Rattle.rg_tree.specs.declared.rows.Path as row_path
use Rattle.rg_tree.specs.Tree as syntax
use Rattle.rg_tree.specs.Tree.{Name}
use Rattle.rg_tree.specs.Rows.Tables.{Tables, name_at}
use Rattle.rg_tree.specs.Rows.RowTrees.{expr_of, path_of}
use Rattle.rg_tree.specs.Rows.RowsExist.{IsNameIn, IsPathIn}
use Rattle.rg_tree.proofs.Callers.{Keeps-same}
use Rattle.rg_tree.specs.Adds.{Extends, Adds}
use Rattle.rg_tree.proofs.Adding.{extends-trans}
use Rattle.rg_verify_expressions.specs.Naming.{field_name}
use Rattle.rg_verify_expressions.specs.declared.held.Held.{Held}
use Rattle.rg_verify_expressions.specs.declared.held.Held.TheVariants as held
use Rattle.rg_verify_expressions.specs.declared.refusal.Refusal.{Refusal}
use Rattle.rg_verify_expressions.specs.declared.refusal.Refusal.TheVariants as refusal
use Rattle.rg_verify_expressions.specs.declared.stack.Query.{Query}
use Rattle.rg_verify_expressions.specs.declared.stack.Query.TheVariants as query
use Rattle.rg_verify_expressions.specs.Raised.{Raised, named, path, path_named}
use Rattle.rg_verify_expressions.specs.Raising.{Item, tree, settle, from_path, from_checked}
use Rattle.rg_verify_expressions.specs.Rows.{AreNames}
use Rattle.rg_verify_expressions.specs.Inner.Adds.{AddsTree, IsExprRow}
use Rattle.rg_verify_expressions.specs.Inner.Unaries.{tree_on, row_on}
use Rattle.rg_verify_expressions.specs.Inner.Stacks.{is_path, IsFor, Piled, Makes, TakesPath}
use Rattle.rg_verify_expressions.proofs.Row.{names-none, names-push}
use Rattle.rg_verify_expressions.proofs.TreeStack.{piled-later, piled-pop, piled-none}
use Rattle.rg_verify_expressions.proofs.Put.{Settles, makes-behind}

-- The topmost path

module _ (t : Tables) (m : Truth) (news : List Held) (items : List Item) where
  pub takes-no-path : (hs : List Held) → length hs ≡ 0 → Piled t m hs items → TakesPath t m news items (Err refusal.NotRaised)
  takes-no-path hs e p = rw (piled-none t m hs items e p) (refl, λ f end. refl)

  pub takes-path : (hs : List Held) (s : ℕ) (ns : Vec ℕ Global) → hs ≡ news ++ held.Path s ns ∷ [] → Piled t m hs items
      → TakesPath t m news items (Ok (s, ns))
  takes-path hs s ns e p =
      let (x, xs, same, is, below) = piled-pop t m hs news (held.Path s ns) items e p in
      by x xs same is below
    where
      by : (x : Item) (xs : List Item) → items ≡ x ∷ xs → IsFor t m (held.Path s ns) x → Piled t m news xs
          → TakesPath t m news items (Ok (s, ns))
      by (tree r) xs same (ks, f, names) below = (ks, xs, same ∙ ap (λ (a : Raised). tree a ∷ xs) f, names, below)
      by x xs same is below = absurd is

  -- what isn't held as a path is none
  abbrev NoPath : List Item → Type 0
  NoPath xs = (from_checked xs ≡ None) × ((f : ℕ → List ℕ → Raised) (end : ℕ) → from_path f end xs ≡ None)

  no-path : (h : Held) (x : Item) (xs : List Item) → ((s : ℕ) (ns : Vec ℕ Global) → h ≡ held.Path s ns → ⊥) → IsFor t m h x → NoPath (x ∷ xs)
  no-path (held.Path s ns) x xs other is = absurd (other s ns refl)
  no-path (held.Tree n) (tree r) xs other (means, not_path) = of r not_path
    where
      of : (r : Raised) → is_path r ≡ false → NoPath (tree r ∷ xs)
      of (path s ks) e = absurd cc
      of r e = (refl, λ f end. refl)
  no-path h (tree r) xs other is = absurd is
  no-path h x xs other is = (refl, λ f end. refl)

  pub takes-other : (hs : List Held) (h : Held) → hs ≡ news ++ h ∷ [] → ((s : ℕ) (ns : Vec ℕ Global) → h ≡ held.Path s ns → ⊥) → Piled t m hs items
      → TakesPath t m news items (Err refusal.NotRaised)
  takes-other hs h e other p =
      let (x, xs, same, is, below) = piled-pop t m hs news h items e p in
      rw same (no-path h x xs other is)

-- a variable is held
pub for-variable : (t : Tables) (m : Truth) (s : ℕ) (ns : Vec ℕ Global) → ns.items ≡ [] → IsFor t m (held.Path s ns) (tree (path s []))
for-variable t m s ns e = ([], refl, rw e (names-none t))

-- a path goes on by a field
pub fields-more : {t u : Tables} {n : ℕ} (ns ms : List ℕ) (ks : List ℕ) (k : ℕ) → AreNames t ns (map field_name ks)
    → Adds name_at IsNameIn t u n (field_name k) → ms ≡ ns ++ n ∷ [] → AreNames u ms (map field_name (ks ++ k ∷ []))
fields-more {u = u} {n = n} ns ms ks k names put e =
    subst (λ (xs : List Name). AreNames u ms xs) (sym (map-append field_name ks (k ∷ [])))
    (subst (λ (ys : List ℕ). AreNames u ys (map field_name ks ++ field_name k ∷ [])) (sym e) (names-push names put))

module _ (t u : Tables) (m : Truth) (now : List Held) (items : List Item) (s : ℕ) (ns : Vec ℕ Global)
    (taken : TakesPath t m now items (Ok (s, ns))) where
  module _ {n : ℕ} (k : ℕ) (ms : Vec ℕ Global) (put : Adds name_at IsNameIn t u n (field_name k)) (more : ms.items ≡ ns.items ++ n ∷ []) where
    pub field-tree : (r : Raised) × IsFor u m (held.Path s ms) (tree r)
    field-tree =
        let (ks, below, same, names, p) = taken in
        (path s (ks ++ k ∷ []), (ks ++ k ∷ [], refl, fields-more ns.items ms.items ks k names put more))

    pub field-put : (v : Tables) (news : List Held) (end : ℕ) (result : Result (Unit {0}) Refusal)
        → Settles u v m now news end (held.Path s ms) result
        → Makes t v m news result (from_path (λ s ks. path s (ks ++ k ∷ [])) end items)
    field-put v news end result h =
        let (ks, below, same, names, p) = taken in
        subst (λ (xs : List Item). Makes t v m news result (from_path (λ s ks. path s (ks ++ k ∷ [])) end xs)) (sym same)
        (makes-behind v m news result (Some (settle end (path s (ks ++ k ∷ [])) below)) put.extends
        (h below (path s (ks ++ k ∷ [])) (piled-later m now below put.extends p)
        (ks ++ k ∷ [], refl, fields-more ns.items ms.items ks k names put more)))

  pub taken-pile : Extends t u → (below : List Item) × Piled u m now below
  taken-pile g = let (ks, below, same, names, p) = taken in (below, piled-later m now below g p)

-- a path's row, for each list of fields that its names stand for
abbrev pub PathRow : (t u : Tables) → Truth → (s : ℕ) → List ℕ → row_path.Path → Type 0
PathRow t u m s ns p = (ks : List ℕ) → AreNames t ns (map field_name ks) → Adds path_of IsPathIn t u p (path_named m s ks)

module _ (t u : Tables) (m : Truth) (s : ℕ) (ns : Vec ℕ Global) (p : row_path.Path) (made : PathRow t u m s ns.items p) where
  pub path-there : (x : Item) → IsFor t m (held.Path s ns) x → IsPathIn u p
  path-there (tree r) (ks, e, names) = (made ks names).means.there u (Keeps-same u)
  path-there x is = absurd is

-- what is asked of a path
module _ (q : Query) (t u v : Tables) (m : Truth) (now : List Held) (items : List Item) (s : ℕ) (ns : Vec ℕ Global)
    (taken : TakesPath t m now items (Ok (s, ns)))
    (p : row_path.Path) {fields : List ℕ} (same_fields : fields ≡ ns.items) (row_made : PathRow t u m s fields p) where
  row-there : PathRow t u m s ns.items p
  row-there = subst (λ (xs : List ℕ). PathRow t u m s xs p) same_fields row_made

  path-in : IsPathIn u p
  path-in = let (ks, below, same, names, rest) = taken in (row-there ks names).means.there u (Keeps-same u)

  pub query-there : IsExprRow u (row_on q p)
  query-there = by q
    where
      by : (q : Query) → IsExprRow u (row_on q p)
      by query.IsNil = path-in
      by query.Size = path-in

  query-is : (ks : List ℕ) → AreNames t ns.items (map field_name ks) → expr_of u (row_on q p) ≡ named m (tree_on q s ks)
  query-is ks names = by q
    where
      by : (q : Query) → expr_of u (row_on q p) ≡ named m (tree_on q s ks)
      by query.IsNil = ap syntax.is_nil ((row-there ks names).means.is u (Keeps-same u))
      by query.Size = ap syntax.size ((row-there ks names).means.is u (Keeps-same u))

  query-no-path : (ks : List ℕ) → is_path (tree_on q s ks) ≡ false
  query-no-path ks = by q
    where
      by : (q : Query) → is_path (tree_on q s ks) ≡ false
      by query.IsNil = refl
      by query.Size = refl

  module _ {n : ℕ} (put : AddsTree u v n (expr_of u (row_on q p))) where
    pub query-pile : (below : List Item) × Piled v m now below
    query-pile =
        let (ks, below, same, names, rest) = taken in
        (below, piled-later m now below (extends-trans (row-there ks names).extends put.extends) rest)

    pub query-tree : (r : Raised) × IsFor v m (held.Tree n) (tree r)
    query-tree =
        let (ks, below, same, names, rest) = taken in
        (tree_on q s ks, (record { is = λ w k. put.means.is w k ∙ query-is ks names; there = put.means.there }, query-no-path ks))

    pub query-put : (w : Tables) (news : List Held) (end : ℕ) (result : Result (Unit {0}) Refusal) → Settles v w m now news end (held.Tree n) result
        → Makes t w m news result (from_path (tree_on q) end items)
    query-put w news end result h =
        let (ks, below, same, names, rest) = taken in
        let g = extends-trans (row-there ks names).extends put.extends in
        subst (λ (xs : List Item). Makes t w m news result (from_path (tree_on q) end xs)) (sym same)
        (makes-behind w m news result (Some (settle end (tree_on q s ks) below)) g
        (h below (tree_on q s ks) (piled-later m now below g rest)
        (record { is = λ w k. put.means.is w k ∙ query-is ks names; there = put.means.there }, query-no-path ks)))
