-- The steps that open windows.
use Rattle.std.proofs.Common.{◌≡◌, ℕ, ◌<◌, List, ◌∷◌, length, slice_get, Option, Some, Ok, Err, ok_or, refl, sym, ◌∙◌, ap}
use Rattle.rg_base.specs.declared.object.Seen.{Seen}
use Rattle.rg_base.specs.declared.object.Place.{Place}
use Rattle.rg_base.specs.declared.value.Val.{Val}
use Rattle.rg_base.specs.declared.value.Val.TheVariants.{Obj}
use Rattle.rg_base.specs.declared.outcome.Trap.{Trap}
use Rattle.rg_base.specs.declared.outcome.Trap.TheVariants as trap
use Rattle.rg_tree.specs.declared.rows.Path as row_path
use Rattle.rg_tree.specs.Tree.{Name, Block, stmt, enter}
use Rattle.rg_tree.specs.Rows.Tables.{Tables}
use Rattle.rg_tree.specs.Rows.RowTrees.{classes_of, path_of, stmt_at}
use Rattle.rg_rules.specs.Items.{Item, Do, leave_of}
use Rattle.rg_rules.specs.State.{State}
use Rattle.rg_rules.specs.Regions.{region_of}
use Rattle.rg_rules.specs.Evaluation.{object_at}
use Rattle.rg_rules.specs.Steps.{Went, Trapped, next, stepped, entered, with_window}
use Rattle.rg_store.specs.declared.objects.ObjectRow.{ObjectRow}
use Rattle.rg_store.specs.Shown.{store_of}
use Rattle.rg_store.proofs.Callers.Write.{some-object}
use Rattle.rg_values.specs.declared.refusal.Refusal.{Refusal}
use Rattle.rg_values.specs.declared.refusal.Refusal.TheVariants as refused
use Rattle.rg_statements.specs.declared.enter.Owner.{Owner}
use Rattle.rg_values.specs.declared.state.rows.ItemRow.{ItemRow}
use Rattle.rg_values.specs.Kept.{Kept, plain_of, shown}
use Rattle.rg_values.specs.Steps.{Refuses}
use Rattle.rg_statements.specs.Inner.Windows.{OwnerIs}
use Rattle.rg_statements.proofs.Step.{next-at}

-- an owner that isn't there
pub owner-refused : (t : Tables) (k : Kept) (input : List ℕ) (number line : ℕ) (p : row_path.Path) (z : Name) (body : Block) (giving : Option Name)
    (why : Refusal) (rest : List Item) →
    OwnerIs t k p (Err why) → shown t k.items ≡ Do (stmt_at t number) ∷ rest →
    stmt_at t number ≡ stmt line (enter (path_of t p) z body giving) →
    Refuses (next (classes_of t) (plain_of t k input)) (plain_of t k input) (plain_of t k input) line why
owner-refused t k input number line p z body giving (refused.Trap kind) rest is shown_is tree = (
  next-at t (classes_of t) k input number line (enter (path_of t p) z body giving) rest shown_is tree
      ∙ ap (stepped line) (is input rest line z body giving),
  refl,
)
owner-refused t k input number line p z body giving refused.Memory rest is shown_is tree = refl

entered-cut : (s : State) (owner : Place) (z : Name) (body : Block) (after : ℕ → Item) (bridge : Val) (kind : Trap) →
    object_at s.store bridge ≡ Err kind → entered s owner z body after bridge ≡ Err kind
entered-cut s owner z body after bridge kind cut = rw (entered, cut) refl

entered-at : (s : State) (owner : Place) (z : Name) (body : Block) (after : ℕ → Item) (bridge : Val) (o : Seen) (class : ℕ) (region : Option ℕ) →
    object_at s.store bridge ≡ Ok o → o.class ≡ class → region_of o.label ≡ region →
    entered s owner z body after bridge ≡ Ok (with_window s owner z body after bridge class region)
entered-at s owner z body after bridge o class region at class_is region_is =
    entered-object ∙ ap (λ c. Ok (with_window s owner z body after bridge c (region_of o.label))) class_is
    ∙ ap (λ r. Ok (with_window s owner z body after bridge class r)) region_is
  where
    entered-object : entered s owner z body after bridge ≡ Ok (with_window s owner z body after bridge o.class (region_of o.label))
    entered-object = rw (entered, at) refl

-- the owner leads to no object
pub enter-cut : (t : Tables) (k : Kept) (input : List ℕ) (number line : ℕ) (p : row_path.Path) (z : Name) (body : Block) (giving : Option Name)
    (w : Owner) (rest : List Item) (kind : Trap) →
    OwnerIs t k p (Ok w) → object_at k.store w.bridge ≡ Err kind → shown t k.items ≡ Do (stmt_at t number) ∷ rest →
    stmt_at t number ≡ stmt line (enter (path_of t p) z body giving) → next (classes_of t) (plain_of t k input) ≡ Trapped kind line
enter-cut t k input number line p z body giving w rest kind is cut shown_is tree =
    let s : State = record (plain_of t k input) { items = rest } in
    next-at t (classes_of t) k input number line (enter (path_of t p) z body giving) rest shown_is tree
    ∙ ap (stepped line) (is input rest line z body giving
    ∙ entered-cut s w.place z body (λ kept. leave_of line kept giving) w.bridge kind cut)

-- it leads to one
pub enter-at : (t : Tables) (k : Kept) (input : List ℕ) (number line : ℕ) (p : row_path.Path) (z : Name) (body : Block) (giving : Option Name)
    (w : Owner) (items : List ItemRow) (o : Seen) (class : ℕ) (region : Option ℕ) (new : State) →
    OwnerIs t k p (Ok w) → object_at k.store w.bridge ≡ Ok o → o.class ≡ class → region_of o.label ≡ region →
    shown t k.items ≡ Do (stmt_at t number) ∷ shown t items → stmt_at t number ≡ stmt line (enter (path_of t p) z body giving) →
    new ≡ with_window (plain_of t (record k { items = items }) input) w.place z body (λ kept. leave_of line kept giving) w.bridge class region →
    next (classes_of t) (plain_of t k input) ≡ Went new
enter-at t k input number line p z body giving w items o class region new is at class_is region_is shown_is tree new_is =
    let s = plain_of t (record k { items = items }) input in
    next-at t (classes_of t) k input number line (enter (path_of t p) z body giving) (shown t items) shown_is tree
    ∙ ap (stepped line) (is input (shown t items) line z body giving
    ∙ entered-at s w.place z body (λ kept. leave_of line kept giving) w.bridge o class region at class_is region_is)
    ∙ ap Went (sym new_is)

-- the object to which a value leads
pub record Found (rows again : List ObjectRow) (v : Val) (a : ℕ) : Type 0 where
  pub object : Seen
  pub at : object_at (store_of rows) v ≡ Ok object
  pub there : slice_get (store_of again) a ≡ Some object

pub found : (rows store again : List ObjectRow) (v : Val) (a : ℕ) → store ≡ rows → again ≡ rows → v ≡ Obj a → a < length store → Found rows again v a
found rows store again v a store_is again_is v_is within =
    let some = some-object store a within in
    let there : slice_get (store_of rows) a ≡ Some some.0 = ap (λ q. slice_get (store_of q) a) (sym store_is) ∙ some.1 in
    record {
      object = some.0;
      at = ap (object_at (store_of rows)) v_is ∙ ap (λ q. ok_or q trap.Nil) there;
      there = ap (λ q. slice_get (store_of q) a) again_is ∙ there;
    }
