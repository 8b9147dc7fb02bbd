-- The steps that lead through fields, once their paths are followed.
use Rattle.std.proofs.Common.{◌≡◌, ℕ, List, ◌∷◌, slice_get, Some, Ok, refl, sym, ◌∙◌, ap, subst}
use Rattle.rg_base.specs.declared.object.Seen.{Seen}
use Rattle.rg_base.specs.declared.value.Val.TheVariants.{Obj}
use Rattle.rg_tree.specs.declared.rows.Path as row_path
use Rattle.rg_tree.specs.Tree.{Name, Variable, Path, Class, stmt, swap}
use Rattle.rg_tree.specs.Rows.Tables.{Tables, name_at}
use Rattle.rg_tree.specs.Rows.RowTrees.{classes_of, path_of, stmt_at}
use Rattle.rg_rules.specs.Paths.{all_but_last, last_field}
use Rattle.rg_rules.specs.Items.{Do}
use Rattle.rg_rules.specs.State.{State, locals_of, value_in, put_local}
use Rattle.rg_rules.specs.Evaluation.{object_at, field_value, follow_fields}
use Rattle.rg_rules.specs.Steps.{Went, next, stepped, put_field, step_swap}
use Rattle.rg_store.specs.declared.objects.ObjectRow.{ObjectRow}
use Rattle.rg_store.specs.Shown.{store_of}
use Rattle.rg_values.specs.declared.state.rows.ItemRow.{ItemRow}
use Rattle.rg_values.specs.declared.state.rows.LocalRow.{LocalRow}
use Rattle.rg_values.specs.declared.values.paths.Spot.{Spot}
use Rattle.rg_values.specs.declared.values.paths.Spot.TheVariants as spot
use Rattle.rg_values.specs.Kept.{Kept, plain_of, shown as items_shown}
use Rattle.rg_values.specs.Shown as shown
use Rattle.rg_values.specs.Spots.{SpotIs, IsField}
use Rattle.rg_statements.specs.Inner.Swaps.{exchanged}
use Rattle.rg_statements.proofs.Step.{next-at}

-- a path that names a field
pub field-spot : (t : Tables) (store rows : List ObjectRow) (held locals : List LocalRow) (p : Path) (at : Spot) (a name : ℕ) →
    at ≡ spot.Field a name → store ≡ rows → held ≡ locals → SpotIs t (store_of store) (shown.locals_of t held) p (Ok at) →
    IsField t (store_of rows) (shown.locals_of t locals) p a name
field-spot t store rows held locals p at a name at_is store_is held_is is =
    let P : List ObjectRow → List LocalRow → Spot → Type 0 = λ os ls q. SpotIs t (store_of os) (shown.locals_of t ls) p (Ok q) in
    subst (λ os. P os locals (spot.Field a name)) store_is
    (subst (λ ls. P store ls (spot.Field a name)) held_is (subst (λ q. P store held q) at_is is))

swap-fields : (cs : List Class) (s : State) (y x : Variable) (f : Name) (fs : List Name) (a : ℕ) (o : Seen) (n : Name) →
    follow_fields cs s.store (value_in (locals_of s) x) (all_but_last f fs) ≡ Ok (Obj a) → slice_get s.store a ≡ Some o → last_field f fs ≡ n →
    step_swap cs s y x (f ∷ fs) ≡ Ok (put_local y (put_field cs (Obj a) n s (value_in (locals_of s) y)) (field_value cs o n))
swap-fields cs s y x f fs a o n followed there last = rw (step_swap, followed, object_at, there, last) refl

-- the whole step of a swap
pub swap-step : (t : Tables) (k : Kept) (input : List ℕ) (number line name : ℕ) (p : row_path.Path) (a field : ℕ)
    (o : Seen) (items : List ItemRow) (new : State) →
    IsField t k.store (shown.locals_of t k.frame.locals) (path_of t p) a field → slice_get k.store a ≡ Some o →
    items_shown t k.items ≡ Do (stmt_at t number) ∷ items_shown t items → stmt_at t number ≡ stmt line (swap (name_at t name) (path_of t p)) →
    new ≡ exchanged t (plain_of t (record k { items = items }) input) (name_at t name) a o (name_at t field) →
    next (classes_of t) (plain_of t k input) ≡ Went new
swap-step t k input number line name p a field o items new is there shown_is tree new_is =
    let s = plain_of t (record k { items = items }) input in
    next-at t (classes_of t) k input number line (swap (name_at t name) (path_of t p)) (items_shown t items) shown_is tree
    ∙ ap (stepped line) (ap (step_swap (classes_of t) s (Some (name_at t name)) (path_of t p).base) is.fields_are
    ∙ swap-fields (classes_of t) s (Some (name_at t name)) (path_of t p).base is.first is.others a o (name_at t field) is.followed there is.last)
    ∙ ap Went (sym new_is)
