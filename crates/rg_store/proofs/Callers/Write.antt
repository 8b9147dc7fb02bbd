-- Writes to objects, as they are shown.
use Rattle.std.proofs.Common.{◌≡◌, ℕ, zero, suc, ◌<◌, List, [], ◌∷◌, length, get_or, slice_get, slice_set, Some, refl, sym, ◌∙◌, ap, arith}
use Rattle.std.proofs.lemmas.List.{map-set}
use Rattle.std.proofs.lemmas.List.Elements.{All-cons, All-head, All-tail}
use Rattle.std.proofs.lemmas.Option.{same_Some}
use Rattle.rg_base.specs.declared.object.Seen.{Seen}
use Rattle.rg_base.specs.declared.value.Val.{Val}
use Rattle.rg_base.specs.declared.value.Val.TheVariants.{Obj}
use Rattle.rg_rules.specs.Steps.{put_field, put_element}
use Rattle.rg_rules.specs.State.{State}
use Rattle.rg_rules.specs.Evaluation.{with_field, with_element}
use Rattle.rg_tree.specs.Tree.{Name, Class}
use Rattle.rg_tree.specs.Rows.Tables.{Tables}
use Rattle.rg_tree.specs.Rows.RowTrees.{classes_of}
use Rattle.rg_store.specs.declared.objects.ObjectRow.{ObjectRow}
use Rattle.rg_store.specs.Read.{with_value_at}
use Rattle.rg_store.specs.Shown.{seen_of, store_of, AreOfClasses}

-- the object at a place, as it is read
pub object-there : (store : List ObjectRow) (k : ℕ) (d : ObjectRow) (o : Seen) → k < length store → slice_get (store_of store) k ≡ Some o →
    seen_of (get_or store k d) ≡ o
object-there [] k d o within there = absurd (omega arith)
object-there (r ∷ rows) zero d o within there = same_Some (seen_of r) o there
object-there (r ∷ rows) (suc k) d o within there = object-there rows k d o (omega arith) there

-- the object at a place within the store
pub some-object : (store : List ObjectRow) (k : ℕ) → k < length store → (o : Seen) × (slice_get (store_of store) k ≡ Some o)
some-object [] k within = absurd (omega arith)
some-object (r ∷ rows) zero within = (seen_of r, refl)
some-object (r ∷ rows) (suc k) within = some-object rows k (omega arith)

-- the object at a place was written
pub store_of-set : (store : List ObjectRow) (k : ℕ) (d new : ObjectRow) (change : Seen → Seen) (o : Seen) → k < length store →
    seen_of new ≡ change (seen_of (get_or store k d)) → slice_get (store_of store) k ≡ Some o →
    store_of (slice_set store k new) ≡ slice_set (store_of store) k (change o)
store_of-set store k d new change o within new_is there =
    map-set seen_of store k new ∙ ap (slice_set (store_of store) k) (new_is ∙ ap change (object-there store k d o within there))

-- the state after a write to the object at a place
put_field-there : (cs : List Class) (s : State) (a : ℕ) (x : Name) (v : Val) (o : Seen) (store : List Seen) → slice_get s.store a ≡ Some o →
    store ≡ slice_set s.store a (with_field cs x v o) → record s { store = store } ≡ put_field cs (Obj a) x s v
put_field-there cs s a x v o store there is = rw (put_field, there, is) refl

pub put_field-written : (cs : List Class) (s : State) (a : ℕ) (x : Name) (v : Val) (mid rows : List ObjectRow) (new : List Seen) →
    mid ≡ rows → s.store ≡ store_of rows → a < length rows →
    ((o : Seen) → slice_get (store_of mid) a ≡ Some o → new ≡ slice_set (store_of mid) a (with_field cs x v o)) →
    record s { store = new } ≡ put_field cs (Obj a) x s v
put_field-written cs s a x v mid rows new mid_is store_is within written =
    let same : s.store ≡ store_of mid = store_is ∙ ap store_of (sym mid_is) in
    let some = some-object mid a (omega (arith, ap length mid_is)) in
    put_field-there cs s a x v some.0 new (ap (λ q. slice_get q a) same ∙ some.1)
    (written some.0 some.1 ∙ ap (λ q. slice_set q a (with_field cs x v some.0)) (sym same))

put_element-there : (s : State) (a k : ℕ) (v : Val) (o : Seen) (store : List Seen) → slice_get s.store a ≡ Some o →
    store ≡ slice_set s.store a (with_element k v o) → record s { store = store } ≡ put_element (Obj a) k s v
put_element-there s a k v o store there is = rw (put_element, there, is) refl

pub put_element-written : (s : State) (a k : ℕ) (v : Val) (mid rows : List ObjectRow) (new : List Seen) →
    mid ≡ rows → s.store ≡ store_of rows → a < length rows →
    ((o : Seen) → slice_get (store_of mid) a ≡ Some o → new ≡ slice_set (store_of mid) a (with_value_at k v o)) →
    record s { store = new } ≡ put_element (Obj a) k s v
put_element-written s a k v mid rows new mid_is store_is within written =
    let same : s.store ≡ store_of mid = store_is ∙ ap store_of (sym mid_is) in
    let some = some-object mid a (omega (arith, ap length mid_is)) in
    put_element-there s a k v some.0 new (ap (λ q. slice_get q a) same ∙ some.1)
    (written some.0 some.1 ∙ ap (λ q. slice_set q a (with_element k v some.0)) (sym same))

-- an object at a place was written that kept its class
pub AreOfClasses-set : (t : Tables) (store : List ObjectRow) (k : ℕ) (d o : ObjectRow) → k < length store → o.class ≡ (get_or store k d).class →
    AreOfClasses t store → AreOfClasses t (slice_set store k o)
AreOfClasses-set t [] k d o within same all = all
AreOfClasses-set t (r ∷ rows) zero d o within same all =
    let P : ObjectRow → Type 0 = λ q. q.class < length (classes_of t) in
    All-cons P o rows (rw same (All-head P r rows all)) (All-tail P r rows all)
AreOfClasses-set t (r ∷ rows) (suc k) d o within same all =
    let P : ObjectRow → Type 0 = λ q. q.class < length (classes_of t) in
    All-cons P r (slice_set rows k o) (All-head P r rows all) (AreOfClasses-set t rows k d o (omega arith) same (All-tail P r rows all))

-- the same, of the row that is read
pub seen-there : (store : List ObjectRow) (k : ℕ) (r : ObjectRow) (o : Seen) → k < length store → r ≡ get_or store k r →
    slice_get (store_of store) k ≡ Some o → seen_of r ≡ o
seen-there store k r o within is there = ap seen_of is ∙ object-there store k r o within there
