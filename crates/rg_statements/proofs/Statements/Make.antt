-- New objects and arrays, by what the class table answers.
use Rattle.std.proofs.Common.{◌≡◌, ℕ, ◌<◌, List, [], ◌∷◌, ◌++◌, length, replicate, Option, Some, None, option_map, option_and_then, slice_get, Result}
use Rattle.std.proofs.Common.{Ok, Err, refl, sym, ◌∙◌, ap, arith, length-append}
use Rattle.rg_base.specs.declared.object.Label.{Label}
use Rattle.rg_base.specs.declared.outcome.Trap.{Trap}
use Rattle.rg_base.specs.declared.value.Val.{Val}
use Rattle.rg_base.specs.declared.value.Val.TheVariants.{Obj}
use Rattle.rg_base.specs.declared.words.Manager.{Manager}
use Rattle.rg_base.specs.declared.object.Seen.{Seen}
use Rattle.rg_tree.specs.Tree.{Name, Ty as Written, Expr, Class, stmt}
use Rattle.rg_tree.specs.Rows.Tables.{Tables, name_at}
use Rattle.rg_tree.specs.Rows.RowTrees.{classes_of, expr_at, stmt_at}
use Rattle.rg_rules.specs.Answers.{◌>>=◌}
use Rattle.rg_rules.specs.Types.{class_named, class_number}
use Rattle.rg_rules.specs.Items.{Item, Do}
use Rattle.rg_rules.specs.State.{Window, State, Target, active, locals_of}
use Rattle.rg_rules.specs.Evaluation.{value_of}
use Rattle.rg_rules.specs.Steps.{Went, Trapped, stepped, next}
use Rattle.rg_rules.specs.RightSides.{Use, made, opening_element, array_size, made_array, made_new, with_right}
use Rattle.rg_rules.proofs.Answers.{bind-ok}
use Rattle.rg_rules.proofs.Header.{class_number-at}
use Rattle.rg_names.specs.TreeAnswers.{class_place}
use Rattle.rg_store.specs.Shown.{object_of, opened_as, element_written, array_as}
use Rattle.rg_store.specs.Regions.{LabelFits}
use Rattle.rg_values.specs.declared.refusal.Refusal.{Refusal}
use Rattle.rg_values.specs.declared.refusal.Refusal.TheVariants as refused
use Rattle.rg_values.specs.declared.targets.Aim.{Aim}
use Rattle.rg_values.specs.declared.state.rows.ItemRow.{ItemRow}
use Rattle.rg_values.specs.declared.targets.Left.{Left}
use Rattle.rg_statements.specs.declared.new.Kind.{Kind}
use Rattle.rg_statements.specs.declared.new.Kind.TheVariants as kind
use Rattle.rg_statements.specs.declared.new.Made.{Made}
use Rattle.rg_values.specs.Shown as rows_shown
use Rattle.rg_values.specs.Steps.{Refuses}
use Rattle.rg_values.specs.Spots.{use_of, statement_of, AimIs}
use Rattle.rg_values.specs.Kept.{Kept, plain_of, shown}
use Rattle.rg_statements.specs.Inner.Makes.{with_object, right_by, right_of, label_of, use_with, managers_with, made_of, label_in, ObjectIs}
use Rattle.rg_statements.proofs.Step.{next-at}

some-number : (a b : ℕ) → Some a ≡ Some b → b ≡ a
some-number a b e = cc

made-found : (cs : List Class) (s : State) (put : Use) (x : Name) (label : Label) (class : ℕ) → Some class ≡ class_place cs x →
    made cs s put x label ≡ put (with_object s (opened_as cs class label)) (Obj (length s.store))
made-found cs s put x label class found = by (class_named cs x) refl found
  where
    by : (o : Option Class) → class_named cs x ≡ o → Some class ≡ option_map (λ c. class_number cs x) o →
        made cs s put x label ≡ put (with_object s (opened_as cs class label)) (Obj (length s.store))
    by None e f = cc
    by (Some c) e f =
        rw (made, e) (ap (λ n. put (with_object s (opened_as cs n label)) (Obj (length s.store))) (some-number class (class_number cs x) f))

-- the same of an array: its size is computed, and its elements start by the type of its class
abbrev array_by : List Class → State → Use → Expr → Label → (class : ℕ) → Option Written → Result State Trap
array_by cs s put e label class o = do
  v ← value_of cs s.store (locals_of s) e
  n ← array_size v
  Ok (put (with_object s (object_of class (replicate n (opening_element o)) label)) (Obj (length s.store)))

array-found : (cs : List Class) (s : State) (put : Use) (x : Name) (e : Expr) (label : Label) (class : ℕ) → Some class ≡ class_place cs x →
    made_array cs s put x e label ≡ array_by cs s put e label class (element_written cs class)
array-found cs s put x e label class found = by (class_named cs x) refl found
  where
    by : (o : Option Class) → class_named cs x ≡ o → Some class ≡ option_map (λ c. class_number cs x) o →
        made_array cs s put x e label ≡ array_by cs s put e label class (element_written cs class)
    by None n f = cc
    by (Some c) n f =
        let number = some-number class (class_number cs x) f in
        let is : made_array cs s put x e label ≡ array_by cs s put e label (class_number cs x) c.element = rw (made_array, n) refl in
        let element : element_written cs class ≡ c.element =
        ap (λ k. option_and_then (λ (d : Class). d.element) (slice_get cs k)) (sym number)
        ∙ ap (option_and_then (λ (d : Class). d.element)) (class_number-at cs x c n) in
        is ∙ ap (λ k. array_by cs s put e label k c.element) number ∙ ap (array_by cs s put e label class) (sym element)

-- what is done with what was made
abbrev given : (Seen → State) → Result Seen Trap → Result State Trap
given go (Ok o) = Ok (go o)
given go (Err trap) = Err trap

given-size : (r : Result ℕ Trap) (f : ℕ → Seen) (go : Seen → State) → ◌>>=◌ r (λ n. Ok (go (f n))) ≡ given go (◌>>=◌ r (λ n. Ok (f n)))
given-size (Ok n) f go = refl
given-size (Err trap) f go = refl

given-array : (a : Result Val Trap) (f : ℕ → Seen) (go : Seen → State) →
    ◌>>=◌ a (λ v. ◌>>=◌ (array_size v) (λ n. Ok (go (f n)))) ≡ given go (◌>>=◌ a (λ v. ◌>>=◌ (array_size v) (λ n. Ok (f n))))
given-array (Ok v) f go = given-size (array_size v) f go
given-array (Err trap) f go = refl

-- the right side by its parts
right-by : (t : Tables) (s : State) (to : Target) (a : Aim) (k : Kind) (x : Name) (size : Option Expr) →
    with_right (classes_of t) s to (use_of t a) (right_by k x size)
    ≡ made_new (classes_of t) s (use_with t a k) x size (label_of s.windows s.managers k)
right-by t s to a kind.Plain x size = refl
right-by t s to a kind.Temporary x size = refl
right-by t s to a (kind.Owner m) x size = refl

-- the state with these things to do
abbrev front_of : Tables → Kept → (input : List ℕ) → List Item → State
front_of t k input rest = record (plain_of t k input) { items = rest }

-- a class that is there
new-found : (t : Tables) (k : Kept) (input : List ℕ) (rest : List Item) (put : Use) (x : Name) (size : Option Expr) (label : Label) (class : ℕ) →
    Some class ≡ class_place (classes_of t) x →
    made_new (classes_of t) (front_of t k input rest) put x size label
    ≡ given (λ o. put (with_object (front_of t k input rest) o) (Obj (length k.store))) (made_of t k class label size)
new-found t k input rest put x None label class found = ap Ok (made-found (classes_of t) (front_of t k input rest) put x label class found)
new-found t k input rest put x (Some e) label class found =
    let s = front_of t k input rest in
    array-found (classes_of t) s put x e label class found
    ∙ given-array (value_of (classes_of t) s.store (locals_of s) e) (λ n. array_as (classes_of t) class n label)
    (λ o. put (with_object s o) (Obj (length k.store)))

use-managers : (t : Tables) (a : Aim) (k : Kind) (s : State) (v : Val) →
    use_of t a (record s { managers = managers_with k s.managers }) v ≡ use_with t a k s v
use-managers t a kind.Plain s v = refl
use-managers t a kind.Temporary s v = refl
use-managers t a (kind.Owner m) s v = refl

-- the object and its region were added, and the reference was put where it goes
pub made-as : (t : Tables) (k : Kept) (input : List ℕ) (a : Aim) (what : Kind) (o : Seen) (store : List Seen) (managers : List Manager) (n m : ℕ) →
    store ≡ k.store ++ o ∷ [] → managers ≡ managers_with what k.managers → n ≡ m →
    use_of t a (plain_of t (record k { store = store; managers = managers }) input) (Obj n)
    ≡ use_with t a what (with_object (plain_of t k input) o) (Obj m)
made-as t k input a what o store managers n m store_is managers_is number =
    ap (λ q. use_of t a (plain_of t (record k { store = q; managers = managers }) input) (Obj n)) store_is
    ∙ ap (λ q. use_of t a (plain_of t (record k { store = k.store ++ o ∷ []; managers = q }) input) (Obj n)) managers_is
    ∙ ap (λ q. use_of t a (plain_of t (record k { store = k.store ++ o ∷ []; managers = managers_with what k.managers }) input) (Obj q)) number
    ∙ use-managers t a what (with_object (plain_of t k input) o) (Obj m)

-- the whole step, up to what is made
new-step : (t : Tables) (k : Kept) (input : List ℕ) (number line : ℕ) (l : Left) (m : Made) (class : ℕ) (a : Aim) (rest : List Item)
    (r : Result Seen Trap) →
    AimIs t k l (Ok a) → shown t k.items ≡ Do (stmt_at t number) ∷ rest →
    stmt_at t number ≡ stmt line (statement_of t l (right_of t m)) → Some class ≡ class_place (classes_of t) (name_at t m.name) →
    made_of t k class (label_in t k m.kind) (option_map (expr_at t) m.size) ≡ r →
    next (classes_of t) (plain_of t k input)
    ≡ stepped line (given (λ o. use_with t a m.kind (with_object (front_of t k input rest) o) (Obj (length k.store))) r)
new-step t k input number line l m class a rest r aim_is shown_is tree found made_is =
    let s = front_of t k input rest in
    let size = option_map (expr_at t) m.size in
    next-at t (classes_of t) k input number line (statement_of t l (right_of t m)) rest shown_is tree
    ∙ ap (stepped line) (aim_is.1 input rest line (right_of t m) ∙ right-by t s _ a m.kind (name_at t m.name) size
    ∙ new-found t k input rest (use_with t a m.kind) (name_at t m.name) size (label_in t k m.kind) class found
    ∙ ap (given (λ o. use_with t a m.kind (with_object s o) (Obj (length k.store)))) made_is)

-- it was made
pub made-step : (t : Tables) (k : Kept) (input : List ℕ) (number line : ℕ) (l : Left) (m : Made) (class : ℕ) (a : Aim) (items : List ItemRow)
    (o : Seen) (new : State) →
    AimIs t k l (Ok a) → shown t k.items ≡ Do (stmt_at t number) ∷ shown t items →
    stmt_at t number ≡ stmt line (statement_of t l (right_of t m)) → Some class ≡ class_place (classes_of t) (name_at t m.name) →
    made_of t k class (label_in t k m.kind) (option_map (expr_at t) m.size) ≡ Ok o →
    new ≡ use_with t a m.kind (with_object (plain_of t (record k { items = items }) input) o) (Obj (length k.store)) →
    next (classes_of t) (plain_of t k input) ≡ Went new
made-step t k input number line l m class a items o new aim_is shown_is tree found made_is new_is =
    new-step t k input number line l m class a (shown t items) (Ok o) aim_is shown_is tree found made_is ∙ ap Went (sym new_is)

-- its size trapped
pub made-cut : (t : Tables) (k : Kept) (input : List ℕ) (number line : ℕ) (l : Left) (m : Made) (class : ℕ) (a : Aim) (rest : List Item)
    (trap : Trap) →
    AimIs t k l (Ok a) → shown t k.items ≡ Do (stmt_at t number) ∷ rest →
    stmt_at t number ≡ stmt line (statement_of t l (right_of t m)) → Some class ≡ class_place (classes_of t) (name_at t m.name) →
    made_of t k class (label_in t k m.kind) (option_map (expr_at t) m.size) ≡ Err trap →
    next (classes_of t) (plain_of t k input) ≡ Trapped trap line
made-cut t k input number line l m class a rest trap aim_is shown_is tree found made_is =
    new-step t k input number line l m class a rest (Err trap) aim_is shown_is tree found made_is

pub made-refused : (t : Tables) (k : Kept) (input : List ℕ) (number line : ℕ) (l : Left) (m : Made) (class : ℕ) (a : Aim) (rest : List Item)
    (why : Refusal) →
    AimIs t k l (Ok a) → shown t k.items ≡ Do (stmt_at t number) ∷ rest →
    stmt_at t number ≡ stmt line (statement_of t l (right_of t m)) → Some class ≡ class_place (classes_of t) (name_at t m.name) →
    ObjectIs t k class m (Err why) → Refuses (next (classes_of t) (plain_of t k input)) (plain_of t k input) (plain_of t k input) line why
made-refused t k input number line l m class a rest (refused.Trap trap) aim_is shown_is tree found is =
    (made-cut t k input number line l m class a rest trap aim_is shown_is tree found is, refl)
made-refused t k input number line l m class a rest refused.Memory aim_is shown_is tree found is = refl

-- what was made, without a size and with one
pub made-object : (t : Tables) (k : Kept) (class : ℕ) (label : Label) (size : Option ℕ) (o : Seen) → size ≡ None →
    o ≡ opened_as (classes_of t) class label → made_of t k class label (option_map (expr_at t) size) ≡ Ok o
made-object t k class label size o none is = rw (none, is) refl

pub made-elements : (t : Tables) (k : Kept) (class : ℕ) (label : Label) (size : Option ℕ) (e : ℕ) (v : Val) (n : ℕ) (o : Seen) →
    size ≡ Some e → value_of (classes_of t) k.store (rows_shown.locals_of t k.frame.locals) (expr_at t e) ≡ Ok v → array_size v ≡ Ok n →
    o ≡ array_as (classes_of t) class n label → made_of t k class label (option_map (expr_at t) size) ≡ Ok o
made-elements t k class label size e v n o some value number is = rw (some, value, number, is) refl

-- what was made belongs where it was to
pub made-label : (t : Tables) (k : Kept) (class : ℕ) (label : Label) (size : Option Expr) (o : Seen) → made_of t k class label size ≡ Ok o →
    o.label ≡ label
made-label t k class label None o h =
    let e : opened_as (classes_of t) class label ≡ o = grind arith in ap (λ (q : Seen). q.label) (sym e)
made-label t k class label (Some x) o h =
    let v = bind-ok (value_of (classes_of t) k.store (rows_shown.locals_of t k.frame.locals) x) _ o h in
    let n = bind-ok (array_size v.0) _ o v.2 in
    let e : array_as (classes_of t) class n.0 label ≡ o = let q = n.2 in grind arith in ap (λ (q : Seen). q.label) (sym e)

-- the region to which the new object belongs is there once its own is
pub label-made : (what : Kind) (managers : List Manager) (windows : List Window) → active windows < length managers →
    LabelFits (length (managers_with what managers)) (label_of windows managers what)
label-made kind.Plain managers windows below = below
label-made kind.Temporary managers windows below = tt
label-made (kind.Owner m) managers windows below = omega (arith, length-append managers (m ∷ []))
