-- Steps and runs of the machine that never frees are the same without the lines of the classes.
use Rattle.std.proofs.Common.{◌≡◌, refl, sym, ap, ◌∙◌, ℕ, zero, suc, ◌+◌, nat_lt, List, [], ◌∷◌, ◌++◌, map, length, flat_map, replicate, Option, Some}
use Rattle.std.proofs.Common.{None, option_map, unwrap_or, slice_get, slice_set, Result, Ok}
use mathlib.Core.Path.{fun_ext}
use Rattle.rg_base.specs.declared.limits.TheConstants.{FRAMES}
use Rattle.rg_base.specs.declared.ty.Ty.{Ty}
use Rattle.rg_base.specs.declared.ty.Ty.TheVariants.{Ref}
use Rattle.rg_base.specs.declared.object.Place.TheVariants.{Field as FieldOf}
use Rattle.rg_base.specs.declared.object.Seen.{Seen}
use Rattle.rg_base.specs.declared.object.Label.{Label}
use Rattle.rg_base.specs.declared.object.Label.TheVariants.{Region, Temp}
use Rattle.rg_base.specs.declared.outcome.Trap.{Trap}
use Rattle.rg_base.specs.declared.outcome.Trap.TheVariants.{Depth}
use Rattle.rg_base.specs.declared.value.Val.{Val}
use Rattle.rg_base.specs.declared.value.Val.TheVariants.{Nil, Obj}
use Rattle.rg_tree.specs.Tree.{Name, Variable, Ty as Written, Path, Expr, Call, Right, value, new, new_tmp, new_iso, freeze, result_of, stmt}
use Rattle.rg_tree.specs.Tree.{StmtKind, declare, assign, assign_element, call, swap, branch, while, enter, print, collect, return, Block, Param}
use Rattle.rg_tree.specs.Tree.{Field, Method, Class, Tree}
use Rattle.rg_rules.specs.Answers.{◌>>=◌, ◌>>◌, test}
use Rattle.rg_rules.specs.Types.{class_number, class_named, type_of, fields_of, method_named}
use Rattle.rg_rules.specs.Paths.{all_but_last, last_field}
use Rattle.rg_rules.specs.Items.{Item, Do, items_of, leave_of}
use Rattle.rg_rules.specs.Bodies.{method_end}
use Rattle.rg_rules.specs.State.{Local, Target, Declares, Assigns, Drops, Frame, State, locals_of, with_top, value_in, add_local, put_local, active}
use Rattle.rg_rules.specs.State.{top_number}
use Rattle.rg_rules.specs.Evaluation.{object_at, field_value, element_place, value_of, uses, cleared}
use Rattle.rg_rules.specs.Regions.{region_of, address}
use Rattle.rg_rules.specs.RightSides.{Use, opening_value, new_object, made, array_size, opening_element, new_array, made_array, made_new, with_region}
use Rattle.rg_rules.specs.RightSides.{consumed, bound, called_frame, called, step_call, with_right}
use Rattle.rg_rules.specs.Steps.{put_field, put_element, step_assign, step_assign_element, step_swap, field_at, entered, step_enter, step_return}
use Rattle.rg_rules.specs.Steps.{step_kind, Stepped, Went, Trapped, stepped, step_item}
use Rattle.rg_rules.specs.Runs.{Ran, opening, after_step, run_on, plain_from, plain}
use Rattle.rg_lines.specs.Unlined.{field_unlined, method_unlined, class_unlined, classes_unlined, unlined, SameButLines}
use Rattle.rg_lines.proofs.DoBlocks.{bind-rest, then-rest, bind-same}
use Rattle.rg_lines.proofs.Types.{class_number-unlined, class_named-unlined, type_of-unlined, fields_of-unlined, field_place-unlined}
use Rattle.rg_lines.proofs.Types.{method_named-unlined}
use Rattle.rg_lines.proofs.Regions.{field_value-unlined, with_field-unlined, follow_fields-unlined, path_value-unlined, value_of-unlined}
use Rattle.rg_lines.proofs.Regions.{values_of-unlined, computed-unlined, frozen-unlined}

-- New objects

abbrev openings : List Field → List Val
openings fs = map (λ (f : Field). opening_value f.ty) fs

openings_by : (fs : List Field) → openings (map field_unlined fs) ≡ openings fs
openings_by [] = refl
openings_by (f ∷ fs) = ap (λ vs. opening_value f.ty ∷ vs) (openings_by fs)

new_object-unlined : (cs : List Class) (x : Name) (label : Label) → new_object (classes_unlined cs) x label ≡ new_object cs x label
new_object-unlined cs x label =
    let f : ℕ → List Val → Seen = λ n vs. record { class = n; fields = vs; label = label } in
    ap (λ n. f n (openings (fields_of (classes_unlined cs) n))) (class_number-unlined cs x)
    ∙ ap (f (class_number cs x)) (ap openings (fields_of-unlined cs (class_number cs x)) ∙ openings_by (fields_of cs (class_number cs x)))

-- the state with an object, if its class is there
abbrev made_as : State → Use → Seen → Option Class → State
made_as s put n o = elim o [
  | None ↦ s
  | Some c ↦ put (record s { store = s.store ++ n ∷ [] }) (Obj (length s.store))
]

made_by : (s : State) (put : Use) (n : Seen) (o : Option Class) → made_as s put n (option_map class_unlined o) ≡ made_as s put n o
made_by s put n None = refl
made_by s put n (Some c) = refl

made-unlined : (cs : List Class) (s : State) (put : Use) (x : Name) (label : Label) →
    made (classes_unlined cs) s put x label ≡ made cs s put x label
made-unlined cs s put x label =
    ap (λ n. made_as s put n (class_named (classes_unlined cs) x)) (new_object-unlined cs x label)
    ∙ (ap (made_as s put (new_object cs x label)) (class_named-unlined cs x) ∙ made_by s put (new_object cs x label) (class_named cs x))

-- the state with an array
abbrev array_in : State → Use → (class : ℕ) → Option Written → (size : ℕ) → Label → Result State Trap
array_in s put k t n label =
    let o : Seen = record { class = k; fields = replicate n (opening_element t); label = label } in
    Ok (put (record s { store = s.store ++ o ∷ [] }) (Obj (length s.store)))

-- the same, if its class is there
abbrev array_as : List Class → State → Use → Name → Expr → Label → Option Class → Result State Trap
array_as cs s put x e label o = elim o [
  | None ↦ Ok s
  | Some c ↦ do
    v ← value_of cs s.store (locals_of s) e
    n ← array_size v
    Ok (put (record s { store = s.store ++ new_array cs x c n label ∷ [] }) (Obj (length s.store)))
]

array_by : (cs : List Class) (s : State) (put : Use) (x : Name) (e : Expr) (label : Label) (o : Option Class) →
    array_as (classes_unlined cs) s put x e label (option_map class_unlined o) ≡ array_as cs s put x e label o
array_by cs s put x e label None = refl
array_by cs s put x e label (Some c) =
    bind-same _ _ _ _ (value_of-unlined cs s.store (locals_of s) e)
    (λ v. bind-rest (array_size v) _ _ (λ (n : ℕ). ap (λ k. array_in s put k c.element n label) (class_number-unlined cs x)))

made_array-unlined : (cs : List Class) (s : State) (put : Use) (x : Name) (e : Expr) (label : Label) →
    made_array (classes_unlined cs) s put x e label ≡ made_array cs s put x e label
made_array-unlined cs s put x e label =
    ap (array_as (classes_unlined cs) s put x e label) (class_named-unlined cs x) ∙ array_by cs s put x e label (class_named cs x)

made_new-unlined : (cs : List Class) (s : State) (put : Use) (x : Name) (o : Option Expr) (label : Label) →
    made_new (classes_unlined cs) s put x o label ≡ made_new cs s put x o label
made_new-unlined cs s put x None label =
    let f : State → Result State Trap = λ t. Ok t in ap f (made-unlined cs s put x label)
made_new-unlined cs s put x (Some e) label = made_array-unlined cs s put x e label

-- Calls

bound-unlined : (cs : List Class) (ps : List Param) (vs : List Val) → bound (classes_unlined cs) ps vs ≡ bound cs ps vs
bound-unlined cs [] vs = refl
bound-unlined cs (p ∷ ps) [] =
    let f : Ty → List Local → List Local = λ t ls. record { name = Some p.name; ty = t; value = Nil } ∷ ls in
    ap (λ t. f t (bound (classes_unlined cs) ps [])) (type_of-unlined cs p.ty) ∙ ap (f (type_of cs p.ty)) (bound-unlined cs ps [])
bound-unlined cs (p ∷ ps) (v ∷ vs) =
    let f : Ty → List Local → List Local = λ t ls. record { name = Some p.name; ty = t; value = v } ∷ ls in
    ap (λ t. f t (bound (classes_unlined cs) ps vs)) (type_of-unlined cs p.ty) ∙ ap (f (type_of cs p.ty)) (bound-unlined cs ps vs)

called_frame-unlined : (cs : List Class) (target : Target) (m : Method) (c : ℕ) (me : Val) (args : List Val) →
    called_frame (classes_unlined cs) target (method_unlined m) c me args ≡ called_frame cs target m c me args
called_frame-unlined cs target m c me args =
    let f : List Local → Frame = λ ls. record { locals = record { name = None; ty = Ref m.receiver c; value = me } ∷ ls; target = target } in
    ap f (bound-unlined cs m.params args)

-- the state with one more frame
abbrev with_frame : State → Call → Method → Frame → Result State Trap
with_frame s c m f = Ok (record s {
  frames = f ∷ with_top (cleared (flat_map (uses (locals_of s)) c.args) (locals_of s)) s.frames;
  items = items_of m.body (method_end m.result ++ s.items);
})

called-unlined : (cs : List Class) (s : State) (target : Target) (c : Call) (me : Val) (k : ℕ) (o : Option Method) →
    called (classes_unlined cs) s target c me k (option_map method_unlined o) ≡ called cs s target c me k o
called-unlined cs s target c me k None = refl
called-unlined cs s target c me k (Some m) =
    bind-same _ _ _ _ (values_of-unlined cs s.store (locals_of s) c.args)
    (λ (args : List Val). then-rest (test (nat_lt (length s.frames) FRAMES) Depth) _ _
    (ap (with_frame s c m) (called_frame-unlined cs target m k me args)))

step_call-unlined : (cs : List Class) (s : State) (target : Target) (c : Call) →
    step_call (classes_unlined cs) s target c ≡ step_call cs s target c
step_call-unlined cs s target c =
    bind-same _ _ _ _ (path_value-unlined cs s.store (locals_of s) c.target)
    (λ me. bind-rest (object_at s.store me) _ _
    (λ (o : Seen). ap (called (classes_unlined cs) s target c me o.class) (method_named-unlined cs o.class c.method)
    ∙ called-unlined cs s target c me o.class (method_named cs o.class c.method)))

-- Right sides

abbrev after_freeze : State → Use → Name → Option State → Result State Trap
after_freeze s put y t = Ok (consumed s put (Some y) t)

with_right-unlined : (cs : List Class) (s : State) (target : Target) (put : Use) (r : Right) →
    with_right (classes_unlined cs) s target put r ≡ with_right cs s target put r
with_right-unlined cs s target put (value e) = bind-same _ _ _ _ (computed-unlined cs s e) (λ done. refl)
with_right-unlined cs s target put (new x o) = made_new-unlined cs s put x o (Region (active s.windows))
with_right-unlined cs s target put (new_tmp x o) = made_new-unlined cs s put x o (Temp (top_number s.windows))
with_right-unlined cs s target put (new_iso x o m) = made_new-unlined cs s (with_region m put) x o (Region (length s.managers))
with_right-unlined cs s target put (freeze y) =
    bind-rest (object_at s.store (value_in (locals_of s) (Some y))) _ _
    (λ (o : Seen). ap (after_freeze s put y) (frozen-unlined cs s (region_of o.label)))
with_right-unlined cs s target put (result_of c) = step_call-unlined cs s target c
with_right-unlined cs s target put _ = refl

-- Statements

abbrev put_as : State → (a : ℕ) → (Seen → Seen) → Option Seen → State
put_as s a go p = elim p [ None ↦ s | Some o ↦ record s { store = slice_set s.store a (go o) } ]

put_field-unlined : (cs : List Class) (at : Val) (x : Name) (s : State) (v : Val) → put_field (classes_unlined cs) at x s v ≡ put_field cs at x s v
put_field-unlined cs (Obj a) x s v = ap (λ go. put_as s a go (slice_get s.store a)) (fun_ext (λ o. with_field-unlined cs x v o))
put_field-unlined cs _ x s v = refl

put_field-same : (cs : List Class) (at : Val) (x : Name) → put_field (classes_unlined cs) at x ≡ put_field cs at x
put_field-same cs at x = fun_ext (λ s. fun_ext (λ v. put_field-unlined cs at x s v))

step_assign-unlined : (cs : List Class) (s : State) (x : Variable) (fs : List Name) (r : Right) →
    step_assign (classes_unlined cs) s x fs r ≡ step_assign cs s x fs r
step_assign-unlined cs s x [] r = with_right-unlined cs s (Assigns x) (put_local x) r
step_assign-unlined cs s x (f ∷ fs) r =
    bind-same _ _ _ _ (follow_fields-unlined cs s.store (value_in (locals_of s) x) (all_but_last f fs))
    (λ at. then-rest (object_at s.store at) _ _
    (ap (λ put. with_right (classes_unlined cs) s Drops put r) (put_field-same cs at (last_field f fs))
    ∙ with_right-unlined cs s Drops (put_field cs at (last_field f fs)) r))

step_assign_element-unlined : (cs : List Class) (s : State) (q : Path) (e : Expr) (r : Right) →
    step_assign_element (classes_unlined cs) s q e r ≡ step_assign_element cs s q e r
step_assign_element-unlined cs s q e r =
    bind-same _ _ _ _ (path_value-unlined cs s.store (locals_of s) q)
    (λ at. bind-rest (object_at s.store at) _ _
    (λ (o : Seen). bind-same _ _ _ _ (value_of-unlined cs s.store (locals_of s) e)
    (λ i. bind-rest (element_place o i) _ _ (λ k. with_right-unlined cs s Drops (put_element at k) r))))

abbrev swapped : Variable → State → Val → Result State Trap
swapped y t v = Ok (put_local y t v)

step_swap-unlined : (cs : List Class) (s : State) (y x : Variable) (fs : List Name) → step_swap (classes_unlined cs) s y x fs ≡ step_swap cs s y x fs
step_swap-unlined cs s y x [] = refl
step_swap-unlined cs s y x (f ∷ fs) =
    bind-same _ _ _ _ (follow_fields-unlined cs s.store (value_in (locals_of s) x) (all_but_last f fs))
    (λ at. bind-rest (object_at s.store at) _ _
    (λ (o : Seen). ap (λ t. swapped y t (field_value (classes_unlined cs) o (last_field f fs)))
    (put_field-unlined cs at (last_field f fs) s (value_in (locals_of s) y))
    ∙ ap (swapped y (put_field cs at (last_field f fs) s (value_in (locals_of s) y))) (field_value-unlined cs o (last_field f fs))))

field_at-unlined : (cs : List Class) (at : Val) (o : Seen) (x : Name) → field_at (classes_unlined cs) at o x ≡ field_at cs at o x
field_at-unlined cs at o x = ap (λ k. FieldOf (unwrap_or (address at) 0) (unwrap_or k 0)) (field_place-unlined cs o.class x)

step_enter-unlined : (cs : List Class) (s : State) (x : Variable) (fs : List Name) (z : Name) (b : Block) (after : ℕ → Item) →
    step_enter (classes_unlined cs) s x fs z b after ≡ step_enter cs s x fs z b after
step_enter-unlined cs s x [] z b after = refl
step_enter-unlined cs s x (f ∷ fs) z b after =
    bind-same _ _ _ _ (follow_fields-unlined cs s.store (value_in (locals_of s) x) (all_but_last f fs))
    (λ at. bind-rest (object_at s.store at) _ _
    (λ (o : Seen). ap (λ p. entered s p z b after (field_value (classes_unlined cs) o (last_field f fs))) (field_at-unlined cs at o (last_field f fs))
    ∙ ap (entered s (field_at cs at o (last_field f fs)) z b after) (field_value-unlined cs o (last_field f fs))))

step_return-unlined : (cs : List Class) (s : State) (e : Expr) (fs : List Frame) → step_return (classes_unlined cs) s e fs ≡ step_return cs s e fs
step_return-unlined cs s e [] = refl
step_return-unlined cs s e (f ∷ []) = refl
step_return-unlined cs s e (f ∷ g ∷ fs) = bind-same _ _ _ _ (computed-unlined cs s e) (λ done. refl)

step_kind-unlined : (cs : List Class) (s : State) (line : ℕ) (k : StmtKind) → step_kind (classes_unlined cs) s line k ≡ step_kind cs s line k
step_kind-unlined cs s line (declare x t r) =
    ap (λ ty. with_right (classes_unlined cs) s (Declares x ty) (add_local (Some x) ty) r) (type_of-unlined cs t)
    ∙ with_right-unlined cs s (Declares x (type_of cs t)) (add_local (Some x) (type_of cs t)) r
step_kind-unlined cs s line (assign p r) = step_assign-unlined cs s p.base p.fields r
step_kind-unlined cs s line (assign_element q e r) = step_assign_element-unlined cs s q e r
step_kind-unlined cs s line (call c) = step_call-unlined cs s Drops c
step_kind-unlined cs s line (swap y p) = step_swap-unlined cs s (Some y) p.base p.fields
step_kind-unlined cs s line (branch e b other) = bind-same _ _ _ _ (computed-unlined cs s e) (λ done. refl)
step_kind-unlined cs s line (while e b) = bind-same _ _ _ _ (computed-unlined cs s e) (λ done. refl)
step_kind-unlined cs s line (enter p z b giving) = step_enter-unlined cs s p.base p.fields z b (λ kept. leave_of line kept giving)
step_kind-unlined cs s line (print e) = bind-same _ _ _ _ (computed-unlined cs s e) (λ done. refl)
step_kind-unlined cs s line collect = refl
step_kind-unlined cs s line (return e) = step_return-unlined cs s e s.frames

pub step_item-unlined : (cs : List Class) (s : State) (i : Item) → step_item (classes_unlined cs) s i ≡ step_item cs s i
step_item-unlined cs s (Do (stmt line k)) = ap (stepped line) (step_kind-unlined cs s line k)
step_item-unlined cs s _ = refl

-- Runs

after_by : (made' : ℕ) (s : State) (d : Stepped) (go to : State → Ran) → ((t : State) → go t ≡ to t) →
    after_step made' s d go ≡ after_step made' s d to
after_by made' s (Went t) go to h = h t
after_by made' s (Trapped kind line) go to h = refl

run_by : (cs : List Class) (made' : ℕ) (s : State) (its : List Item) (go to : State → Ran) → ((t : State) → go t ≡ to t) →
    run_on (classes_unlined cs) made' s its go ≡ run_on cs made' s its to
run_by cs made' s [] go to h = refl
run_by cs made' s (i ∷ rest) go to h =
    ap (λ d. after_step made' s d go) (step_item-unlined cs (record s { items = rest }) i)
    ∙ after_by made' s (step_item cs (record s { items = rest }) i) go to h

plain_from-unlined : (cs : List Class) (n made' : ℕ) (s : State) → plain_from (classes_unlined cs) n made' s ≡ plain_from cs n made' s
unfolding plain_from
plain_from-unlined cs zero made' s = refl
plain_from-unlined cs (suc n) made' s =
    run_by cs made' s s.items (plain_from (classes_unlined cs) n (made' + 1)) (plain_from cs n (made' + 1))
    (λ t. plain_from-unlined cs n (made' + 1) t)

pub plain-unlined : (t : Tree) (input : List ℕ) (n : ℕ) → plain (unlined t) input n ≡ plain t input n
plain-unlined t input n = plain_from-unlined t.classes n 0 (opening t input)

pub same-runs : (t u : Tree) → SameButLines t u → (input : List ℕ) (n : ℕ) → plain t input n ≡ plain u input n
same-runs t u h input n = sym (plain-unlined t input n) ∙ (ap (λ v. plain v input n) h ∙ plain-unlined u input n)
