-- What a step leaves: the things to do behind its own, and the output, where it prints nothing.
use Rattle.std.proofs.Common.{◌≡◌, ◌≢◌, ◌⊎◌, inl, inr, length-append, refl, sym, ap, ◌∙◌, subst, ℕ, nat_lt, Bool, true, false, if◌then◌else◌, List}
use Rattle.std.proofs.Common.{[], ◌∷◌, ◌++◌, length, Option, Some, None, option_map, IfSome, slice_get, slice_set, Result, Ok, arith}
use Rattle.rg_base.specs.declared.limits.TheConstants.{FRAMES}
use Rattle.rg_base.specs.declared.object.Seen.{Seen}
use Rattle.rg_base.specs.declared.object.Label.{Label}
use Rattle.rg_base.specs.declared.object.Place.{Place}
use Rattle.rg_base.specs.declared.object.Place.TheVariants.{Var, Field}
use Rattle.rg_base.specs.declared.value.Val.{Val}
use Rattle.rg_base.specs.declared.value.Val.TheVariants.{Nil, Int, Bool as Truth, Obj}
use Rattle.rg_base.specs.declared.outcome.Outcome.{Outcome}
use Rattle.rg_base.specs.declared.outcome.Outcome.TheVariants as outcome
use Rattle.rg_base.specs.declared.outcome.Trap.{Trap}
use Rattle.rg_base.specs.declared.outcome.Trap.TheVariants.{Depth}
use Rattle.rg_base.specs.Input.{NextNumber, found, malformed, at_end, next_number}
use Rattle.rg_tree.specs.Tree.{no_else, otherwise, Else, Name, Variable, Expr, Call, Right, value, new, new_tmp, new_iso, freeze, merge, read, more}
use Rattle.rg_tree.specs.Tree.{result_of, Path, Stmt, stmt, StmtKind, declare, assign, assign_element, call, swap, branch, while, enter, print}
use Rattle.rg_tree.specs.Tree.{collect, return, Block, Method, Class}
use Rattle.rg_rules.specs.Answers.{◌>>=◌, test}
use Rattle.rg_rules.specs.Types.{class_named, method_named, type_of}
use Rattle.rg_rules.specs.Paths.{all_but_last, last_field}
use Rattle.rg_rules.specs.Items.{Item, Do, EndAt, LeaveAt, LeaveGiving, leave_of, items_of}
use Rattle.rg_rules.specs.Bodies.{method_end}
use Rattle.rg_rules.specs.State.{Target, Declares, Assigns, Drops, Frame, Window, State, locals_of, value_in, put_local, add_local, deliver}
use Rattle.rg_rules.specs.Values.{as_bool}
use Rattle.rg_rules.specs.Evaluation.{object_at, path_value, value_of, values_of, field_value, with_field, element_place, with_element}
use Rattle.rg_rules.specs.Evaluation.{follow_fields, computed}
use Rattle.rg_rules.specs.Regions.{region_of}
use Rattle.rg_rules.specs.RightSides.{Use, new_object, made, array_size, new_array, made_array, made_new, with_region, frozen, merged, consumed}
use Rattle.rg_rules.specs.RightSides.{taken, called, step_call, with_right}
use Rattle.rg_rules.specs.Steps.{put_field, put_element, step_assign, step_assign_element, step_swap, begin_block, begin_else, with_window}
use Rattle.rg_rules.specs.Steps.{entered, step_enter, step_return, step_kind, step_leave, put_at, step_leave_giving, step_item, step_first}
use Rattle.rg_rules.specs.Steps.{Went, next}
use Rattle.rg_rules.proofs.Answers.{bind-ok, then-ok}
use Rattle.rg_rules.proofs.Step.{computed-ok, stepped-went}
use Rattle.rg_sound.proofs.Owners.Entrance.{items_of-append}
use Rattle.rg_sound.proofs.Frames.Quiet.{went_is}
use Rattle.rg_plain.specs.Inner.Steps.{StepIs}
use Rattle.rg_plain.specs.Outcomes.{Settles, EndsMain, settled_outcome}
use Rattle.rg_values.specs.Printing.{PrintsOrStays, prints, item_prints}

-- things to do were put in front of those that were left, and nothing was printed
pub record Goes (s u : State) : Type 0 where
  pub front : List Item
  pub items : u.items ≡ front ++ s.items
  pub output : u.output ≡ s.output

abbrev gave : State → Result State Trap
gave s = Ok s

ok-is : (a b : State) → gave a ≡ gave b → a ≡ b
ok-is a b h = cc

goes-same : (s u : State) → s ≡ u → Goes s u
goes-same s u h = record { front = []; items = ap (λ q. q.items) (sym h); output = ap (λ q. q.output) (sym h) }

-- a use of a value that leaves both
abbrev IsQuiet : Use → Type 0
IsQuiet put = (s : State) (v : Val) → ((put s v).items ≡ s.items) × ((put s v).output ≡ s.output)

goes-put : (s t u : State) (put : Use) → IsQuiet put → (v : Val) → t.items ≡ s.items → t.output ≡ s.output → put t v ≡ u → Goes s u
goes-put s t u put quiet v items output h = record {
  front = [];
  items = ap (λ q. q.items) (sym h) ∙ (quiet t v).0 ∙ items;
  output = ap (λ q. q.output) (sym h) ∙ (quiet t v).1 ∙ output;
}

put_field-quiet : (classes : List Class) (at : Val) (x : Name) → IsQuiet (put_field classes at x)
put_field-quiet classes Nil x s v = (refl, refl)
put_field-quiet classes (Int z) x s v = (refl, refl)
put_field-quiet classes (Truth b) x s v = (refl, refl)
put_field-quiet classes (Obj a) x s v = by (slice_get s.store a)
  where
    by : (o : Option Seen) →
        ((elim o as (λ p. State) [ None ↦ s | Some q ↦ record s { store = slice_set s.store a (with_field classes x v q) } ]).items ≡ s.items)
        × ((elim o as (λ p. State) [ None ↦ s | Some q ↦ record s { store = slice_set s.store a (with_field classes x v q) } ]).output ≡ s.output)
    by None = (refl, refl)
    by (Some q) = (refl, refl)

put_element-quiet : (at : Val) (k : ℕ) → IsQuiet (put_element at k)
put_element-quiet Nil k s v = (refl, refl)
put_element-quiet (Int z) k s v = (refl, refl)
put_element-quiet (Truth b) k s v = (refl, refl)
put_element-quiet (Obj a) k s v = by (slice_get s.store a)
  where
    by : (o : Option Seen) →
        ((elim o as (λ p. State) [ None ↦ s | Some q ↦ record s { store = slice_set s.store a (with_element k v q) } ]).items ≡ s.items)
        × ((elim o as (λ p. State) [ None ↦ s | Some q ↦ record s { store = slice_set s.store a (with_element k v q) } ]).output ≡ s.output)
    by None = (refl, refl)
    by (Some q) = (refl, refl)

deliver-quiet : (to : Target) (s : State) (v : Val) → ((deliver to s v).items ≡ s.items) × ((deliver to s v).output ≡ s.output)
deliver-quiet (Declares x t) s v = (refl, refl)
deliver-quiet (Assigns x) s v = (refl, refl)
deliver-quiet Drops s v = (refl, refl)

made-goes : (classes : List Class) (s u : State) (put : Use) → IsQuiet put → (x : Name) (label : Label) → made classes s put x label ≡ u → Goes s u
made-goes classes s u put quiet x label h = by (class_named classes x) h
  where
    by : (o : Option Class) →
        elim o as (λ p. State) [ None ↦ s | Some c ↦ put (record s { store = s.store ++ new_object classes x label ∷ [] }) (Obj (length s.store)) ] ≡
        u →
        Goes s u
    by None h = goes-same s u h
    by (Some c) h = goes-put s (record s { store = s.store ++ new_object classes x label ∷ [] }) u put quiet (Obj (length s.store)) refl refl h

made_array-goes : (classes : List Class) (s u : State) (put : Use) → IsQuiet put → (x : Name) (e : Expr) (label : Label) →
    made_array classes s put x e label ≡ Ok u → Goes s u
made_array-goes classes s u put quiet x e label h = by (class_named classes x) refl
  where
    by : (o : Option Class) → class_named classes x ≡ o → Goes s u
    by None none = let is : made_array classes s put x e label ≡ Ok s = rw (made_array, none) refl in goes-same s u (ok-is _ _ (sym is ∙ h))
    by (Some c) some =
        let is : made_array classes s put x e label ≡ (do
          v ← value_of classes s.store (locals_of s) e
          n ← array_size v
          Ok (put (record s { store = s.store ++ new_array classes x c n label ∷ [] }) (Obj (length s.store)))) = rw (made_array, some) refl in
        let v = bind-ok (value_of classes s.store (locals_of s) e) _ u (sym is ∙ h) in
        let n = bind-ok (array_size v.0) _ u v.2 in
        goes-put s (record s { store = s.store ++ new_array classes x c n.0 label ∷ [] }) u put quiet (Obj (length s.store)) refl refl (ok-is _ _ n.2)

made_new-goes : (classes : List Class) (s u : State) (put : Use) → IsQuiet put → (x : Name) (size : Option Expr) (label : Label) →
    made_new classes s put x size label ≡ Ok u → Goes s u
made_new-goes classes s u put quiet x None label h = made-goes classes s u put quiet x label (ok-is _ _ h)
made_new-goes classes s u put quiet x (Some e) label h = made_array-goes classes s u put quiet x e label h

consumed-goes : (s u : State) (put : Use) → IsQuiet put → (y : Variable) (after : Option State) →
    IfSome after (λ t. (t.items ≡ s.items) × (t.output ≡ s.output)) → consumed s put y after ≡ u → Goes s u
consumed-goes s u put quiet y None same h = goes-same s u h
consumed-goes s u put quiet y (Some t) same h =
    goes-put s (put_local y t Nil) u put quiet (value_in (locals_of s) y) same.0 same.1 h

same-behind : (s : State) (change : ℕ → State) → ((r : ℕ) → ((change r).items ≡ s.items) × ((change r).output ≡ s.output)) → (o : Option ℕ) →
    IfSome (option_map change o) (λ t. (t.items ≡ s.items) × (t.output ≡ s.output))
same-behind s change same None = tt
same-behind s change same (Some r) = same r

taken-goes : (s u : State) (put : Use) → IsQuiet put → (n : NextNumber) → taken s put n ≡ Ok u → Goes s u
taken-goes s u put quiet (found z rest) h = goes-put s (record s { input = rest }) u put quiet (Int z) refl refl (ok-is _ _ h)
taken-goes s u put quiet malformed h = absurd (cc)
taken-goes s u put quiet at_end h = absurd (cc)

called-goes : (classes : List Class) (s u : State) (to : Target) (c : Call) (self : Val) (class : ℕ) (m : Option Method) →
    called classes s to c self class m ≡ Ok u → Goes s u
called-goes classes s u to c self class None h = goes-same s u (ok-is _ _ h)
called-goes classes s u to c self class (Some m) h =
    let args = bind-ok (values_of classes s.store (locals_of s) c.args) _ u h in
    let room = then-ok (test (nat_lt (length s.frames) FRAMES) Depth) _ u args.2 in
    let is = ok-is _ _ room.2 in
    record {
      front = items_of m.body (method_end m.result);
      items = ap (λ q. q.items) (sym is) ∙ items_of-append m.body (method_end m.result) s.items;
      output = ap (λ q. q.output) (sym is);
    }

step_call-goes : (classes : List Class) (s u : State) (to : Target) (c : Call) → step_call classes s to c ≡ Ok u → Goes s u
step_call-goes classes s u to c h =
    let self = bind-ok (path_value classes s.store (locals_of s) c.target) _ u h in
    let o = bind-ok (object_at s.store self.0) _ u self.2 in
    called-goes classes s u to c self.0 o.0.class (method_named classes o.0.class c.method) o.2

with_right-goes : (classes : List Class) (s u : State) (to : Target) (put : Use) → IsQuiet put → (r : Right) →
    with_right classes s to put r ≡ Ok u → Goes s u
with_right-goes classes s u to put quiet (value e) h =
    let done = bind-ok (computed classes s e) _ u h in
    let whole = computed-ok classes s e done.0 done.1 in
    goes-put s done.0.0 u put quiet done.0.1 (ap (λ q. q.items) whole.state) (ap (λ q. q.output) whole.state) (ok-is _ _ done.2)
with_right-goes classes s u to put quiet (new x size) h = made_new-goes classes s u put quiet x size _ h
with_right-goes classes s u to put quiet (new_tmp x size) h = made_new-goes classes s u put quiet x size _ h
with_right-goes classes s u to put quiet (new_iso x size m) h =
    made_new-goes classes s u (with_region m put) (λ t v. quiet (record t { managers = t.managers ++ m ∷ [] }) v) x size _ h
with_right-goes classes s u to put quiet (freeze y) h =
    let o = bind-ok (object_at s.store (value_in (locals_of s) (Some y))) _ u h in
    consumed-goes s u put quiet (Some y) _ (same-behind s (frozen classes s) (λ r. (refl, refl)) (region_of o.0.label)) (ok-is _ _ o.2)
with_right-goes classes s u to put quiet (merge y) h =
    let o = bind-ok (object_at s.store (value_in (locals_of s) (Some y))) _ u h in
    consumed-goes s u put quiet (Some y) _ (same-behind s (merged s) (λ r. (refl, refl)) (region_of o.0.label)) (ok-is _ _ o.2)
with_right-goes classes s u to put quiet read h = taken-goes s u put quiet (next_number s.input) h
with_right-goes classes s u to put quiet more h = goes-put s s u put quiet _ refl refl (ok-is _ _ h)
with_right-goes classes s u to put quiet (result_of c) h = step_call-goes classes s u to c h

step_assign-goes : (classes : List Class) (s u : State) (x : Variable) (fields : List Name) (r : Right) →
    step_assign classes s x fields r ≡ Ok u → Goes s u
step_assign-goes classes s u x [] r h = with_right-goes classes s u (Assigns x) (put_local x) (λ t v. (refl, refl)) r h
step_assign-goes classes s u x (f ∷ fs) r h =
    let at = bind-ok (follow_fields classes s.store (value_in (locals_of s) x) (all_but_last f fs)) _ u h in
    let o = then-ok (object_at s.store at.0) _ u at.2 in
    with_right-goes classes s u Drops (put_field classes at.0 (last_field f fs)) (put_field-quiet classes at.0 (last_field f fs)) r o.2

step_assign_element-goes : (classes : List Class) (s u : State) (q : Path) (e : Expr) (r : Right) →
    step_assign_element classes s q e r ≡ Ok u → Goes s u
step_assign_element-goes classes s u q e r h =
    let at = bind-ok (path_value classes s.store (locals_of s) q) _ u h in
    let o = bind-ok (object_at s.store at.0) _ u at.2 in
    let i = bind-ok (value_of classes s.store (locals_of s) e) _ u o.2 in
    let k = bind-ok (element_place o.0 i.0) _ u i.2 in
    with_right-goes classes s u Drops (put_element at.0 k.0) (put_element-quiet at.0 k.0) r k.2

step_swap-goes : (classes : List Class) (s u : State) (y x : Variable) (fields : List Name) → step_swap classes s y x fields ≡ Ok u → Goes s u
step_swap-goes classes s u y x [] h = goes-same s u (ok-is _ _ h)
step_swap-goes classes s u y x (f ∷ fs) h =
    let at = bind-ok (follow_fields classes s.store (value_in (locals_of s) x) (all_but_last f fs)) _ u h in
    let o = bind-ok (object_at s.store at.0) _ u at.2 in
    let v = value_in (locals_of s) y in
    let put = put_field-quiet classes at.0 (last_field f fs) s v in
    goes-put s (put_field classes at.0 (last_field f fs) s v) u (put_local y) (λ t w. (refl, refl))
    (field_value classes o.0 (last_field f fs)) put.0 put.1 (ok-is _ _ o.2)

with_window-goes : (s u : State) (owner : Place) (z : Name) (body : Block) (after : ℕ → Item) (bridge : Val) (class : ℕ) (region : Option ℕ) →
    with_window s owner z body after bridge class region ≡ u → Goes s u
with_window-goes s u owner z body after bridge class None h = goes-same s u h
with_window-goes s u owner z body after bridge class (Some r) h = record {
  front = items_of body (after (length (locals_of s)) ∷ []);
  items = ap (λ q. q.items) (sym h) ∙ items_of-append body (after (length (locals_of s)) ∷ []) s.items;
  output = ap (λ q. q.output) (sym h);
}

entered-goes : (s u : State) (owner : Place) (z : Name) (body : Block) (after : ℕ → Item) (bridge : Val) →
    entered s owner z body after bridge ≡ Ok u → Goes s u
entered-goes s u owner z body after bridge h =
    let o = bind-ok (object_at s.store bridge) _ u h in
    with_window-goes s u owner z body after bridge o.0.class (region_of o.0.label) (ok-is _ _ o.2)

step_enter-goes : (classes : List Class) (s u : State) (x : Variable) (fields : List Name) (z : Name) (body : Block) (after : ℕ → Item) →
    step_enter classes s x fields z body after ≡ Ok u → Goes s u
step_enter-goes classes s u x [] z body after h = entered-goes s u _ z body after (value_in (locals_of s) x) h
step_enter-goes classes s u x (f ∷ fs) z body after h =
    let at = bind-ok (follow_fields classes s.store (value_in (locals_of s) x) (all_but_last f fs)) _ u h in
    let o = bind-ok (object_at s.store at.0) _ u at.2 in
    entered-goes s u _ z body after (field_value classes o.0 (last_field f fs)) o.2

step_return-goes : (classes : List Class) (s u : State) (e : Expr) (frames : List Frame) → step_return classes s e frames ≡ Ok u → Goes s u
step_return-goes classes s u e [] h = goes-same s u (ok-is _ _ h)
step_return-goes classes s u e (f ∷ []) h = goes-same s u (ok-is _ _ h)
step_return-goes classes s u e (f ∷ g ∷ fs) h =
    let done = bind-ok (computed classes s e) _ u h in
    let t : State = record s { frames = g ∷ fs } in
    let put = deliver-quiet f.target t done.0.1 in
    let is = ok-is _ _ done.2 in
    record { front = []; items = ap (λ q. q.items) (sym is) ∙ put.0; output = ap (λ q. q.output) (sym is) ∙ put.1 }

-- the blocks of an `if`, behind what its test used up
begin_block-goes : (s t : State) (b : Block) → t.items ≡ s.items → t.output ≡ s.output → Goes s (begin_block t b)
begin_block-goes s t b items output = record {
  front = items_of b (EndAt (length (locals_of t)) ∷ []);
  items = items_of-append b (EndAt (length (locals_of t)) ∷ []) t.items ∙ ap (λ q. items_of b (EndAt (length (locals_of t)) ∷ []) ++ q) items;
  output = output;
}

begin_else-goes : (s t : State) (other : Else) → t.items ≡ s.items → t.output ≡ s.output → Goes s (begin_else t other)
begin_else-goes s t no_else items output = record { front = []; items = items; output = output }
begin_else-goes s t (otherwise b) items output = begin_block-goes s t b items output

goes-if : (b : Bool) (s t v : State) → Goes s t → Goes s v → Goes s (if b then t else v)
goes-if true s t v a b = a
goes-if false s t v a b = b

goes-to : (s t u : State) → Goes s t → t ≡ u → Goes s u
goes-to s t u goes h = let P : State → Type 0 = λ q. Goes s q in subst P h goes

step_kind-goes : (classes : List Class) (s u : State) (line : ℕ) (k : StmtKind) → prints k ≡ false → step_kind classes s line k ≡ Ok u → Goes s u
step_kind-goes classes s u line (declare x t r) q h =
    with_right-goes classes s u (Declares x (type_of classes t)) (add_local (Some x) (type_of classes t)) (λ a v. (refl, refl)) r h
step_kind-goes classes s u line (assign p r) q h = step_assign-goes classes s u p.base p.fields r h
step_kind-goes classes s u line (assign_element p e r) q h = step_assign_element-goes classes s u p e r h
step_kind-goes classes s u line (call c) q h = step_call-goes classes s u Drops c h
step_kind-goes classes s u line (swap y p) q h = step_swap-goes classes s u (Some y) p.base p.fields h
step_kind-goes classes s u line (branch e first other) q h =
    let done = bind-ok (computed classes s e) _ u h in
    let whole = computed-ok classes s e done.0 done.1 in
    let items = ap (λ a. a.items) whole.state in
    let output = ap (λ a. a.output) whole.state in
    goes-to s _ u (goes-if (as_bool done.0.1) s _ _ (begin_block-goes s done.0.0 first items output) (begin_else-goes s done.0.0 other items output))
    (ok-is _ _ done.2)
step_kind-goes classes s u line (while e body) q h =
    let done = bind-ok (computed classes s e) _ u h in
    let whole = computed-ok classes s e done.0 done.1 in
    let items = ap (λ a. a.items) whole.state in
    let output = ap (λ a. a.output) whole.state in
    let again : State = record done.0.0 { items = Do (stmt line (while e body)) ∷ s.items } in
    let turn : Goes s (begin_block again body) = record {
      front = items_of body (EndAt (length (locals_of again)) ∷ Do (stmt line (while e body)) ∷ []);
      items = items_of-append body (EndAt (length (locals_of again)) ∷ Do (stmt line (while e body)) ∷ []) s.items;
      output = output;
    } in
    goes-to s _ u (goes-if (as_bool done.0.1) s _ _ turn (record { front = []; items = items; output = output })) (ok-is _ _ done.2)
step_kind-goes classes s u line (enter p z body giving) q h = step_enter-goes classes s u p.base p.fields z body (λ kept. leave_of line kept giving) h
step_kind-goes classes s u line (print e) q h = absurd (cc)
step_kind-goes classes s u line collect q h = goes-same s u (ok-is _ _ h)
step_kind-goes classes s u line (return e) q h = step_return-goes classes s u e s.frames h

-- a print leaves all things to do behind it
pub step_kind-print : (classes : List Class) (s u : State) (line : ℕ) (e : Expr) → step_kind classes s line (print e) ≡ Ok u → u.items ≡ s.items
step_kind-print classes s u line e h =
    let done = bind-ok (computed classes s e) _ u h in
    let whole = computed-ok classes s e done.0 done.1 in
    ap (λ q. q.items) (sym (ok-is _ _ done.2)) ∙ ap (λ a. a.items) whole.state

-- any statement leaves what stands behind it
abbrev pub Behind : List Item → State → Type 0
Behind rest u = (front : List Item) × (u.items ≡ front ++ rest)

behind : (s u : State) → Goes s u → Behind s.items u
behind s u g = (g.front, g.items)

step_kind-behind : (classes : List Class) (s u : State) (line : ℕ) (k : StmtKind) → step_kind classes s line k ≡ Ok u → Behind s.items u
step_kind-behind classes s u line (print e) h = ([], step_kind-print classes s u line e h)
step_kind-behind classes s u line k h = behind s u (step_kind-goes classes s u line k refl h)

leave-keeps : (k : ℕ) (s : State) (ws : List Window) → ((step_leave k s ws).items ≡ s.items) × ((step_leave k s ws).output ≡ s.output)
leave-keeps k s [] = (refl, refl)
leave-keeps k s (w ∷ []) = (refl, refl)
leave-keeps k s (w ∷ v ∷ ws) = (refl, refl)

put_at-quiet : (place : Option Place) → IsQuiet (put_at place)
put_at-quiet None s v = (refl, refl)
put_at-quiet (Some (Var n i)) s v = (refl, refl)
put_at-quiet (Some (Field a k)) s v = put_element-quiet (Obj a) k s v

leave_giving-keeps : (k : ℕ) (x : Name) (s u : State) (ws : List Window) → step_leave_giving k x s ws ≡ Ok u →
    (u.items ≡ s.items) × (u.output ≡ s.output)
leave_giving-keeps k x s u [] h = let e = ok-is s u h in (ap (λ q. q.items) (sym e), ap (λ q. q.output) (sym e))
leave_giving-keeps k x s u (w ∷ []) h = let e = ok-is s u h in (ap (λ q. q.items) (sym e), ap (λ q. q.output) (sym e))
leave_giving-keeps k x s u (w ∷ v ∷ ws) h =
    let given = value_in (locals_of s) (Some x) in
    let left = step_leave k s (w ∷ v ∷ ws) in
    let c = then-ok (object_at s.store given) _ u h in
    let put = put_at-quiet w.owner left given in
    let e = ok-is (put_at w.owner left given) u c.2 in
    (ap (λ q. q.items) (sym e) ∙ put.0, ap (λ q. q.output) (sym e) ∙ put.1)

-- the step of a thing to do that prints nothing leaves the output
step_item-output : (classes : List Class) (s u : State) (i : Item) → item_prints i ≡ false → step_item classes s i ≡ Went u → u.output ≡ s.output
step_item-output classes s u (Do (stmt line k)) q h = (step_kind-goes classes s u line k q (stepped-went line (step_kind classes s line k) u
    h)).output
step_item-output classes s u (LeaveAt k) q h = ap (λ a. a.output) (sym (went_is _ _ h)) ∙ (leave-keeps k s s.windows).1
step_item-output classes s u (LeaveGiving line k x) q h =
    (leave_giving-keeps k x s u s.windows (stepped-went line (step_leave_giving k x s s.windows) u h)).1
step_item-output classes s u _ q h = ap (λ a. a.output) (sym (went_is _ _ h))

append-some : (front rest : List Item) (j : Item) → front ++ j ∷ rest ≢ []
append-some [] rest j e = cc
append-some (f ∷ front) rest j e = cc

ends-append : (front rest : List Item) (j : Item) → EndsMain (j ∷ rest) → EndsMain (front ++ j ∷ rest)
ends-append [] rest j ends = ends
ends-append (f ∷ []) rest j ends = ends
ends-append (f ∷ g ∷ front) rest j ends = ends-append (g ∷ front) rest j ends

-- things to do are left, and the last ends main
abbrev pub IsLeft : State → Type 0
IsLeft u = (u.items ≢ []) × EndsMain u.items

left-behind : (u : State) (rest : List Item) (st : Stmt) → EndsMain (Do st ∷ rest) → Behind rest u → IsLeft u
left-behind u [] st ends b = absurd (cc)
left-behind u (j ∷ rest) st ends b =
    let P : List Item → Type 0 = λ q. EndsMain q in
    (λ e. append-some b.0 rest j (sym b.1 ∙ e), subst P (sym b.1) (ends-append b.0 rest j ends))

ends-rest : (i : Item) (rest : List Item) → EndsMain (i ∷ rest) → EndsMain rest
ends-rest i [] ends = tt
ends-rest i (j ∷ rest) ends = ends

ends-same : (u : State) (i : Item) (rest : List Item) → EndsMain (i ∷ rest) → u.items ≡ rest → EndsMain u.items
ends-same u i rest ends e = let P : List Item → Type 0 = λ q. EndsMain q in subst P (sym e) (ends-rest i rest ends)

step_item-ends : (classes : List Class) (s u : State) (i : Item) (rest : List Item) → s.items ≡ rest → EndsMain (i ∷ rest) →
    step_item classes s i ≡ Went u → EndsMain u.items
step_item-ends classes s u (Do (stmt line k)) rest e ends h =
    let b = step_kind-behind classes s u line k (stepped-went line (step_kind classes s line k) u h) in
    (left-behind u rest (stmt line k) ends (b.0, b.1 ∙ ap (λ q. b.0 ++ q) e)).1
step_item-ends classes s u (LeaveAt k) rest e ends h =
    ends-same u (LeaveAt k) rest ends (ap (λ a. a.items) (sym (went_is _ _ h)) ∙ (leave-keeps k s s.windows).0 ∙ e)
step_item-ends classes s u (LeaveGiving line k x) rest e ends h =
    ends-same u (LeaveGiving line k x) rest ends ((leave_giving-keeps k x s u s.windows (stepped-went line (step_leave_giving k x s s.windows) u h)).0
    ∙ e)
step_item-ends classes s u i rest e ends h = ends-same u i rest ends (ap (λ a. a.items) (sym (went_is _ _ h)) ∙ e)

no-longer : (xs : List Val) (v : Val) → xs ≡ xs ++ v ∷ [] → ⊥
no-longer xs v e = omega (arith, ap length e, length-append xs (v ∷ []))

-- where a value was printed things to do are left
step_item-printed : (classes : List Class) (s u : State) (i : Item) (rest : List Item) (v : Val) → s.items ≡ rest → EndsMain (i ∷ rest) →
    step_item classes s i ≡ Went u → u.output ≡ s.output ++ v ∷ [] → u.items ≢ []
step_item-printed classes s u (Do (stmt line k)) rest v e ends h out =
    let b = step_kind-behind classes s u line k (stepped-went line (step_kind classes s line k) u h) in
    (left-behind u rest (stmt line k) ends (b.0, b.1 ∙ ap (λ q. b.0 ++ q) e)).0
step_item-printed classes s u i rest v e ends h out = absurd (no-longer s.output v (sym (step_item-output classes s u i refl h) ∙ out))

-- what is known of a step that has been made
pub record MadeOf (classes : List Class) (s u : State) (r : Outcome) (empty : Bool) : Type 0 where
  pub first : Item
  pub rest : List Item
  pub items : s.items ≡ first ∷ rest
  pub ends : EndsMain s.items
  pub step : StepIs (next classes s) s u r
  pub quiet : (item_prints first ≡ false) ⊎ PrintsOrStays r
  pub gone : empty ≡ true → u.items ≡ []
  pub left : empty ≡ false → u.items ≢ []

module _ (classes : List Class) (s u : State) (first : Item) (rest : List Item) (items : s.items ≡ first ∷ rest) (ends : EndsMain s.items) where
  next-is : next classes s ≡ step_item classes (record s { items = rest }) first
  next-is = ap (step_first classes s) items

  ends-first : EndsMain (first ∷ rest)
  ends-first = let P : List Item → Type 0 = λ q. EndsMain q in subst P items ends

  next-output : item_prints first ≡ false → next classes s ≡ Went u → u.output ≡ s.output
  next-output q h = step_item-output classes (record s { items = rest }) u first q (sym next-is ∙ h)

  next-ends : next classes s ≡ Went u → EndsMain u.items
  next-ends h = step_item-ends classes (record s { items = rest }) u first rest refl ends-first (sym next-is ∙ h)

  next-printed : (v : Val) → next classes s ≡ Went u → u.output ≡ s.output ++ v ∷ [] → u.items ≢ []
  next-printed v h out = step_item-printed classes (record s { items = rest }) u first rest v refl ends-first (sym next-is ∙ h) out

  output-by : (r : Outcome) → (item_prints first ≡ false) ⊎ PrintsOrStays r → (PrintsOrStays r → ⊥) → next classes s ≡ Went u → u.output ≡ s.output
  output-by r (inl q) never h = next-output q h
  output-by r (inr q) never h = absurd (never q)

  pub settles_by : (r : Outcome) (empty : Bool) → StepIs (next classes s) s u r → (item_prints first ≡ false) ⊎ PrintsOrStays r →
      (empty ≡ true → u.items ≡ []) → (empty ≡ false → u.items ≢ []) → Settles (next classes s) s u (settled_outcome r empty)
  settles_by outcome.Running true h q gone left = (h, gone refl, output-by outcome.Running q (λ p. p) h)
  settles_by outcome.Running false h q gone left = (h, left refl, output-by outcome.Running q (λ p. p) h)
  settles_by (outcome.Printed v) empty h q gone left = (h.0, next-printed v h.0 h.1, h.1)
  settles_by outcome.Done empty h q gone left = (h.0, h.1, output-by outcome.Done q (λ p. p) h.0)
  settles_by (outcome.Trap kind line) empty h q gone left = h
  settles_by outcome.InputFault empty h q gone left = h
  settles_by outcome.Memory empty h q gone left = h

  ends-as : u ≡ s → EndsMain u.items
  ends-as e = let P : State → Type 0 = λ q. EndsMain q.items in subst P (sym e) ends

  pub ends_by : (r : Outcome) → StepIs (next classes s) s u r → EndsMain u.items
  ends_by outcome.Running h = next-ends h
  ends_by (outcome.Printed v) h = next-ends h.0
  ends_by outcome.Done h = next-ends h.0
  ends_by (outcome.Trap kind line) h = ends-as h.1
  ends_by outcome.InputFault h = ends-as h
  ends_by outcome.Memory h = ends-as h

-- so the answer of a step is exact, and the last thing to do ends main
pub settles : (classes : List Class) (s u : State) (r : Outcome) (empty : Bool) → MadeOf classes s u r empty →
    Settles (next classes s) s u (settled_outcome r empty)
settles classes s u r empty m = settles_by classes s u m.first m.rest m.items m.ends r empty m.step m.quiet m.gone m.left

pub ends_main : (classes : List Class) (s u : State) (r : Outcome) (empty : Bool) → MadeOf classes s u r empty → EndsMain u.items
ends_main classes s u r empty m = ends_by classes s u m.first m.rest m.items m.ends r m.step
