-- A step leaves the managers of all regions that were made: a new region's comes behind them.
use Rattle.std.proofs.Common.{◌≡◌, refl, sym, ◌∙◌, ap, subst, ℕ, zero, suc, nat_lt, Bool as Truth, true, false, if◌then◌else◌, List, [], ◌∷◌, ◌++◌}
use Rattle.std.proofs.Common.{length}
use Rattle.std.proofs.Common.{Option, Some, None, option_map, slice_get, slice_set, Result, Ok, arith}
use Rattle.rg_base.specs.declared.limits.TheConstants.{FRAMES}
use Rattle.rg_base.specs.declared.object.Label.{Label}
use Rattle.rg_base.specs.declared.object.Place.{Place}
use Rattle.rg_base.specs.declared.object.Place.TheVariants.{Var, Field}
use Rattle.rg_base.specs.declared.object.Seen.{Seen}
use Rattle.rg_base.specs.declared.outcome.Trap.{Trap}
use Rattle.rg_base.specs.declared.value.Val.{Val}
use Rattle.rg_base.specs.declared.value.Val.TheVariants.{Nil, Int, Bool, Obj}
use Rattle.rg_base.specs.declared.words.Manager.{Manager}
use Rattle.rg_base.specs.Input.{NextNumber, found, malformed, at_end, next_number}
use Rattle.rg_tree.specs.Tree.{Name, Variable, Path, Expr, Call, Right, value, new, new_tmp, new_iso, freeze, merge, read, more, result_of, Method}
use Rattle.rg_tree.specs.Tree.{stmt, StmtKind, declare, assign, assign_element, call, swap, branch, while, enter, print, collect, return}
use Rattle.rg_tree.specs.Tree.{Else, no_else, otherwise, Block, Class}
use Rattle.rg_rules.specs.Answers.{◌>>=◌}
use Rattle.rg_rules.specs.Types.{type_of, class_named, method_named}
use Rattle.rg_rules.specs.Paths.{all_but_last, last_field}
use Rattle.rg_rules.specs.Items.{Item, Do, EndAt, LeaveAt, LeaveGiving, Back}
use Rattle.rg_rules.specs.State.{Target, Declares, Assigns, Drops, Frame, Window, State, locals_of, value_in, add_local, put_local, deliver}
use Rattle.rg_rules.specs.State.{keep_locals}
use Rattle.rg_rules.specs.Values.{as_bool}
use Rattle.rg_rules.specs.Regions.{region_of}
use Rattle.rg_rules.specs.Evaluation.{object_at, with_field, with_element, element_place, follow_fields, path_value, value_of, values_of, computed}
use Rattle.rg_rules.specs.RightSides.{Use, new_object, new_array, array_size, made_new, with_region, frozen, merged, consumed, taken, called}
use Rattle.rg_rules.specs.RightSides.{step_call, with_right}
use Rattle.rg_rules.specs.Steps.{put_field, put_element, step_swap, begin_block, begin_else, with_window, entered, step_enter, step_return, step_kind}
use Rattle.rg_rules.specs.Steps.{Went, step_assign, step_assign_element, step_leave, put_at, step_leave_giving, step_item, step_first, next}
use Rattle.rg_rules.specs.Steps.{without_top}
use Rattle.rg_rules.proofs.Answers.{bind-ok, then-ok, test-then}
use Rattle.rg_rules.proofs.Step.{computed-ok, stepped-went}
use Rattle.rg_sound.proofs.Frames.Quiet.{went_is}
use Rattle.rg_sound.proofs.Basics.{none-some}

ok-is : {A E : Type 0} (a b : A) → ◌≡◌ {A = Result A E} (Ok a) (Ok b) → a ≡ b
ok-is a b h = grind arith

-- the managers that were there are still there
abbrev pub Grows : List Manager → List Manager → Type 0
Grows old now = (n : ℕ) (m : Manager) → slice_get old n ≡ Some m → slice_get now n ≡ Some m

-- so it is of the state behind another one
abbrev Keeps : State → State → Type 0
Keeps s u = Grows s.managers u.managers

same-managers : (s v u : State) → v.managers ≡ s.managers → v ≡ u → Keeps s u
same-managers s v u same is =
    let e : u.managers ≡ s.managers = ap (λ (q : State). q.managers) (sym is) ∙ same in
    λ n m at. ap (λ (ms : List Manager). slice_get ms n) e ∙ at

push-there : (ms : List Manager) (x : Manager) → Grows ms (ms ++ x ∷ [])
push-there [] x n m e = none-some e
push-there (y ∷ ms) x zero m e = e
push-there (y ∷ ms) x (suc n) m e = push-there ms x n m e

-- Where a value goes

abbrev UseKeeps : Use → Type 0
UseKeeps put = (s : State) (v : Val) → Keeps s (put s v)

behind : (s w u : State) (put : Use) (v : Val) → UseKeeps put → w.managers ≡ s.managers → put w v ≡ u → Keeps s u
behind s w u put v keeps same is =
    let P : List Manager → Type 0 = λ ms. Grows ms u.managers in
    subst P same (subst (λ (q : State). Keeps w q) is (keeps w v))

local-keeps : (x : Variable) → UseKeeps (put_local x)
local-keeps x s v n m e = e

field-keeps : (classes : List Class) (at : Val) (x : Name) → UseKeeps (put_field classes at x)
field-keeps classes Nil x s v n m e = e
field-keeps classes (Int z) x s v n m e = e
field-keeps classes (Bool b) x s v n m e = e
field-keeps classes (Obj a) x s v n m e = by (slice_get s.store a)
  where
    by : (o : Option Seen) → slice_get ((λ (q : State). q.managers)
        (elim o [ None ↦ s | Some o ↦ record s { store = slice_set s.store a (with_field classes x v o) } ])) n ≡ Some m
    by None = e
    by (Some o) = e

element-keeps : (at : Val) (k : ℕ) → UseKeeps (put_element at k)
element-keeps Nil k s v n m e = e
element-keeps (Int z) k s v n m e = e
element-keeps (Bool b) k s v n m e = e
element-keeps (Obj a) k s v n m e = by (slice_get s.store a)
  where
    by : (o : Option Seen) → slice_get ((λ (q : State). q.managers)
        (elim o [ None ↦ s | Some o ↦ record s { store = slice_set s.store a (with_element k v o) } ])) n ≡ Some m
    by None = e
    by (Some o) = e

-- Right sides

region-keeps : (put : Use) → UseKeeps put → (m : Manager) → UseKeeps (with_region m put)
region-keeps put keeps x s v n m e =
    keeps (record s { managers = s.managers ++ x ∷ [] }) v n m (push-there s.managers x n m e)

new-keeps : (classes : List Class) (s u : State) (put : Use) → UseKeeps put → (x : Name) (size : Option Expr) (label : Label)
    → made_new classes s put x size label ≡ Ok u → Keeps s u
new-keeps classes s u put keeps x None label h = by (class_named classes x) h
  where
    by : (c : Option Class) → ◌≡◌ {A = Result State Trap} (Ok (elim c [
      | None ↦ s
      | Some c ↦ put (record s { store = s.store ++ new_object classes x label ∷ [] }) (Obj (length s.store))
    ])) (Ok u) → Keeps s u
    by None e = same-managers s s u refl (ok-is s u e)
    by (Some c) e =
        let w : State = record s { store = s.store ++ new_object classes x label ∷ [] } in
        behind s w u put (Obj (length s.store)) keeps refl (ok-is (put w (Obj (length s.store))) u e)
new-keeps classes s u put keeps x (Some e) label h = by (class_named classes x) h
  where
    by : (c : Option Class) → ◌≡◌ {A = Result State Trap} (elim c [
      | None ↦ Ok s
      | Some c ↦ ◌>>=◌ (value_of classes s.store (locals_of s) e) (λ v. ◌>>=◌ (array_size v) (λ n.
          Ok (put (record s { store = s.store ++ new_array classes x c n label ∷ [] }) (Obj (length s.store)))))
    ]) (Ok u) → Keeps s u
    by None k = same-managers s s u refl (ok-is s u k)
    by (Some c) k =
        let v = bind-ok (value_of classes s.store (locals_of s) e) _ u k in
        let n = bind-ok (array_size v.0) _ u v.2 in
        let w : State = record s { store = s.store ++ new_array classes x c n.0 label ∷ [] } in
        behind s w u put (Obj (length s.store)) keeps refl (ok-is (put w (Obj (length s.store))) u n.2)

taken-keeps : (s u : State) (put : Use) → UseKeeps put → (n : NextNumber) → taken s put n ≡ Ok u → Keeps s u
taken-keeps s u put keeps (found z rest) h =
    behind s (record s { input = rest }) u put (Int z) keeps refl (ok-is (put (record s { input = rest }) (Int z)) u h)
taken-keeps s u put keeps malformed h = grind arith
taken-keeps s u put keeps at_end h = grind arith

consumed-keeps : (s u : State) (put : Use) → UseKeeps put → (y : Name) (l : Option ℕ) (f : ℕ → State)
    → ((g : ℕ) → (f g).managers ≡ s.managers) → consumed s put (Some y) (option_map f l) ≡ u → Keeps s u
consumed-keeps s u put keeps y None f same is = same-managers s s u refl is
consumed-keeps s u put keeps y (Some g) f same is =
    behind s (put_local (Some y) (f g) Nil) u put (value_in (locals_of s) (Some y)) keeps (same g) is

call-keeps : (classes : List Class) (s u : State) (target : Target) (c : Call) → step_call classes s target c ≡ Ok u → Keeps s u
call-keeps classes s u target c h =
    let self = bind-ok (path_value classes s.store (locals_of s) c.target) _ u h in
    let o = bind-ok (object_at s.store self.0) _ u self.2 in
    by self.0 o.0.class (method_named classes o.0.class c.method) o.2
  where
    by : (self : Val) (class : ℕ) (m : Option Method) → called classes s target c self class m ≡ Ok u → Keeps s u
    by self class None e = same-managers s s u refl (ok-is s u e)
    by self class (Some m) e =
        let args = bind-ok (values_of classes s.store (locals_of s) c.args) _ u e in
        let room = test-then (nat_lt (length s.frames) FRAMES) _ _ u args.2 in
        same-managers s _ u refl (ok-is _ u room.1)

right-keeps : (classes : List Class) (s u : State) (target : Target) (put : Use) → UseKeeps put → (r : Right)
    → with_right classes s target put r ≡ Ok u → Keeps s u
right-keeps classes s u target put keeps (value e) h =
    let c = bind-ok (computed classes s e) _ u h in
    let after = computed-ok classes s e c.0 c.1 in
    behind s c.0.0 u put c.0.1 keeps (ap (λ (q : State). q.managers) after.state) (ok-is (put c.0.0 c.0.1) u c.2)
right-keeps classes s u target put keeps (new x size) h = new-keeps classes s u put keeps x size _ h
right-keeps classes s u target put keeps (new_tmp x size) h = new-keeps classes s u put keeps x size _ h
right-keeps classes s u target put keeps (new_iso x size m) h = new-keeps classes s u (with_region m put) (region-keeps put keeps m) x size _ h
right-keeps classes s u target put keeps (freeze y) h =
    let o = bind-ok (object_at s.store (value_in (locals_of s) (Some y))) _ u h in
    consumed-keeps s u put keeps y (region_of o.0.label) (frozen classes s) (λ g. refl) (ok-is _ u o.2)
right-keeps classes s u target put keeps (merge y) h =
    let o = bind-ok (object_at s.store (value_in (locals_of s) (Some y))) _ u h in
    consumed-keeps s u put keeps y (region_of o.0.label) (merged s) (λ g. refl) (ok-is _ u o.2)
right-keeps classes s u target put keeps read h = taken-keeps s u put keeps (next_number s.input) h
right-keeps classes s u target put keeps more h = behind s s u put _ keeps refl (ok-is _ u h)
right-keeps classes s u target put keeps (result_of c) h = call-keeps classes s u target c h

-- Statements

assign-keeps : (classes : List Class) (s u : State) (x : Variable) (fs : List Name) (r : Right) → step_assign classes s x fs r ≡ Ok u → Keeps s u
assign-keeps classes s u x [] r h = right-keeps classes s u (Assigns x) (put_local x) (local-keeps x) r h
assign-keeps classes s u x (f ∷ fs) r h =
    let at = bind-ok (follow_fields classes s.store (value_in (locals_of s) x) (all_but_last f fs)) _ u h in
    let host = then-ok (object_at s.store at.0) _ u at.2 in
    right-keeps classes s u Drops (put_field classes at.0 (last_field f fs)) (field-keeps classes at.0 (last_field f fs)) r host.2

assign_element-keeps : (classes : List Class) (s u : State) (q : Path) (e : Expr) (r : Right) → step_assign_element classes s q e r ≡ Ok u
    → Keeps s u
assign_element-keeps classes s u q e r h =
    let at = bind-ok (path_value classes s.store (locals_of s) q) _ u h in
    let host = bind-ok (object_at s.store at.0) _ u at.2 in
    let i = bind-ok (value_of classes s.store (locals_of s) e) _ u host.2 in
    let place = bind-ok (element_place host.0 i.0) _ u i.2 in
    right-keeps classes s u Drops (put_element at.0 place.0) (element-keeps at.0 place.0) r place.2

swap-keeps : (classes : List Class) (s u : State) (y x : Variable) (fs : List Name) → step_swap classes s y x fs ≡ Ok u → Keeps s u
swap-keeps classes s u y x [] h = same-managers s s u refl (ok-is s u h)
swap-keeps classes s u y x (f ∷ fs) h =
    let at = bind-ok (follow_fields classes s.store (value_in (locals_of s) x) (all_but_last f fs)) _ u h in
    let o = bind-ok (object_at s.store at.0) _ u at.2 in
    subst (λ (q : State). Keeps s q) (ok-is _ u o.2) (field-keeps classes at.0 (last_field f fs) s (value_in (locals_of s) y))

-- behind an expression, a state with the same managers
computed-then : (classes : List Class) (s u : State) (e : Expr) (go : State × Val → State)
    → ((p : State × Val) → (go p).managers ≡ p.0.managers) → (p : State × Val) → computed classes s e ≡ Ok p
    → ◌≡◌ {A = Result State Trap} (Ok (go p)) (Ok u) → Keeps s u
computed-then classes s u e go same p at is =
    same-managers s (go p) u (same p ∙ ap (λ (q : State). q.managers) (computed-ok classes s e p at).state) (ok-is (go p) u is)

branch-keeps : (classes : List Class) (s u : State) (e : Expr) (first : Block) (other : Else) (line : ℕ)
    → step_kind classes s line (branch e first other) ≡ Ok u → Keeps s u
branch-keeps classes s u e first other line h =
    let done = bind-ok (computed classes s e) _ u h in
    computed-then classes s u e (λ p. if as_bool p.1 then begin_block p.0 first else begin_else p.0 other)
    (λ p. by (as_bool p.1) p.0 other) done.0 done.1 done.2
  where
    by : (b : Truth) (w : State) (rest : Else)
        → (λ (q : State). q.managers) (if b then begin_block w first else begin_else w rest) ≡ w.managers
    by true w rest = refl
    by false w no_else = refl
    by false w (otherwise b) = refl

while-keeps : (classes : List Class) (s u : State) (e : Expr) (body : Block) (line : ℕ) → step_kind classes s line (while e body) ≡ Ok u
    → Keeps s u
while-keeps classes s u e body line h =
    let done = bind-ok (computed classes s e) _ u h in
    computed-then classes s u e
    (λ p. if as_bool p.1 then begin_block (record p.0 { items = Do (stmt line (while e body)) ∷ s.items }) body else p.0)
    (λ p. by (as_bool p.1) p.0) done.0 done.1 done.2
  where
    by : (b : Truth) (w : State) → (λ (q : State). q.managers)
        (if b then begin_block (record w { items = Do (stmt line (while e body)) ∷ s.items }) body else w) ≡ w.managers
    by true w = refl
    by false w = refl

entered-keeps : (s u : State) (owner : Place) (z : Name) (body : Block) (after : ℕ → Item) (bridge : Val)
    → entered s owner z body after bridge ≡ Ok u → Keeps s u
entered-keeps s u owner z body after bridge h =
    let o = bind-ok (object_at s.store bridge) _ u h in by o.0.class (region_of o.0.label) (ok-is _ u o.2)
  where
    by : (class : ℕ) (r : Option ℕ) → with_window s owner z body after bridge class r ≡ u → Keeps s u
    by class None is = same-managers s s u refl is
    by class (Some r) is = same-managers s _ u refl is

enter-keeps : (classes : List Class) (s u : State) (x : Variable) (fs : List Name) (z : Name) (body : Block) (after : ℕ → Item)
    → step_enter classes s x fs z body after ≡ Ok u → Keeps s u
enter-keeps classes s u x [] z body after h = entered-keeps s u _ z body after _ h
enter-keeps classes s u x (f ∷ fs) z body after h =
    let at = bind-ok (follow_fields classes s.store (value_in (locals_of s) x) (all_but_last f fs)) _ u h in
    let o = bind-ok (object_at s.store at.0) _ u at.2 in entered-keeps s u _ z body after _ o.2

return-keeps : (classes : List Class) (s u : State) (e : Expr) (frames : List Frame) → step_return classes s e frames ≡ Ok u → Keeps s u
return-keeps classes s u e [] h = same-managers s s u refl (ok-is s u h)
return-keeps classes s u e (f ∷ []) h = same-managers s s u refl (ok-is s u h)
return-keeps classes s u e (f ∷ g ∷ fs) h =
    let done = bind-ok (computed classes s e) _ u h in by f.target done.0.1 (ok-is _ u done.2)
  where
    by : (target : Target) (v : Val) → deliver target (record s { frames = g ∷ fs }) v ≡ u → Keeps s u
    by (Declares x ty) v is = same-managers s _ u refl is
    by (Assigns x) v is = same-managers s _ u refl is
    by Drops v is = same-managers s _ u refl is

print-keeps : (classes : List Class) (s u : State) (e : Expr) (line : ℕ) → step_kind classes s line (print e) ≡ Ok u → Keeps s u
print-keeps classes s u e line h =
    let done = bind-ok (computed classes s e) _ u h in
    computed-then classes s u e (λ p. record p.0 { output = s.output ++ p.1 ∷ [] }) (λ p. refl) done.0 done.1 done.2

kind-keeps : (k : StmtKind) (classes : List Class) (s u : State) (line : ℕ) → step_kind classes s line k ≡ Ok u → Keeps s u
kind-keeps (declare x ty r) classes s u line h =
    right-keeps classes s u (Declares x (type_of classes ty)) (add_local (Some x) (type_of classes ty)) (λ w v n m e. e) r h
kind-keeps (assign p r) classes s u line h = assign-keeps classes s u p.base p.fields r h
kind-keeps (assign_element q e r) classes s u line h = assign_element-keeps classes s u q e r h
kind-keeps (call c) classes s u line h = call-keeps classes s u Drops c h
kind-keeps (swap y p) classes s u line h = swap-keeps classes s u (Some y) p.base p.fields h
kind-keeps (branch e first other) classes s u line h = branch-keeps classes s u e first other line h
kind-keeps (while e body) classes s u line h = while-keeps classes s u e body line h
kind-keeps (enter p z body giving) classes s u line h = enter-keeps classes s u p.base p.fields z body _ h
kind-keeps (print e) classes s u line h = print-keeps classes s u e line h
kind-keeps collect classes s u line h = same-managers s s u refl (ok-is _ u h)
kind-keeps (return e) classes s u line h = return-keeps classes s u e s.frames h

-- Steps

left-managers : (k : ℕ) (s : State) (ws : List Window) → (step_leave k s ws).managers ≡ s.managers
left-managers k s [] = refl
left-managers k s (w ∷ []) = refl
left-managers k s (w ∷ v ∷ ws) = refl

put_at-keeps : (s w u : State) → w.managers ≡ s.managers → (p : Option Place) (v : Val) → put_at p w v ≡ u → Keeps s u
put_at-keeps s w u same None v is = same-managers s w u same is
put_at-keeps s w u same (Some (Var n i)) v is = same-managers s _ u same is
put_at-keeps s w u same (Some (Field a k)) v is = behind s w u (put_element (Obj a) k) v (element-keeps (Obj a) k) same is

giving-keeps : (s u : State) (k : ℕ) (x : Name) (ws : List Window) → step_leave_giving k x s ws ≡ Ok u → Keeps s u
giving-keeps s u k x [] h = same-managers s s u refl (ok-is s u h)
giving-keeps s u k x (w ∷ []) h = same-managers s s u refl (ok-is s u h)
giving-keeps s u k x (w ∷ v ∷ ws) h =
    let o = then-ok (object_at s.store (value_in (locals_of s) (Some x))) _ u h in
    put_at-keeps s (step_leave k s (w ∷ v ∷ ws)) u (left-managers k s (w ∷ v ∷ ws)) w.owner (value_in (locals_of s) (Some x)) (ok-is _ u o.2)

item-keeps : (i : Item) (classes : List Class) (s u : State) → step_item classes s i ≡ Went u → Keeps s u
item-keeps (Do (stmt line k)) classes s u h = kind-keeps k classes s u line (stepped-went line (step_kind classes s line k) u h)
item-keeps (EndAt k) classes s u h = same-managers s _ u refl (went_is (keep_locals k s) u h)
item-keeps (LeaveAt k) classes s u h =
    same-managers s (step_leave k s s.windows) u (left-managers k s s.windows) (went_is (step_leave k s s.windows) u h)
item-keeps (LeaveGiving line k x) classes s u h = giving-keeps s u k x s.windows (stepped-went line (step_leave_giving k x s s.windows) u h)
item-keeps Back classes s u h = same-managers s _ u refl (went_is (record s { frames = without_top s.frames }) u h)

pub managers-stay : (classes : List Class) (s u : State) → next classes s ≡ Went u → Grows s.managers u.managers
managers-stay classes s u went = by s.items refl
  where
    by : (items : List Item) → s.items ≡ items → Keeps s u
    by [] e = same-managers s s u refl (went_is s u (sym (ap (step_first classes s) e) ∙ went))
    by (i ∷ rest) e = item-keeps i classes (record s { items = rest }) u (sym (ap (step_first classes s) e) ∙ went)
