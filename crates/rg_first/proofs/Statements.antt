-- A step of a statement: objects of region 0 are still there.
use Rattle.std.proofs.Common.{◌≡◌, refl, sym, ◌∙◌, ap, subst, ℕ, Bool as Truth, true, false, if◌then◌else◌, List, [], ◌∷◌, ◌++◌, Option, Some, None}
use Rattle.std.proofs.Common.{Result, Ok}
use Rattle.rg_base.specs.declared.ty.Ty.TheVariants.{Int}
use Rattle.rg_base.specs.declared.object.Place.{Place}
use Rattle.rg_base.specs.declared.value.Val.{Val}
use Rattle.rg_base.specs.declared.outcome.Trap.{Trap}
use Rattle.rg_tree.specs.Tree.{Name, Variable, Path, Ty as Written, Expr, Right, stmt, StmtKind, declare, assign, assign_element, call, swap, branch}
use Rattle.rg_tree.specs.Tree.{while, enter, print, collect, return, Else, no_else, otherwise, Block, Class, Tree}
use Rattle.rg_rules.specs.Acceptance.{Accepted}
use Rattle.rg_rules.specs.Types.{type_of}
use Rattle.rg_rules.specs.Environment.{Env}
use Rattle.rg_rules.specs.Paths.{all_but_last, last_field}
use Rattle.rg_rules.specs.Rights.{judge_right}
use Rattle.rg_rules.specs.Statements.{judge_declare, judge_assign, judge_assign_element}
use Rattle.rg_rules.specs.Items.{Item, Do}
use Rattle.rg_rules.specs.State.{Target, Declares, Assigns, Drops, Frame, State, locals_of, value_in, add_local, put_local, deliver}
use Rattle.rg_rules.specs.Values.{as_bool}
use Rattle.rg_rules.specs.Regions.{region_of}
use Rattle.rg_rules.specs.Evaluation.{object_at, element_place, follow_fields, path_value, value_of, computed}
use Rattle.rg_rules.specs.Steps.{put_field, put_element, step_swap, begin_block, begin_else, with_window, entered}
use Rattle.rg_rules.specs.Steps.{step_enter, step_return, step_kind}
use Rattle.rg_rules.proofs.Answers.{bind-ok, then-ok, at_line-ok}
use Rattle.rg_rules.proofs.Expression.{judge_expr-env, number-not_iso}
use Rattle.rg_rules.proofs.Step.{computed-ok}
use Rattle.rg_sound.specs.Fit.{Fit}
use Rattle.rg_sound.proofs.Frames.Judge.{judge_declare-parts, judge_assign-parts, judge_assign-field, judge_assign-element}
use Rattle.rg_sound.proofs.Values.Assign.{doing, doing-judges}
use Rattle.rg_first.proofs.Stores.{Keeps, keeps-same, keeps-is, field-keeps, element-keeps}
use Rattle.rg_first.proofs.Rights.{ok-is, right-spares, call-keeps, right-keeps}

-- a state in front of whose items a statement stands: what this statement leaves
abbrev KindKeeps : StmtKind → Type 0
KindKeeps k = (t : Tree) (s u : State) (line : ℕ) (rest : List Item) → Accepted t → Fit t s → s.items ≡ Do (stmt line k) ∷ rest
    → step_kind t.classes (record s { items = rest }) line k ≡ Ok u → Keeps s.store u.store

-- a state with the store of another one
pub stored : (s v u : State) → v.store ≡ s.store → v ≡ u → Keeps s.store u.store
stored s v u same is = keeps-is s.store u.store (ap (λ (q : State). q.store) (sym is) ∙ same)

declare-keeps : (x : Name) (ty : Written) (r : Right) → KindKeeps (declare x ty r)
declare-keeps x ty r t s u line rest a fit is h =
    let d = doing t a s line (declare x ty r) rest is fit in
    let j = doing-judges t s line (declare x ty r) rest d in
    let p = judge_declare-parts t.classes d.r.spot.env j.out x ty r (at_line-ok line (judge_declare t.classes d.r.spot.env x ty r) j.out j.judged) in
    right-keeps t.classes (record s { items = rest }) u fit.forest (Declares x (type_of t.classes ty)) (add_local (Some x) (type_of t.classes ty))
    (λ w v. keeps-same w.store) r (right-spares t s line (declare x ty r) rest d p.declared r p.judged p.typed) h

assign-keeps : (x : Variable) (fs : List Name) (r : Right) → KindKeeps (assign (record { base = x; fields = fs }) r)
assign-keeps x [] r t s u line rest a fit is h =
    let k : StmtKind = assign (record { base = x; fields = [] }) r in
    let d = doing t a s line k rest is fit in
    let j = doing-judges t s line k rest d in
    let p = judge_assign-parts t.classes d.r.spot.env j.out x r (at_line-ok line (judge_assign t.classes d.r.spot.env x [] r) j.out j.judged) in
    right-keeps t.classes (record s { items = rest }) u fit.forest (Assigns x) (put_local x) (λ w v. keeps-same w.store) r
    (right-spares t s line k rest d p.entry.ty r p.judged p.typed) h
assign-keeps x (f ∷ fs) r t s u line rest a fit is h =
    let k : StmtKind = assign (record { base = x; fields = f ∷ fs }) r in
    let d = doing t a s line k rest is fit in
    let j = doing-judges t s line k rest d in
    let p = judge_assign-field t.classes d.r.spot.env j.out x f fs r
    (at_line-ok line (judge_assign t.classes d.r.spot.env x (f ∷ fs) r) j.out j.judged) in
    let at = bind-ok (follow_fields t.classes s.store (value_in (locals_of s) x) (all_but_last f fs)) _ u h in
    let host = then-ok (object_at s.store at.0) _ u at.2 in
    right-keeps t.classes (record s { items = rest }) u fit.forest Drops (put_field t.classes at.0 (last_field f fs))
    (field-keeps t.classes at.0 (last_field f fs)) r (right-spares t s line k rest d p.ty r p.judged p.typed) host.2

assign_element-keeps : (q : Path) (e : Expr) (r : Right) → KindKeeps (assign_element q e r)
assign_element-keeps q e r t s u line rest a fit is h =
    let k : StmtKind = assign_element q e r in
    let d = doing t a s line k rest is fit in
    let j = doing-judges t s line k rest d in
    let p = judge_assign-element t.classes d.r.spot.env j.out q.base q.fields e r
    (at_line-ok line (judge_assign_element t.classes d.r.spot.env q.base q.fields e r) j.out j.judged) in
    let same : p.index.env ≡ d.r.spot.env = judge_expr-env t.classes d.r.spot.env (Some Int) e p.index p.index_typed
    (number-not_iso t.classes d.r.spot.env e p.index p.index_typed) in
    let P : Env → Type 0 = λ z. judge_right t.classes z p.array.ty r ≡ Ok p.judged in
    let at = bind-ok (path_value t.classes s.store (locals_of s) q) _ u h in
    let host = bind-ok (object_at s.store at.0) _ u at.2 in
    let i = bind-ok (value_of t.classes s.store (locals_of s) e) _ u host.2 in
    let place = bind-ok (element_place host.0 i.0) _ u i.2 in
    right-keeps t.classes (record s { items = rest }) u fit.forest Drops (put_element at.0 place.0) (element-keeps at.0 place.0) r
    (right-spares t s line k rest d p.array.ty r p.judged (subst P same p.typed)) place.2

swap-keeps : (classes : List Class) (s u : State) (y x : Variable) (fs : List Name) → step_swap classes s y x fs ≡ Ok u → Keeps s.store u.store
swap-keeps classes s u y x [] h = stored s s u refl (ok-is s u h)
swap-keeps classes s u y x (f ∷ fs) h =
    let at = bind-ok (follow_fields classes s.store (value_in (locals_of s) x) (all_but_last f fs)) _ u h in
    let o = bind-ok (object_at s.store at.0) _ u at.2 in
    subst (λ (q : State). Keeps s.store q.store) (ok-is _ u o.2) (field-keeps classes at.0 (last_field f fs) s (value_in (locals_of s) y))

-- behind an expression, a state with the same store
computed-then : (classes : List Class) (s u : State) (e : Expr) (go : State × Val → State) → ((p : State × Val) → (go p).store ≡ p.0.store)
    → (p : State × Val) → computed classes s e ≡ Ok p → ◌≡◌ {A = Result State Trap} (Ok (go p)) (Ok u) → Keeps s.store u.store
computed-then classes s u e go same p at is =
    stored s (go p) u (same p ∙ ap (λ (q : State). q.store) (computed-ok classes s e p at).state) (ok-is (go p) u is)

branch-keeps : (classes : List Class) (s u : State) (e : Expr) (first : Block) (other : Else) (line : ℕ)
    → step_kind classes s line (branch e first other) ≡ Ok u → Keeps s.store u.store
branch-keeps classes s u e first other line h =
    let done = bind-ok (computed classes s e) _ u h in
    computed-then classes s u e (λ p. if as_bool p.1 then begin_block p.0 first else begin_else p.0 other)
    (λ p. by (as_bool p.1) p.0 other) done.0 done.1 done.2
  where
    by : (b : Truth) (w : State) (rest : Else)
        → (λ (q : State). q.store) (if b then begin_block w first else begin_else w rest) ≡ w.store
    by true w rest = refl
    by false w no_else = refl
    by false w (otherwise b) = refl

while-keeps : (classes : List Class) (s u : State) (e : Expr) (body : Block) (line : ℕ) → step_kind classes s line (while e body) ≡ Ok u
    → Keeps s.store u.store
while-keeps classes s u e body line h =
    let done = bind-ok (computed classes s e) _ u h in
    computed-then classes s u e
    (λ p. if as_bool p.1 then begin_block (record p.0 { items = Do (stmt line (while e body)) ∷ s.items }) body else p.0)
    (λ p. by (as_bool p.1) p.0) done.0 done.1 done.2
  where
    by : (b : Truth) (w : State) → (λ (q : State). q.store)
        (if b then begin_block (record w { items = Do (stmt line (while e body)) ∷ s.items }) body else w) ≡ w.store
    by true w = refl
    by false w = refl

entered-keeps : (s u : State) (owner : Place) (z : Name) (body : Block) (after : ℕ → Item) (bridge : Val) → entered s owner z body after bridge ≡ Ok u
    → Keeps s.store u.store
entered-keeps s u owner z body after bridge h =
    let o = bind-ok (object_at s.store bridge) _ u h in by o.0.class (region_of o.0.label) (ok-is _ u o.2)
  where
    by : (class : ℕ) (r : Option ℕ) → with_window s owner z body after bridge class r ≡ u → Keeps s.store u.store
    by class None is = stored s s u refl is
    by class (Some r) is = stored s _ u refl is

enter-keeps : (classes : List Class) (s u : State) (x : Variable) (fs : List Name) (z : Name) (body : Block) (after : ℕ → Item)
    → step_enter classes s x fs z body after ≡ Ok u → Keeps s.store u.store
enter-keeps classes s u x [] z body after h = entered-keeps s u _ z body after _ h
enter-keeps classes s u x (f ∷ fs) z body after h =
    let at = bind-ok (follow_fields classes s.store (value_in (locals_of s) x) (all_but_last f fs)) _ u h in
    let o = bind-ok (object_at s.store at.0) _ u at.2 in entered-keeps s u _ z body after _ o.2

return-keeps : (classes : List Class) (s u : State) (e : Expr) (frames : List Frame) → step_return classes s e frames ≡ Ok u → Keeps s.store u.store
return-keeps classes s u e [] h = stored s s u refl (ok-is s u h)
return-keeps classes s u e (f ∷ []) h = stored s s u refl (ok-is s u h)
return-keeps classes s u e (f ∷ g ∷ fs) h =
    let done = bind-ok (computed classes s e) _ u h in by f.target done.0.1 (ok-is _ u done.2)
  where
    by : (target : Target) (v : Val) → deliver target (record s { frames = g ∷ fs }) v ≡ u → Keeps s.store u.store
    by (Declares x ty) v is = stored s _ u refl is
    by (Assigns x) v is = stored s _ u refl is
    by Drops v is = stored s _ u refl is

print-keeps : (classes : List Class) (s u : State) (e : Expr) (line : ℕ) → step_kind classes s line (print e) ≡ Ok u → Keeps s.store u.store
print-keeps classes s u e line h =
    let done = bind-ok (computed classes s e) _ u h in
    computed-then classes s u e (λ p. record p.0 { output = s.output ++ p.1 ∷ [] }) (λ p. refl) done.0 done.1 done.2

pub kind-keeps : (k : StmtKind) → KindKeeps k
kind-keeps (declare x ty r) = declare-keeps x ty r
kind-keeps (assign p r) = assign-keeps p.base p.fields r
kind-keeps (assign_element q e r) = assign_element-keeps q e r
kind-keeps (call c) = λ t s u line rest a fit is h. call-keeps t.classes (record s { items = rest }) u Drops c h
kind-keeps (swap y p) = λ t s u line rest a fit is h. swap-keeps t.classes (record s { items = rest }) u (Some y) p.base p.fields h
kind-keeps (branch e first other) = λ t s u line rest a fit is h. branch-keeps t.classes (record s { items = rest }) u e first other line h
kind-keeps (while e body) = λ t s u line rest a fit is h. while-keeps t.classes (record s { items = rest }) u e body line h
kind-keeps (enter p z body giving) = λ t s u line rest a fit is h.
    enter-keeps t.classes (record s { items = rest }) u p.base p.fields z body _ h
kind-keeps (print e) = λ t s u line rest a fit is h. print-keeps t.classes (record s { items = rest }) u e line h
kind-keeps collect = λ t s u line rest a fit is h. stored s (record s { items = rest }) u refl (ok-is _ u h)
kind-keeps (return e) = λ t s u line rest a fit is h. return-keeps t.classes (record s { items = rest }) u e s.frames h
