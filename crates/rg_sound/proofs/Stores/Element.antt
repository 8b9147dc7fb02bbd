-- `q[e] = r` keeps the invariant.
use Rattle.std.proofs.Common.{◌≡◌, refl, sym, ◌∙◌, ap, subst, inl, ℕ, ◌<◌, true, false, List, [], ◌∷◌, length, Some}
use Rattle.std.proofs.Common.{option_and_then, slice_get, slice_set, Ok, arith}
use Rattle.rg_base.specs.declared.ty.Ty.{Ty}
use Rattle.rg_base.specs.declared.ty.Ty.TheVariants.{Int}
use Rattle.rg_base.specs.declared.object.Seen.{Seen}
use Rattle.rg_base.specs.declared.value.Val.{Val}
use Rattle.rg_base.specs.declared.value.Val.TheVariants.{Obj}
use Rattle.rg_tree.specs.Tree.{Path, Expr, Field as FieldOfClass, Right, Call, result_of, StmtKind, assign_element, stmt, Class, Tree}
use Rattle.rg_rules.specs.Acceptance.{Accepted}
use Rattle.rg_rules.specs.Capabilities.{below}
use Rattle.rg_rules.specs.Types.{fields_of, element_type}
use Rattle.rg_rules.specs.Headers.{suits_field_type}
use Rattle.rg_rules.specs.Environment.{Env}
use Rattle.rg_rules.specs.Rights.{judge_right}
use Rattle.rg_rules.specs.Statements.{judge_assign_element}
use Rattle.rg_rules.specs.Items.{Item, Do}
use Rattle.rg_rules.specs.State.{Local, Frame, Window, State, Drops, locals_of, top_locals}
use Rattle.rg_rules.specs.Evaluation.{object_at, element_place, with_element, path_value, value_of}
use Rattle.rg_rules.specs.Regions.{region_at, owned_as}
use Rattle.rg_rules.specs.Owners.{owned_by_slot}
use Rattle.rg_rules.specs.Steps.{step_kind, put_element}
use Rattle.rg_rules.proofs.Answers.{bind-ok, at_line-ok}
use Rattle.rg_rules.proofs.Expression.{judge_expr-env, number-not_iso}
use Rattle.rg_rules.proofs.Step.{stepped-went}
use Rattle.rg_sound.specs.Values.{MeetsBy, Meets}
use Rattle.rg_sound.specs.Objects.{FieldFits, FieldsMeet, element_field, fields_in, ObjectFits}
use Rattle.rg_sound.specs.Frames.{FramesFit, Running}
use Rattle.rg_sound.specs.Laws.{StaysFit, KindKeeps}
use Rattle.rg_sound.proofs.Frames.Advance.{running-advance}
use Rattle.rg_sound.proofs.Frames.Judge.{ElementAssigned, judge_assign-element, judge_assign_element-stays}
use Rattle.rg_sound.proofs.Frames.Stands.{stands-stays}
use Rattle.rg_sound.proofs.Frames.Top.{top-sees}
use Rattle.rg_sound.proofs.Values.Declared.{get-element, element-is, declared-elements, no-fields, array-class}
use Rattle.rg_sound.proofs.Values.Value.{below-meets, array-at, place-within}
use Rattle.rg_sound.proofs.Values.Assign.{Doing, doing, doing-judges, Righted, RightGives, RightBelow}
use Rattle.rg_sound.proofs.Owners.Owner.{length-slice_set}
use Rattle.rg_sound.proofs.Owners.Data.{Data, data-fit}
use Rattle.rg_sound.proofs.Owners.Receiver.{IsTop, writes-top}
use Rattle.rg_sound.proofs.Stores.Store.{FieldsMeet-set, store-set}
use Rattle.rg_sound.proofs.Stores.Field.{suited, ordinary-class, type-holds, allowed-then}
use Rattle.rg_sound.specs.Bridges.{BridgesFit}
use Rattle.rg_sound.proofs.Owners.Bridge.{classes-then, classes-set, named-types, bridges-top}
use Rattle.rg_sound.proofs.Frames.Quiet.{active-allowed}

pub put_element-is : (at : Val) (k : ℕ) (s : State) (v : Val) (a : ℕ) (o : Seen) → at ≡ Obj a → slice_get s.store a ≡ Some o →
    put_element at k s v ≡ record s { store = slice_set s.store a (with_element k v o) }
put_element-is at k s v a o e there = rw (e, put_element, there) refl

-- an object of a class without fields owns nothing, whatever its values are
owns-nothing : (classes : List Class) (o n : Seen) (j : ℕ) → n.class ≡ o.class → fields_of classes o.class ≡ [] →
    owned_by_slot classes n j ≡ owned_by_slot classes o j
owns-nothing classes o n j class none =
    ap (λ (q : List FieldOfClass). option_and_then (λ (f : FieldOfClass). option_and_then (owned_as classes f) (slice_get n.fields j)) (slice_get q
    j))
    (ap (fields_of classes) class ∙ none)
    ∙ sym (ap (λ (q : List FieldOfClass). option_and_then (λ (f : FieldOfClass). option_and_then (owned_as classes f) (slice_get o.fields j))
    (slice_get q j)) none)

-- another element of the same type
element-set : (classes : List Class) (store : List Seen) (ws : List Window) (o : Seen) (fit : ObjectFits classes store ws o) (t : Ty) (k : ℕ) (v :
    Val) →
    element_type classes o.class ≡ Some t → k < length o.fields → MeetsBy store (FieldFits ws o.label) t v →
    FieldsMeet classes store (FieldFits ws o.label) (fields_in classes fit.class o) (slice_set o.fields k v)
element-set classes store ws o fit t k v declared within m =
    let e = element-is classes store ws o fit t declared in
    let P : Ty → Type 0 = λ q. MeetsBy store (FieldFits ws o.label) q v in
    FieldsMeet-set classes store (FieldFits ws o.label) (fields_in classes fit.class o) o.fields k (element_field e.0) v fit.fields
    (ap (λ q. slice_get q k) (declared-elements classes store ws o fit e.0 e.1) ∙ get-element (length o.fields) k (element_field e.0) within)
    (subst P (sym e.2) m)

-- a value of the element's type may go there
pub element-holds : (t : Tree) → Accepted t → (store : List Seen) (ws : List Window) (o : Seen) (fit : ObjectFits t.classes store ws o) (ty : Ty) (v :
    Val) →
    element_type t.classes o.class ≡ Some ty → IsTop ws o.label → Meets store ws ty v → MeetsBy store (FieldFits ws o.label) ty v
element-holds t a store ws o fit ty v declared top m =
    let e = element-is t.classes store ws o fit ty declared in
    let c = array-class t a o.class fit.class fit.class_is e.0 e.1 in
    type-holds store ws o.label ty v top (λ cap n is r label.
    suited t.classes e.0 cap n (e.2 ∙ is) (ap (suits_field_type e.0) (sym (ordinary-class t.classes store ws o fit r label)) ∙ c.suits)) m

-- `q[e] = r`, where r is no call
element-kept : (t : Tree) → Accepted t → (s : State) (line : ℕ) (x : Path) (e : Expr) (r : Right) (rest : List Item)
    (d : Doing t s line (assign_element x e r) rest) → (out : Env) → (p : ElementAssigned t.classes d.r.spot.env out x.base x.fields e r) →
    (at : Val) (host : Seen) (k : ℕ) → path_value t.classes s.store d.f.locals x ≡ Ok at → object_at s.store at ≡ Ok host → k < length host.fields →
    (u : State) → below p.judged.ty p.array.ty ≡ true →
    (g : Righted t (record s { items = rest }) d.f d.fs d.r.spot.env (put_element at k) p.judged.ty u) → StaysFit t s u
element-kept t a s line x e r rest d out p at host k follows there within u below_is g =
    let kind : StmtKind = assign_element x e r in
    let sees = top-sees t s.store d.f d.fs s.windows (Do (stmt line kind) ∷ rest) d.r d.top d.fits.values in
    let q = array-at t.classes s.store s.windows (length d.fs) d.r.spot.env d.f.locals d.fits.objects sees x.base x.fields p.array at host p.walked
    follows there in
    let top = writes-top s.windows p.array.receiver host.label p.writes q.fits in
    let f1 : Frame = record d.f { locals = g.gives.locals } in
    let store = g.after.store in
    let fits = g.gives.fits in
    let there : slice_get store q.address ≡ Some host = g.gives.keeps q.address host q.there top in
    let meets = below-meets store s.windows p.judged.ty p.array.ty g.v below_is g.gives.meets in
    let object = fits.objects q.address host there in
    let holds = element-holds t a store s.windows host object p.array.ty g.v q.declared top meets in
    let n : Seen = with_element k g.v host in
    let w = element-is t.classes store s.windows host object p.array.ty q.declared in
    let none = no-fields t.classes host.class object.class object.class_is (array-class t a host.class object.class object.class_is w.0 w.1).members
    in
    let set = store-set t.classes store (f1 ∷ d.fs) s.windows (length g.after.managers) s.windows_made q.address host n fits there refl refl
    (λ j. ap (option_and_then (region_at store)) (owns-nothing t.classes host n j refl none)) (length-slice_set host.fields k g.v)
    (element-set t.classes store s.windows host object p.array.ty k g.v q.declared within holds) in
    let now : put_element at k g.after g.v ≡ record (g.after) { store = slice_set store q.address n } =
    put_element-is at k g.after g.v q.address host q.value there in
    let w : State = record (g.after) { store = slice_set store q.address n } in
    let is : u ≡ w = g.state ∙ now in
    let run : Running t f1 d.fs s.windows rest = running-advance t d.f f1 d.fs s.windows line kind rest d.r d.top.right refl refl
    (λ last l o judged ends.
    stands-stays d.f f1 (length d.fs) d.r.own d.r.spot o d.r.more d.r.stands
    (judge_assign_element-stays t.classes d.r.spot.env o x.base x.fields e r d.top.spot.distinct
    (at_line-ok l (judge_assign_element t.classes d.r.spot.env x.base x.fields e r) o judged)) ends g.gives.named) in
    rw is (record {
      fit = data-fit t w
          (let S : List Frame → Type 0 = λ z. FramesFit t z g.after.windows g.after.items in
          subst S (sym g.gives.frames) (rw (g.gives.windows, g.gives.items) (inl run)))
          (let S : List Frame → Type 0 = λ z. Data t.classes (slice_set store q.address n) z g.after.windows (length g.after.managers)
          g.after.windows_made in
          subst S (sym g.gives.frames) (rw (g.gives.windows, g.gives.made) set))
          (let B : List Frame → Type 0 = λ z. BridgesFit t.classes (slice_set store q.address n) z g.after.windows in
          subst B (sym g.gives.frames) (rw (g.gives.windows) (bridges-top t.classes s.store (slice_set store q.address n) d.f f1 d.fs s.windows
          (classes-then s.store store (slice_set store q.address n) g.gives.classes (classes-set store q.address host n there refl))
          (named-types d.r.spot.env.entries d.f.locals g.gives.locals d.r.stands.named g.gives.named) d.bridged)));
      allowed = active-allowed s w (stmt line kind) rest d.items_are
          (allowed-then s g.after w rest q.address host n q.there refl top g.gives.allowed);
    })

-- `q[e] = r`, where r is no call
pub assign-element : (r : Right) → RightGives r → RightBelow r → (x : Path) (e : Expr) → KindKeeps (assign_element x e r)
assign-element r gives is_below x e line t s u rest a fit is went =
    let k : StmtKind = assign_element x e r in
    let d = doing t a s line k rest is fit in
    let s0 : State = record s { items = rest } in
    let h = stepped-went line (step_kind t.classes s0 line k) u (rw is at went) in
    let j = doing-judges t s line k rest d in
    let p = judge_assign-element t.classes d.r.spot.env j.out x.base x.fields e r
    (at_line-ok line (judge_assign_element t.classes d.r.spot.env x.base x.fields e r) j.out j.judged) in
    let at = bind-ok (path_value t.classes s.store (locals_of s0) x) _ u h in
    let host = bind-ok (object_at s.store at.0) _ u at.2 in
    let i = bind-ok (value_of t.classes s.store (locals_of s0) e) _ u host.2 in
    let place = bind-ok (element_place host.0 i.0) _ u i.2 in
    let same : p.index.env ≡ d.r.spot.env = judge_expr-env t.classes d.r.spot.env (Some Int) e p.index p.index_typed
    (number-not_iso t.classes d.r.spot.env e p.index p.index_typed) in
    let P : Env → Type 0 = λ q. judge_right t.classes q p.array.ty r ≡ Ok p.judged in
    let typed = subst P same p.typed in
    let g = gives t s0 d.f d.fs (Do (stmt line k) ∷ rest) d.r d.top d.frames d.fits Drops (put_element at.0 place.0)
    p.array.ty p.judged typed u place.2 in
    let locals : locals_of s0 ≡ d.f.locals = ap top_locals d.frames in
    let Q : List Local → Type 0 = λ q. path_value t.classes s.store q x ≡ Ok at.0 in
    element-kept t a s line x e r rest d j.out p at.0 host.0 place.0 (subst Q locals at.1) host.1 (place-within host.0 i.0 place.0 place.1) u
    (is_below t.classes d.r.spot.env p.array.ty p.judged typed) g

-- a call is no right side of it
pub assign-element-call : (c : Call) (x : Path) (e : Expr) → KindKeeps (assign_element x e (result_of c))
assign-element-call c x e line t s u rest a fit is went =
    let k : StmtKind = assign_element x e (result_of c) in
    let d = doing t a s line k rest is fit in
    let j = doing-judges t s line k rest d in
    let p = judge_assign-element t.classes d.r.spot.env j.out x.base x.fields e (result_of c)
    (at_line-ok line (judge_assign_element t.classes d.r.spot.env x.base x.fields e (result_of c)) j.out j.judged) in
    let no : true ≡ false = p.not_call in grind arith
