-- `q.f = r` keeps the invariant.
use Rattle.std.proofs.Common.{◌≡◌, ◌≢◌, refl, sym, ◌∙◌, ap, subst, ◌⊎◌, inl, ◌↔◌, ℕ, ◌==◌, Bool as Truth, true, false, if◌then◌else◌, List, [], ◌∷◌}
use Rattle.std.proofs.Common.{length, Option, Some, None, option_and_then, slice_get, slice_set, Ok, arith, IsTrue, option_map}
use Rattle.std.proofs.lemmas.Option.{same_Some}
use Rattle.std.proofs.lemmas.Bool.{eqb-false}
use Rattle.rg_base.specs.declared.words.Cap.{Cap}
use Rattle.rg_base.specs.declared.words.Cap.TheVariants.{Mut, Tmp, Paused, Imm, Iso}
use Rattle.rg_base.specs.declared.ty.Ty.{Ty}
use Rattle.rg_base.specs.declared.ty.Ty.TheVariants.{Int, Bool, Ref}
use Rattle.rg_base.specs.declared.fault.Code.TheVariants.{BadType}
use Rattle.rg_base.specs.declared.object.Label.{Label}
use Rattle.rg_base.specs.declared.object.Label.TheVariants.{Region, Temp}
use Rattle.rg_base.specs.declared.object.Seen.{Seen}
use Rattle.rg_base.specs.declared.value.Val.{Val}
use Rattle.rg_base.specs.declared.value.Val.TheVariants.{Obj}
use Rattle.rg_tree.specs.Tree.{Name, Variable, int, bool, ref, Ty as Written, Field as FieldOfClass, Right, Call, result_of, StmtKind, assign, stmt}
use Rattle.rg_tree.specs.Tree.{Class, Tree}
use Rattle.rg_rules.specs.Acceptance.{Accepted}
use Rattle.rg_rules.specs.Capabilities.{below, is_iso}
use Rattle.rg_rules.specs.Types.{type_of, good_type, fields_of, field_place}
use Rattle.rg_rules.specs.Headers.{suits_field, suits_field_type}
use Rattle.rg_rules.specs.Environment.{Env}
use Rattle.rg_rules.specs.Paths.{all_but_last, last_field}
use Rattle.rg_rules.specs.Statements.{judge_assign}
use Rattle.rg_rules.specs.Items.{Item, Do}
use Rattle.rg_rules.specs.State.{Local, Frame, Window, State, Drops, locals_of, top_locals, value_in, active, top_number}
use Rattle.rg_rules.specs.Evaluation.{object_at, follow_fields, with_field}
use Rattle.rg_rules.specs.Regions.{region_at, address, owned_as}
use Rattle.rg_rules.specs.Owners.{owned_by_slot}
use Rattle.rg_rules.specs.Steps.{step_kind, put_field}
use Rattle.rg_rules.proofs.Answers.{bind-ok, then-ok, test-ok, at_line-ok}
use Rattle.rg_rules.proofs.Acceptance.{Accepted-parts}
use Rattle.rg_rules.proofs.Header.{judge_headers-field}
use Rattle.rg_rules.proofs.Step.{stepped-went}
use Rattle.rg_sound.specs.Values.{LabelFits, MeetsBy, Meets}
use Rattle.rg_sound.specs.Objects.{IsTemp, FieldFits, FieldsMeet, fields_in, ObjectFits}
use Rattle.rg_sound.specs.Frames.{FramesFit, Running}
use Rattle.rg_sound.specs.Writes.{WritesActive, Writable}
use Rattle.rg_sound.specs.Laws.{StaysFit, KindKeeps}
use Rattle.rg_sound.proofs.Frames.Advance.{running-advance}
use Rattle.rg_sound.proofs.Frames.Quiet.{writes-same, active-allowed}
use Rattle.rg_sound.proofs.Frames.Judge.{FieldAssigned, judge_assign-field, judge_assign-stays}
use Rattle.rg_sound.proofs.Values.Value.{below-meets, MeetsRef-map}
use Rattle.rg_sound.proofs.Owners.Owner.{get-set, get-set-other}
use Rattle.rg_sound.proofs.Owners.Data.{Data, data-fit}
use Rattle.rg_sound.proofs.Frames.Stands.{stands-stays}
use Rattle.rg_sound.proofs.Frames.Top.{top-sees}
use Rattle.rg_sound.proofs.Values.Assign.{Doing, doing, doing-judges, Righted, RightGives, RightBelow}
use Rattle.rg_sound.proofs.Owners.Receiver.{IsTop, FieldAt, receiver-at}
use Rattle.rg_sound.proofs.Stores.Store.{FieldsMeet-set, may-hold, store-set}
use Rattle.rg_sound.proofs.Values.Declared.{declared-fields}
use Rattle.rg_sound.proofs.Owners.Owner.{length-slice_set}
use Rattle.rg_sound.specs.Bridges.{BridgesFit}
use Rattle.rg_sound.proofs.Owners.Bridge.{classes-then, classes-set, named-types, bridges-top}

-- what kind of field or element stands in an ordinary class
pub suited : (classes : List Class) (w : Written) (cap : Cap) (c : ℕ) → type_of classes w ≡ Ref cap c → suits_field_type w false ≡ true →
    (cap ≢ Tmp) × (cap ≢ Paused)
suited classes int cap c e h = grind arith
suited classes bool cap c e h = grind arith
suited classes (ref k n) cap c e h =
    let same : k ≡ cap = grind arith in let P : Cap → Type 0 = λ q. (q ≢ Tmp) × (q ≢ Paused) in subst P same (by_cap k h)
  where
    by_cap : (k : Cap) → suits_field k false ≡ true → (k ≢ Tmp) × (k ≢ Paused)
    by_cap Mut h = (λ e. grind arith, λ e. grind arith)
    by_cap Tmp h = grind arith
    by_cap Paused h = grind arith
    by_cap Imm h = (λ e. grind arith, λ e. grind arith)
    by_cap Iso h = (λ e. grind arith, λ e. grind arith)

-- the class of an object of a region is an ordinary one
pub ordinary-class : (classes : List Class) (store : List Seen) (ws : List Window) (o : Seen) (fit : ObjectFits classes store ws o) (r : ℕ) →
    o.label ≡ Region r → fit.class.is_tmp ≡ false
ordinary-class classes store ws o fit r label =
    let P : Label → Type 0 = λ q. IsTemp q ↔ IsTrue fit.class.is_tmp in
    let l = subst P label fit.label_is in not_true fit.class.is_tmp (λ e. l.1 e)
  where
    not_true : (b : Truth) → (IsTrue b → ⊥) → b ≡ false
    not_true true h = absurd (h refl)
    not_true false h = refl

-- a value of a type may go where that type is declared, in an object of the topmost window
pub type-holds : (store : List Seen) (ws : List Window) (own : Label) (ty : Ty) (v : Val) → IsTop ws own →
    ((cap : Cap) (c : ℕ) → ty ≡ Ref cap c → (r : ℕ) → own ≡ Region r → (cap ≢ Tmp) × (cap ≢ Paused)) → Meets store ws ty v →
    MeetsBy store (FieldFits ws own) ty v
type-holds store ws own Int v top suits m = m
type-holds store ws own Bool v top suits m = m
type-holds store ws own (Ref cap c) v top suits m =
    MeetsRef-map store c (LabelFits ws cap) (FieldFits ws own cap) v (λ l h. may-hold ws own cap l top (suits cap c refl) h) m

-- and so where a field is declared so
pub field-holds : (t : Tree) → Accepted t → (old store : List Seen) (ws : List Window) (o : Seen) (x : Name) (ty : Ty) (v : Val) →
    ObjectFits t.classes store ws o → IsTop ws o.label →
    FieldAt t.classes old (FieldFits ws o.label) (fields_of t.classes o.class) o.fields x ty → Meets store ws ty v →
    MeetsBy store (FieldFits ws o.label) ty v
field-holds t a old store ws o x ty v fit top f m = type-holds store ws o.label ty v top (λ cap c e r label.
    let j = judge_headers-field t.classes o.class x f.field (Accepted-parts t a).headers f.found in
    let h = then-ok (good_type t.classes f.field.ty) _ tt j.passed in
    let suits = test-ok (suits_field_type f.field.ty j.class.is_tmp) BadType tt h.2 in
    let one : fit.class ≡ j.class = same_Some fit.class j.class (sym fit.class_is ∙ j.at) in
    let ordinary : j.class.is_tmp ≡ false = ap (λ (q : Class). q.is_tmp) (sym one) ∙ ordinary-class t.classes store ws o fit r label in
    suited t.classes f.field.ty cap c (f.type_is ∙ e) (ap (suits_field_type f.field.ty) (sym ordinary) ∙ suits)) m

-- another value in a field that is declared so
pub field-set : (classes : List Class) (store : List Seen) (ws : List Window) (o : Seen) (fit : ObjectFits classes store ws o) (k : ℕ)
    (f : FieldOfClass) (v : Val) → slice_get (fields_of classes o.class) k ≡ Some f → MeetsBy store (FieldFits ws o.label) (type_of classes f.ty) v →
    FieldsMeet classes store (FieldFits ws o.label) (fields_in classes fit.class o) (slice_set o.fields k v)
field-set classes store ws o fit k f v at m =
    FieldsMeet-set classes store (FieldFits ws o.label) (fields_in classes fit.class o) o.fields k f v fit.fields
    (ap (λ q. slice_get q k) (declared-fields classes store ws o fit k f at) ∙ at) m

-- the object that is written owns what it did
owns-same : (classes : List Class) (o : Seen) (k j : ℕ) (f : FieldOfClass) (old v : Val) → slice_get (fields_of classes o.class) k ≡ Some f →
    is_iso (type_of classes f.ty) ≡ false → slice_get o.fields k ≡ Some old →
    owned_by_slot classes (record o { fields = slice_set o.fields k v }) j ≡ owned_by_slot classes o j
owns-same classes o k j f old v at iso there = by (j == k) refl
  where
    nothing : (b : Truth) (w : Val) → b ≡ false → ◌≡◌ {A = Option ℕ} (if b then address w else None) None
    nothing true w e = grind arith
    nothing false w e = refl

    by : (b : Truth) → (j == k) ≡ b → owned_by_slot classes (record o { fields = slice_set o.fields k v }) j ≡ owned_by_slot classes o j
    by true e =
        let same : j ≡ k = grind arith in
        let new_is : owned_by_slot classes (record o { fields = slice_set o.fields k v }) k ≡ owned_as classes f v =
        rw (at, get-set o.fields k v old there) refl in
        let old_is : owned_by_slot classes o k ≡ owned_as classes f old = rw (at, there) refl in
        ap (owned_by_slot classes (record o { fields = slice_set o.fields k v })) same ∙ new_is ∙ nothing (is_iso (type_of classes f.ty)) v iso
        ∙ sym (nothing (is_iso (type_of classes f.ty)) old iso)
        ∙ sym old_is ∙ ap (owned_by_slot classes o) (sym same)
    by false e =
        let other : j ≢ k = eqb-false j k e in
        ap (λ (q : Option Val). option_and_then (λ (g : FieldOfClass). option_and_then (owned_as classes g) q)
        (slice_get (fields_of classes o.class) j)) (get-set-other o.fields k j v other)

pub with-field-is : (classes : List Class) (x : Name) (v : Val) (o : Seen) (k : ℕ) → field_place (fields_of classes o.class) x ≡ Some k →
    with_field classes x v o ≡ record o { fields = slice_set o.fields k v }
with-field-is classes x v o k h = rw (with_field, h) refl

pub put-field-is : (classes : List Class) (at : Val) (x : Name) (s : State) (v : Val) (a : ℕ) (o : Seen) → at ≡ Obj a → slice_get s.store a ≡ Some o →
    put_field classes at x s v ≡ record s { store = slice_set s.store a (with_field classes x v o) }
put-field-is classes at x s v a o e there = rw (e, put_field, there) refl

-- a write of an object of the topmost window, behind other allowed ones
pub allowed-then : (s v u : State) (rest : List Item) (a : ℕ) (o n : Seen) → slice_get s.store a ≡ Some o → u.store ≡ slice_set v.store a n →
    IsTop s.windows o.label →
    WritesActive (record s { items = rest }) v → WritesActive s u
allowed-then s v u rest a o n there is top before b w = by (b == a) refl
  where
    top-writable : (ws : List Window) (l : Label) → IsTop ws l → (l ≡ Region (active ws)) ⊎ (l ≡ Temp (top_number ws))
    top-writable [] l h = absurd h
    top-writable (w ∷ ws) l h = h

    by : (c : Truth) → (b == a) ≡ c → Writable s w.object.label
    by true e =
        let same : b ≡ a = grind arith in
        let one : o ≡ w.object = same_Some o w.object (sym there ∙ ap (slice_get s.store) (sym same) ∙ w.there) in
        let P : Seen → Type 0 = λ q. Writable s q.label in subst P one (top-writable s.windows o.label top)
    by false e =
        let other : b ≢ a = eqb-false b a e in
        let after : slice_get u.store b ≡ slice_get v.store b = ap (λ q. slice_get q b) is ∙ get-set-other v.store a b n other in
        before b (record { object = w.object; there = w.there; differ = λ h. w.differ (ap (option_map (λ (q : Seen). q.fields)) after ∙ h) })

-- the same behind nothing
pub allowed-set : (s u : State) (a : ℕ) (o n : Seen) → slice_get s.store a ≡ Some o → u.store ≡ slice_set s.store a n → IsTop s.windows o.label →
    WritesActive s u
allowed-set s u a o n there is top = allowed-then s s u s.items a o n there is top (writes-same s s refl)

-- `q.f = r`, where r is no call
field-kept : (t : Tree) → Accepted t → (s : State) (line : ℕ) (x : Variable) (f : Name) (fs : List Name) (r : Right) (rest : List Item) →
    (d : Doing t s line (assign (record { base = x; fields = f ∷ fs }) r) rest) → (out : Env) →
    (p : FieldAssigned t.classes d.r.spot.env out x f fs r) → (at : Val) (host : Seen) →
    follow_fields t.classes s.store (value_in d.f.locals x) (all_but_last f fs) ≡ Ok at → object_at s.store at ≡ Ok host → (u : State) →
    below p.judged.ty p.ty ≡ true →
    (g : Righted t (record s { items = rest }) d.f d.fs d.r.spot.env (put_field t.classes at (last_field f fs)) p.judged.ty u) → StaysFit t s u
field-kept t a s line x f fs r rest d out p at host follows there u below_is g =
    let k : StmtKind = assign (record { base = x; fields = f ∷ fs }) r in
    let name = last_field f fs in
    let sees = top-sees t s.store d.f d.fs s.windows (Do (stmt line k) ∷ rest) d.r d.top d.fits.values in
    let q = receiver-at t.classes s.store s.windows (length d.fs)
    d.r.spot.env d.f.locals d.fits.objects sees x f fs p.ty at host p.writable follows there in
    let f1 : Frame = record d.f { locals = g.gives.locals } in
    let store = g.after.store in
    let fits = g.gives.fits in
    let there : slice_get store q.address ≡ Some host = g.gives.keeps q.address host q.there q.top in
    let meets = below-meets store s.windows p.judged.ty p.ty g.v below_is g.gives.meets in
    let object = fits.objects q.address host there in
    let holds = field-holds t a s.store store s.windows host name p.ty g.v object q.top q.field meets in
    let R : Ty → Type 0 = λ z. MeetsBy store (FieldFits s.windows host.label) z g.v in
    let n : Seen = record host { fields = slice_set host.fields q.field.place g.v } in
    let iso : is_iso (type_of t.classes q.field.field.ty) ≡ false = ap is_iso q.field.type_is ∙ p.not_iso in
    let set = store-set t.classes store (f1 ∷ d.fs) s.windows (length g.after.managers) s.windows_made q.address host n fits there refl refl
    (λ j. ap (option_and_then (region_at store)) (owns-same t.classes host q.field.place j q.field.field q.field.value g.v q.field.field_is iso
    q.field.value_is))
    (length-slice_set host.fields q.field.place g.v)
    (field-set t.classes store s.windows host object q.field.place q.field.field g.v q.field.field_is (subst R (sym q.field.type_is) holds)) in
    let now : put_field t.classes at name g.after g.v ≡ record (g.after) { store = slice_set store q.address (with_field t.classes name g.v host) } =
    put-field-is t.classes at name g.after g.v q.address host q.value there in
    let stored : slice_set store q.address (with_field t.classes name g.v host) ≡ slice_set store q.address n =
    ap (slice_set store q.address) (with-field-is t.classes name g.v host q.field.place q.field.place_is) in
    let w : State = record (g.after) { store = slice_set store q.address n } in
    let is : u ≡ w = g.state ∙ now ∙ ap (λ z. record (g.after) { store = z }) stored in
    let run : Running t f1 d.fs s.windows rest = running-advance t d.f f1 d.fs s.windows line k rest d.r d.top.right refl refl
    (λ last l o judged ends.
    stands-stays d.f f1 (length d.fs) d.r.own d.r.spot o d.r.more d.r.stands
    (judge_assign-stays t.classes d.r.spot.env o x (f ∷ fs) r d.top.spot.distinct
    (at_line-ok l (judge_assign t.classes d.r.spot.env x (f ∷ fs) r) o judged)) ends g.gives.named) in
    rw is (record {
      fit = data-fit t w
          (let S : List Frame → Type 0 = λ z. FramesFit t z g.after.windows g.after.items in
          subst S (sym g.gives.frames) (rw (g.gives.windows, g.gives.items) (inl run)))
          (let S : List Frame → Type 0 = λ z. Data t.classes (slice_set store q.address n) z g.after.windows (length g.after.managers)
          g.after.windows_made in
          subst S (sym g.gives.frames) (rw (g.gives.windows, g.gives.made) set))
          (let B : List Frame → Type 0 = λ z. BridgesFit t.classes (slice_set store q.address n) z g.after.windows in
          subst B (sym g.gives.frames) (rw (g.gives.windows) (bridges-top t.classes s.store (slice_set store q.address n) d.f f1 d.fs s.windows
          (classes-then s.store store (slice_set store q.address n) g.gives.classes (classes-set store q.address host n there refl))
          (named-types d.r.spot.env.entries d.f.locals g.gives.locals d.r.stands.named g.gives.named) d.bridged)));
      allowed = active-allowed s w (stmt line k) rest d.items_are
          (allowed-then s g.after w rest q.address host n q.there refl q.top g.gives.allowed);
    })

-- `q.f = r`, where r is no call
pub assign-field : (r : Right) → RightGives r → RightBelow r → (x : Variable) (f : Name) (fs : List Name) →
    KindKeeps (assign (record { base = x; fields = f ∷ fs }) r)
assign-field r gives is_below x f fs line t s u rest a fit is went =
    let k : StmtKind = assign (record { base = x; fields = f ∷ fs }) r in
    let d = doing t a s line k rest is fit in
    let s0 : State = record s { items = rest } in
    let h = stepped-went line (step_kind t.classes s0 line k) u (rw is at went) in
    let j = doing-judges t s line k rest d in
    let p = judge_assign-field t.classes d.r.spot.env j.out x f fs r
    (at_line-ok line (judge_assign t.classes d.r.spot.env x (f ∷ fs) r) j.out j.judged) in
    let at = bind-ok (follow_fields t.classes s.store (value_in (locals_of s0) x) (all_but_last f fs)) _ u h in
    let host = then-ok (object_at s.store at.0) _ u at.2 in
    let g = gives t s0 d.f d.fs (Do (stmt line k) ∷ rest) d.r d.top d.frames d.fits Drops (put_field t.classes at.0 (last_field f fs))
    p.ty p.judged p.typed u host.2 in
    let locals : locals_of s0 ≡ d.f.locals = ap top_locals d.frames in
    let P : List Local → Type 0 = λ q. follow_fields t.classes s.store (value_in q x) (all_but_last f fs) ≡ Ok at.0 in
    field-kept t a s line x f fs r rest d j.out p at.0 host.0 (subst P locals at.1) host.1 u (is_below t.classes d.r.spot.env p.ty p.judged p.typed) g

-- a call is no right side of it
pub assign-field-call : (c : Call) (x : Variable) (f : Name) (fs : List Name) →
    KindKeeps (assign (record { base = x; fields = f ∷ fs }) (result_of c))
assign-field-call c x f fs line t s u rest a fit is went =
    let k : StmtKind = assign (record { base = x; fields = f ∷ fs }) (result_of c) in
    let d = doing t a s line k rest is fit in
    let j = doing-judges t s line k rest d in
    let p = judge_assign-field t.classes d.r.spot.env j.out x f fs (result_of c)
    (at_line-ok line (judge_assign t.classes d.r.spot.env x (f ∷ fs) (result_of c)) j.out j.judged) in
    let no : true ≡ false = p.not_call in grind arith
