-- `enter` keeps the invariant.
use Rattle.std.proofs.Common.{◌≡◌, refl, sym, ◌∙◌, ap, subst, inl, inr, ℕ, Bool as Truth, true, false, if◌then◌else◌, List, [], ◌∷◌, length, Option}
use Rattle.std.proofs.Common.{Some, None, option_and_then, slice_get, Ok, arith}
use Rattle.std.proofs.lemmas.Option.{slice_get_within, same_Some}
use Rattle.rg_base.specs.declared.words.Cap.TheVariants.{Mut, Tmp, Paused, Imm, Iso}
use Rattle.rg_base.specs.declared.ty.Ty.{Ty}
use Rattle.rg_base.specs.declared.ty.Ty.TheVariants.{Int, Bool, Ref}
use Rattle.rg_base.specs.declared.object.Label.{Label}
use Rattle.rg_base.specs.declared.object.Label.TheVariants.{Region, Temp, Frozen}
use Rattle.rg_base.specs.declared.object.Place.{Place}
use Rattle.rg_base.specs.declared.object.Place.TheVariants.{Var, Field}
use Rattle.rg_base.specs.declared.object.Seen.{Seen}
use Rattle.rg_base.specs.declared.value.Val.{Val}
use Rattle.rg_base.specs.declared.value.Val.TheVariants.{Obj}
use Rattle.rg_tree.specs.Tree.{Name, Variable, Path, Tree, Class, Block, StmtKind, stmt, enter}
use Rattle.rg_rules.specs.Answers.{at_line}
use Rattle.rg_rules.specs.Capabilities.{is_iso, iso_class, pause}
use Rattle.rg_rules.specs.Environment.{Env, Entry, lent, seen_type, at_depth, marked, deeper}
use Rattle.rg_rules.specs.Types.{type_of, fields_of, field_place}
use Rattle.rg_rules.specs.Paths.{all_but_last, last_field}
use Rattle.rg_rules.specs.Statements.{judge_enter}
use Rattle.rg_rules.specs.Items.{Item, Do, leave_of}
use Rattle.rg_rules.specs.State.{Local, Window, State, value_in, place_in, locals_of, frame_number, top_locals}
use Rattle.rg_rules.specs.Evaluation.{object_at, field_value, follow_fields}
use Rattle.rg_rules.specs.Regions.{region_of, region_at, address, owned}
use Rattle.rg_rules.specs.Owners.{owned_by_local, leads_into}
use Rattle.rg_rules.specs.Steps.{step_kind, step_enter, with_window, field_at}
use Rattle.rg_rules.proofs.Answers.{bind-ok, at_line-ok}
use Rattle.rg_rules.proofs.Step.{stepped-went, object_at-ok}
use Rattle.rg_sound.specs.Windows.{windows_from}
use Rattle.rg_sound.specs.Values.{IsRegion, LabelFits, Leads, MeetsRef, MeetsBy, Meets}
use Rattle.rg_sound.specs.Objects.{TempFieldFits, FieldFits}
use Rattle.rg_sound.specs.Laws.{StaysFit, EnterKeeps}
use Rattle.rg_sound.proofs.Frames.Judge.{judge_enter-variable, judge_enter-field}
use Rattle.rg_sound.proofs.Frames.Named.{first-at}
use Rattle.rg_sound.proofs.Values.Value.{seen-meets}
use Rattle.rg_sound.proofs.Owners.Owner.{leads-top}
use Rattle.rg_sound.proofs.Frames.Top.{top-sees, top-not_owner}
use Rattle.rg_sound.proofs.Values.Right.{ready-not_lent}
use Rattle.rg_sound.proofs.Values.Assign.{Doing, doing, doing-judges}
use Rattle.rg_sound.proofs.Owners.Receiver.{IsTop, receiver-at, receiver-value, field-leads, top-not_owner_field}
use Rattle.rg_sound.proofs.Owners.Entrance.{Entrance, Fronts, enter-kept}
use Rattle.rg_sound.proofs.Owners.Bridge.{local_type-top}
use Rattle.rg_tree.specs.Tree.{Field as FieldOfClass}
use Rattle.std.proofs.Common.{option_map}

pub iso-type : (t : Ty) (c : ℕ) → iso_class t ≡ Some c → t ≡ Ref Iso c
iso-type Int c h = grind arith
iso-type Bool c h = grind arith
iso-type (Ref Mut d) c h = grind arith
iso-type (Ref Tmp d) c h = grind arith
iso-type (Ref Paused d) c h = grind arith
iso-type (Ref Imm d) c h = grind arith
iso-type (Ref Iso d) c h = let same : d ≡ c = grind arith in ap (Ref Iso) same

pub seen-iso : (env : Env) (e : Entry) (c : ℕ) → e.ty ≡ Ref Iso c → seen_type env e ≡ Ref Iso c
seen-iso env e c h = by (at_depth env e)
  where
    by : (b : Truth) → (if b then e.ty else pause e.ty) ≡ Ref Iso c
    by true = h
    by false = rw h refl

-- an object that is owned: its region and class
pub record Owned (store : List Seen) (ws : List Window) (c : ℕ) (v : Val) (o : Seen) : Type 0 where
  pub address : ℕ
  pub value : v ≡ Obj address
  pub there : slice_get store address ≡ Some o
  pub class_is : o.class ≡ c
  pub region : ℕ
  pub label_is : o.label ≡ Region region

pub owned-object : (store : List Seen) (F : Label → Type 0) (c : ℕ) (v : Val) (o : Seen) → ((l : Label) → F l → IsRegion l) → MeetsRef store c F v →
    object_at store v ≡ Ok o → Owned store [] c v o
owned-object store F c v o to m h =
    let a = object_at-ok store v o h in
    let P : Val → Type 0 = λ q. MeetsRef store c F q in
    let n : Leads store a.address c F = subst P a.value m in
    let one : n.object ≡ o = same_Some n.object o (sym n.there ∙ a.there) in
    let r = to n.object.label n.label_fits in
    record {
      address = a.address;
      value = a.value;
      there = a.there;
      class_is = ap (λ (q : Seen). q.class) (sym one) ∙ n.class_is;
      region = r.0;
      label_is = ap (λ (q : Seen). q.label) (sym one) ∙ r.1;
    }

-- `enter x as z`
enter-variable : (t : Tree) (s : State) (line : ℕ) (x : Variable) (z : Name) (body : Block) (giving : Option Name) (rest : List Item)
    (d : Doing t s line (enter (record { base = x; fields = [] }) z body giving) rest)
    (front : Env) → judge_enter t.classes d.r.spot.env x [] z ≡ Ok front → (u : State) →
    step_enter t.classes (record s { items = rest }) x [] z body (λ kept. leave_of line kept giving) ≡ Ok u → StaysFit t s u
enter-variable t s line x z body giving rest d front judged u h =
    let s0 : State = record s { items = rest } in
    let p = judge_enter-variable t.classes d.r.spot.env front x z judged in
    let locals : locals_of s0 ≡ d.f.locals = ap top_locals d.frames in
    let number : frame_number s0.frames ≡ length d.fs = ap frame_number d.frames in
    let o = bind-ok (object_at s.store (value_in (locals_of s0) x)) _ u h in
    let is : with_window s0 (Var (frame_number s0.frames) (place_in (locals_of s0) x)) z body (λ kept. leave_of line kept giving) (value_in
    (locals_of s0) x) o.0.class
    (region_of o.0.label) ≡ u = grind arith in
    let there : object_at s.store (value_in d.f.locals x) ≡ Ok o.0 = ap (λ q. object_at s.store (value_in q x)) (sym locals) ∙ o.1 in
    let ty = iso-type p.entry.ty p.class p.iso in
    let a = first-at d.r.spot.env.entries d.f.locals x p.entry d.r.stands.named p.there in
    let sees = top-sees t s.store d.f d.fs s.windows (Do (stmt line (enter (record { base = x; fields = [] }) z body giving)) ∷ rest)
    d.r d.top d.fits.values in
    let seen = seen-meets s.store s.windows (length d.fs) d.r.spot.env d.f.locals sees x p.entry p.there in
    let P : Ty → Type 0 = λ q. Meets s.store s.windows q (value_in d.f.locals x) in
    let m = subst P (seen-iso d.r.spot.env p.entry p.class ty) seen in
    let w = owned-object s.store (LabelFits s.windows Iso) p.class (value_in d.f.locals x) o.0 (λ l q. q) m there in
    let place : Place = Var (length d.fs) (place_in d.f.locals x) in
    let iso : is_iso a.local.ty ≡ true = ap is_iso (a.pair.ty ∙ ty) in
    let leads : leads_into t.classes s.store (d.f ∷ d.fs) place ≡ Some w.region =
    leads-top t.classes s.store d.f d.fs (place_in d.f.locals x)
    ∙ ap (λ (q : Option Local). option_and_then (region_at s.store) (option_and_then owned_by_local q)) a.local_at
    ∙ ap (λ (b : Truth). option_and_then (region_at s.store) (if b then address a.local.value else None)) iso
    ∙ ap (λ v. option_and_then (region_at s.store) (address v)) (sym a.value ∙ w.value)
    ∙ ap (λ (q : Option Seen). option_and_then (λ (y : Seen). region_of y.label) q) w.there ∙ ap region_of w.label_is in
    let within = slice_get_within d.f.locals (place_in d.f.locals x) a.local a.local_at in
    let e : Entrance t s.store d.f d.fs s.windows place (value_in d.f.locals x) p.class w.region = record {
      at = w.address;
      bridge_is = w.value;
      object = o.0;
      there = w.there;
      label_is = w.label_is;
      class_is = w.class_is;
      leads = leads;
      free = top-not_owner t d.f d.fs s.windows (Do (stmt line (enter (record { base = x; fields = [] }) z body giving)) ∷ rest) d.r d.top
          (place_in d.f.locals x) p.entry a.entry_at
          (ready-not_lent p.entry.readiness p.ready);
      near = λ y v us e b c. inr (sym b, omega (arith, within, c));
      not_new = λ q. let k : place_in d.f.locals x ≡ length d.f.locals = grind arith in absurd (omega (arith, within, k));
    } in
    let b : Fronts d.r.spot.env front x [] z = record {
      before = deeper (marked x lent d.r.spot.env);
      entries = refl;
      depth = refl;
      class = p.class;
      front_is = p.out_is;
    } in
    let k = enter-kept t s line (record { base = x; fields = [] }) z body giving rest d front judged b place (value_in d.f.locals x) o.0 w.region e
    there
    (refl, (p.entry, p.there))
    (local_type-top d.f d.fs (place_in d.f.locals x) ∙ ap (option_map (λ (q : Local). q.ty)) a.local_at ∙ ap Some (a.pair.ty ∙ ty)) in
    let Q : List Local → Type 0 = λ q. StaysFit t s (with_window s0 (Var (length d.fs) (place_in q x)) z body (λ kept. leave_of line kept giving)
    (value_in q x) o.0.class
    (region_of o.0.label)) in
    let R : ℕ → Type 0 = λ q. StaysFit t s (with_window s0 (Var q (place_in (locals_of s0) x)) z body (λ kept. leave_of line kept giving) (value_in
    (locals_of s0) x) o.0.class
    (region_of o.0.label)) in
    let T : State → Type 0 = λ q. StaysFit t s q in subst T is (subst R (sym number) (subst Q (sym locals) k))

field_at-is : (classes : List Class) (at : Val) (o : Seen) (x : Name) (a j : ℕ) → at ≡ Obj a → field_place (fields_of classes o.class) x ≡ Some j →
    field_at classes at o x ≡ Field a j
field_at-is classes at o x a j e p = rw (e, p) refl

-- `enter q.f as z`
enter-field : (t : Tree) (s : State) (line : ℕ) (x : Variable) (f : Name) (fs : List Name) (z : Name) (body : Block) (giving : Option Name) (rest :
    List Item)
    (d : Doing t s line (enter (record { base = x; fields = f ∷ fs }) z body giving) rest) (front : Env) →
    judge_enter t.classes d.r.spot.env x (f ∷ fs) z ≡ Ok front → (u : State) →
    step_enter t.classes (record s { items = rest }) x (f ∷ fs) z body (λ kept. leave_of line kept giving) ≡ Ok u → StaysFit t s u
enter-field t s line x f fs z body giving rest d front judged u h =
    let s0 : State = record s { items = rest } in
    let k : StmtKind = enter (record { base = x; fields = f ∷ fs }) z body giving in
    let p = judge_enter-field t.classes d.r.spot.env front x f fs z judged in
    let locals : locals_of s0 ≡ d.f.locals = ap top_locals d.frames in
    let at = bind-ok (follow_fields t.classes s.store (value_in (locals_of s0) x) (all_but_last f fs)) _ u h in
    let host = bind-ok (object_at s.store at.0) _ u at.2 in
    let o = bind-ok (object_at s.store (field_value t.classes host.0 (last_field f fs))) _ u host.2 in
    let bridge : Val = field_value t.classes host.0 (last_field f fs) in
    let is : with_window s0 (field_at t.classes at.0 host.0 (last_field f fs)) z body (λ kept. leave_of line kept giving) bridge o.0.class (region_of
    o.0.label) ≡ u = grind arith in
    let sees = top-sees t s.store d.f d.fs s.windows (Do (stmt line k) ∷ rest) d.r d.top d.fits.values in
    let P : List Local → Type 0 = λ q. follow_fields t.classes s.store (value_in q x) (all_but_last f fs) ≡ Ok at.0 in
    let r = receiver-at t.classes s.store s.windows (length d.fs) d.r.spot.env d.f.locals d.fits.objects sees x f fs p.ty at.0 host.0 p.writable
    (subst P locals at.1) host.1 in
    let ty = iso-type p.ty p.class p.iso in
    let value = receiver-value t.classes s.store s.windows at.0 host.0 (last_field f fs) p.ty r in
    let Q : Ty → Type 0 = λ q. MeetsBy s.store (FieldFits s.windows host.0.label) q bridge in
    let R : Val → Type 0 = λ q. MeetsBy s.store (FieldFits s.windows host.0.label) p.ty q in
    let m = subst Q ty (subst R (sym value) r.field.meets) in
    let w = owned-object s.store (FieldFits s.windows host.0.label Iso) p.class bridge o.0 (field-iso s.windows host.0.label r.top) m o.1 in
    let place : Place = Field r.address r.field.place in
    let place_is : field_at t.classes at.0 host.0 (last_field f fs) ≡ place =
    field_at-is t.classes at.0 host.0 (last_field f fs) r.address r.field.place r.value r.field.place_is in
    let field_ty : type_of t.classes r.field.field.ty ≡ Ref Iso p.class = r.field.type_is ∙ ty in
    let leads : leads_into t.classes s.store (d.f ∷ d.fs) place ≡ Some w.region =
    field-leads t.classes s.store (d.f ∷ d.fs) s.windows r.address r.field.place host.0 r.field.field r.field.value r.there r.top r.field.field_is
    r.field.value_is
    ∙ ap (λ q. option_and_then (region_at s.store) (owned q r.field.value)) field_ty
    ∙ ap (λ v. option_and_then (region_at s.store) (address v)) (sym value ∙ w.value)
    ∙ ap (λ (q : Option Seen). option_and_then (λ (y : Seen). region_of y.label) q) w.there ∙ ap region_of w.label_is in
    let e : Entrance t s.store d.f d.fs s.windows place bridge p.class w.region = record {
      at = w.address;
      bridge_is = w.value;
      object = o.0;
      there = w.there;
      label_is = w.label_is;
      class_is = w.class_is;
      leads = leads;
      free = top-not_owner_field t.classes s.store (d.f ∷ d.fs) s.windows d.fits.opened.owned d.fits.opened.one_each d.fits.numbers.rising r.address
          r.field.place host.0 r.there r.top;
      near = λ y v us e b c. (host.0, r.there, let T : List Window → Type 0 = λ q. IsTop q host.0.label in subst T e r.top);
      not_new = λ q. grind arith;
    } in
    let b : Fronts d.r.spot.env front x (f ∷ fs) z = record {
      before = deeper d.r.spot.env;
      entries = refl;
      depth = refl;
      class = p.class;
      front_is = p.out_is;
    } in
    let n = enter-kept t s line (record { base = x; fields = f ∷ fs }) z body giving rest d front judged b place bridge o.0 w.region e o.1
    (r.address, r.field.place, refl)
    (ap (λ (q : Option Seen). option_map (λ (f : FieldOfClass). type_of t.classes f.ty)
    (option_and_then (λ (q : Seen). slice_get (fields_of t.classes q.class) r.field.place) q)) r.there
    ∙ ap (option_map (λ (f : FieldOfClass). type_of t.classes f.ty)) r.field.field_is ∙ ap Some field_ty) in
    let S : Place → Type 0 = λ q. StaysFit t s (with_window s0 q z body (λ kept. leave_of line kept giving) bridge o.0.class (region_of o.0.label)) in
    let T : State → Type 0 = λ q. StaysFit t s q in subst T is (subst S (sym place_is) n)
  where
    field-iso : (ws : List Window) (own : Label) → IsTop ws own → (l : Label) → FieldFits ws own Iso l → IsRegion l
    field-iso ws (Region r) top l h = h
    field-iso ws (Temp n) top l h = by (windows_from n ws) h
      where
        by : (vs : List Window) → TempFieldFits vs Iso l → IsRegion l
        by [] g = g
        by (v ∷ vs) g = g
    field-iso [] Frozen top l h = absurd top
    field-iso (w ∷ ws) Frozen (inl top) l h = grind arith
    field-iso (w ∷ ws) Frozen (inr top) l h = grind arith

pub enter-keeps : EnterKeeps
enter-keeps p z body giving line t s u rest a f is went =
    let d = doing t a s line (enter p z body giving) rest is f in
    let h = stepped-went line (step_kind t.classes (record s { items = rest }) line (enter p z body giving)) u (rw is at went) in
    let j = doing-judges t s line (enter p z body giving) rest d in
    let e = bind-ok (at_line line (judge_enter t.classes d.r.spot.env p.base p.fields z)) _ j.out j.judged in
    by_path p d e.0 (at_line-ok line (judge_enter t.classes d.r.spot.env p.base p.fields z) e.0 e.1) h
  where
    by_fields : (x : Variable) (fs : List Name) (d : Doing t s line (enter (record { base = x; fields = fs }) z body giving) rest) (front : Env) →
        judge_enter t.classes d.r.spot.env x fs z ≡ Ok front →
        step_enter t.classes (record s { items = rest }) x fs z body (λ kept. leave_of line kept giving) ≡ Ok u → StaysFit t s u
    by_fields x [] d front e h = enter-variable t s line x z body giving rest d front e u h
    by_fields x (g ∷ fs) d front e h = enter-field t s line x g fs z body giving rest d front e u h

    by_path : (p : Path) (d : Doing t s line (enter p z body giving) rest) (front : Env) →
        judge_enter t.classes d.r.spot.env p.base p.fields z ≡ Ok front →
        step_enter t.classes (record s { items = rest }) p.base p.fields z body (λ kept. leave_of line kept giving) ≡ Ok u → StaysFit t s u
    by_path p d front e h = by_fields p.base p.fields d front e h
