-- What the invariant gives: declared types, classes of objects, truth values, regions of owner references, and the frames in which windows opened.
use Rattle.std.proofs.Common.{◌≡◌, ℕ, suc, ◌≤◌, ◌<◌, true, false, true≢false, ◌⊎◌, inl, inr, Bool as Truth, if◌then◌else◌, List, [], ◌∷◌, ◌++◌}
use Rattle.std.proofs.Common.{length, find, Option, Some, None, option_map, Ok, refl, sym, ap, subst, ◌∙◌, arith, slice_get, unwrap_or}
use Rattle.std.specs.Prelude.{bytes_eq, reverse}
use Rattle.std.proofs.lemmas.Option.{none-some, same_Some}
use Rattle.std.proofs.lemmas.Bool.{lt-ltb}
use Rattle.rg_base.specs.declared.words.Cap.{Cap}
use Rattle.rg_base.specs.declared.words.Cap.TheVariants.{Mut, Tmp, Paused, Imm, Iso}
use Rattle.rg_base.specs.declared.ty.Ty.{Ty}
use Rattle.rg_base.specs.declared.ty.Ty.TheVariants.{Int, Bool, Ref}
use Rattle.rg_base.specs.declared.value.Val.{Val}
use Rattle.rg_base.specs.declared.value.Val.TheVariants as val
use Rattle.rg_base.specs.declared.object.Seen.{Seen}
use Rattle.rg_base.specs.declared.object.Label.{Label}
use Rattle.rg_base.specs.declared.object.Label.TheVariants.{Region, Temp, Frozen}
use Rattle.rg_base.specs.declared.outcome.Trap.TheVariants as trap
use Rattle.rg_tree.specs.Tree.{Name, Variable, Path, Field, Class, Tree}
use Rattle.rg_rules.specs.Capabilities.{is_iso}
use Rattle.rg_rules.specs.Types.{type_of, fields_of, field_place, field_type}
use Rattle.rg_rules.specs.Environment.{Env, Entry, entry_of, same_variable}
use Rattle.rg_rules.specs.Items.{Item}
use Rattle.rg_rules.specs.Bodies.{Body}
use Rattle.rg_rules.specs.State.{Local, Target, value_in, place_in, Frame, Window}
use Rattle.rg_rules.specs.Evaluation.{object_at, field_value}
use Rattle.rg_rules.specs.Regions.{region_of}
use Rattle.rg_rules.proofs.Answers.{ok_or-ok}
use Rattle.rg_rules.proofs.Step.{object_at-ok}
use Rattle.rg_sound.specs.Windows.{windows_of, windows_from}
use Rattle.rg_sound.specs.Values.{IsRegion, LabelFits, MeetsBy, Meets, FrameMeets}
use Rattle.rg_sound.proofs.Values.Declared.{declared-fields, named-fields}
use Rattle.rg_sound.proofs.Values.Value.{Sees, seen-meets}
use Rattle.rg_sound.specs.Objects.{FieldFits, FieldsMeet, ObjectsFit}
use Rattle.rg_sound.specs.Frames.{Named, Entered, Waits, WaitsEmpty, Beneath, Running}
use Rattle.rg_code.specs.Lowering.{type_in}
use Rattle.rg_code.specs.Places.{scope_of}
use Rattle.rg_stack.proofs.Callers.Frame.{OpenedBelow}
use Rattle.rg_stack.proofs.Walks.Slot.{Has}
use Rattle.rg_stack.proofs.Statements.Right.{InRegion}
use Rattle.rg_stack.proofs.Basics.{err-ok}
use Rattle.rg_stack.proofs.Judgements.Follow.{HaveFields}
use Rattle.rg_stack.proofs.Judgements.Judge.{OfType, Facts}
use Rattle.rg_stack.specs.Machine.{Window as Now}
use Rattle.rg_stack.proofs.Walks.Walk.{is_shut}
use Rattle.rg_stack.proofs.Needs.Closed.{temp-region}

-- a value that meets a type is of that type
pub meets-of_type : (store : List Seen) (F : Cap → Label → Type 0) (t : Ty) (v : Val) → MeetsBy store F t v → OfType store t v
meets-of_type store F Int val.Nil h = absurd h
meets-of_type store F Int (val.Int z) h = (λ o e. absurd (err-ok trap.Nil o e), λ e. absurd (true≢false (sym e)))
meets-of_type store F Int (val.Bool b) h = absurd h
meets-of_type store F Int (val.Obj a) h = absurd h
meets-of_type store F Bool val.Nil h = absurd h
meets-of_type store F Bool (val.Int z) h = absurd h
meets-of_type store F Bool (val.Bool b) h = (λ o e. absurd (err-ok trap.Nil o e), λ e. refl)
meets-of_type store F Bool (val.Obj a) h = absurd h
meets-of_type store F (Ref cap c) val.Nil h = (λ o e. absurd (err-ok trap.Nil o e), λ e. absurd (true≢false (sym e)))
meets-of_type store F (Ref cap c) (val.Int z) h = absurd h
meets-of_type store F (Ref cap c) (val.Bool b) h = absurd h
meets-of_type store F (Ref cap c) (val.Obj a) h = (
  λ o e. ap Some (sym h.class_is ∙ ap (λ (o : Seen). o.class) (same_Some h.object o (sym h.there ∙ ok_or-ok (slice_get store a) trap.Nil o e))),
  λ e. absurd (true≢false (sym e)),
)

-- an owner reference leads into a region, where the labels that fit are those of regions
pub meets-iso : (store : List Seen) (F : Cap → Label → Type 0) → ((l : Label) → F Iso l → (g : ℕ) × (region_of l ≡ Some g)) → (t : Ty) (v : Val)
    → is_iso t ≡ true → MeetsBy store F t v → InRegion store v
meets-iso store F regions Int v i h o e = absurd (true≢false (sym i))
meets-iso store F regions Bool v i h o e = absurd (true≢false (sym i))
meets-iso store F regions (Ref Mut c) v i h o e = absurd (true≢false (sym i))
meets-iso store F regions (Ref Tmp c) v i h o e = absurd (true≢false (sym i))
meets-iso store F regions (Ref Paused c) v i h o e = absurd (true≢false (sym i))
meets-iso store F regions (Ref Imm c) v i h o e = absurd (true≢false (sym i))
meets-iso store F regions (Ref Iso c) val.Nil i h o e = absurd (err-ok trap.Nil o e)
meets-iso store F regions (Ref Iso c) (val.Int z) i h o e = absurd h
meets-iso store F regions (Ref Iso c) (val.Bool b) i h o e = absurd h
meets-iso store F regions (Ref Iso c) (val.Obj a) i h o e =
    let same = same_Some h.object o (sym h.there ∙ ok_or-ok (slice_get store a) trap.Nil o e) in
    let g = regions h.object.label h.label_fits in
    (g.0, ap (λ (o : Seen). region_of o.label) (sym same) ∙ g.1)

is_region : (l : Label) → IsRegion l → (g : ℕ) × (region_of l ≡ Some g)
is_region l h = (h.0, ap region_of h.1)

-- one of a variable
pub meets-in_region : (store : List Seen) (ws : List Window) (t : Ty) (v : Val) → is_iso t ≡ true → Meets store ws t v → InRegion store v
meets-in_region store ws t v i h = meets-iso store (LabelFits ws) (λ l f. is_region l f) t v i h

-- and one of a field of an object that isn't frozen
field_iso : (ws : List Window) (own : Label) → (own ≡ Frozen → ⊥) → (l : Label) → FieldFits ws own Iso l → (g : ℕ) × (region_of l ≡ Some g)
field_iso ws (Region r) live l h = is_region l h
field_iso ws (Temp n) live l h = is_region l (temp-region (windows_from n ws) l h)
field_iso ws Frozen live l h = absurd (live refl)

-- the variable of an entry: its place, its type and its value
pub record Found (locals : List Local) (x : Variable) (e : Entry) : Type 0 where
  pub place : ℕ
  pub local : Local
  pub there : slice_get locals place ≡ Some local
  pub ty_is : local.ty ≡ e.ty
  pub type_is : type_in (scope_of locals) x ≡ e.ty
  pub value_is : value_in locals x ≡ local.value
  pub has : Has locals x

found_by : (t u : Truth) (first : Entry) (rest : Option Entry) (l : Local) (ls : List Local) (x : Variable) (e : Entry) → u ≡ t → l.ty ≡ first.ty
    → same_variable l.name x ≡ u
    → (rest ≡ Some e → Found ls x e) → (if t then Some first else rest) ≡ Some e → Found (l ∷ ls) x e
found_by true u first rest l ls x e is ty name more h =
    let same = same_Some first e h in
    let yes_name = name ∙ is in
    record {
      place = 0;
      local = l;
      there = refl;
      ty_is = ty ∙ ap (λ (e : Entry). e.ty) same;
      type_is = ap (λ b. if b then l.ty else type_in (scope_of ls) x) yes_name ∙ ty ∙ ap (λ (e : Entry). e.ty) same;
      value_is = ap (λ b. if b then l.value else value_in ls x) yes_name;
      has = let e : (if same_variable l.name x then 0 else suc (place_in ls x))
          ≡ 0 = ap (λ b. if b then 0 else suc (place_in ls x)) yes_name in omega (arith, e);
    }
found_by false u first rest l ls x e is ty name more h =
    let f = more h in
    let no_name = name ∙ is in
    record {
      place = suc f.place;
      local = f.local;
      there = f.there;
      ty_is = f.ty_is;
      type_is = ap (λ b. if b then l.ty else type_in (scope_of ls) x) no_name ∙ f.type_is;
      value_is = ap (λ b. if b then l.value else value_in ls x) no_name ∙ f.value_is;
      has = let e : (if same_variable l.name x then 0 else suc (place_in ls x))
          ≡ suc (place_in ls x) = ap (λ b. if b then 0 else suc (place_in ls x)) no_name in omega (arith, e, f.has);
    }

pub found-named : (entries : List Entry) (locals : List Local) (x : Variable) (e : Entry) → Named entries locals
    → find (λ (e : Entry). same_variable e.name x) entries ≡ Some e → Found locals x e
found-named [] locals x e h there = absurd (none-some e there)
found-named (d ∷ ds) [] x e h there = absurd h
found-named (d ∷ ds) (l ∷ ls) x e h there =
    found_by (same_variable d.name x) (same_variable l.name x) d (find (λ (e : Entry). same_variable e.name x) ds) l ls x e
    (ap (λ n. same_variable n x) h.0) h.1 refl (found-named ds ls x e h.2) there

-- a field of an object

place_more : (p : Option ℕ) (v : Val) (vs : List Val)
    → ◌≡◌ {A = Val} (elim (option_map suc p) [ None ↦ val.Nil | Some k ↦ unwrap_or (slice_get (v ∷ vs) k) val.Nil ])
    (elim p [ None ↦ val.Nil | Some k ↦ unwrap_or (slice_get vs k) val.Nil ])
place_more None v vs = refl
place_more (Some k) v vs = refl

field_by : (P : Ty → Val → Type 0) (b : Truth) (classes : List Class) (f : Field) (rest : Option Field) (place : Option ℕ) (t : Ty) (v : Val)
    (vs : List Val) → P (type_of classes f.ty) v
    → (option_map (λ (f : Field). type_of classes f.ty) rest ≡ Some t
    → P t (elim place [ None ↦ val.Nil | Some k ↦ unwrap_or (slice_get vs k) val.Nil ]))
    → option_map (λ (f : Field). type_of classes f.ty) (if b then Some f else rest) ≡ Some t
    → P t (elim (if b then Some 0 else option_map suc place) [ None ↦ val.Nil | Some k ↦ unwrap_or (slice_get (v ∷ vs) k) val.Nil ])
field_by P true classes f rest place t v vs first more h = subst (λ t. P t v) (same_Some (type_of classes f.ty) t h) first
field_by P false classes f rest place t v vs first more h = subst (P t) (sym (place_more place v vs)) (more h)

-- what holds of each value that meets its field's type holds of the field of a name
pub fields-meet : (P : Ty → Val → Type 0) (classes : List Class) (store : List Seen) (F : Cap → Label → Type 0)
    → ((t : Ty) (v : Val) → MeetsBy store F t v → P t v)
    → (fs : List Field) (vs : List Val) (x : Name) (t : Ty) → FieldsMeet classes store F fs vs
    → option_map (λ (f : Field). type_of classes f.ty) (find (λ (f : Field). bytes_eq f.name x) fs) ≡ Some t
    → P t (elim (field_place fs x) [ None ↦ val.Nil | Some k ↦ unwrap_or (slice_get vs k) val.Nil ])
fields-meet P classes store F each [] vs x t h declared = absurd (none-some t declared)
fields-meet P classes store F each (f ∷ fs) [] x t h declared = absurd h
fields-meet P classes store F each (f ∷ fs) (v ∷ vs) x t h declared =
    field_by P (bytes_eq f.name x) classes f (find (λ (f : Field). bytes_eq f.name x) fs) (field_place fs x) t v vs
    (each (type_of classes f.ty) v h.0) (fields-meet P classes store F each fs vs x t h.1) declared

-- an owner reference in a field of an object that isn't frozen leads into a region
pub field-in_region : (classes : List Class) (store : List Seen) (ws : List Window) → ObjectsFit classes store ws
    → (v : Val) (o : Seen) (f : Name) (t : Ty) → object_at store v ≡ Ok o → (o.label ≡ Frozen → ⊥) → field_type classes o.class f ≡ Some t
    → is_iso t ≡ true → InRegion store (field_value classes o f)
field-in_region classes store ws h v o f t there live declared iso =
    let l = object_at-ok store v o there in
    let fit = h l.address o l.there in
    fields-meet (λ t v. is_iso t ≡ true → InRegion store v) classes store (FieldFits ws o.label)
    (λ t v m i. meets-iso store (FieldFits ws o.label) (field_iso ws o.label live) t v i m) (fields_of classes o.class) o.fields f t
    (named-fields classes store ws o fit f t declared) declared iso

place_within : (b : Truth) (place : Option ℕ) (n k : ℕ) → ((j : ℕ) → place ≡ Some j → j < n)
    → (if b then Some 0 else option_map suc place) ≡ Some k → k < suc n
place_within true place n k more e = let is = same_Some 0 k e in omega (arith, is)
place_within false None n k more e = absurd (none-some k e)
place_within false (Some j) n k more e = let is = same_Some (suc j) k e in let less = more j refl in omega (arith, is, less)

-- an object has the fields of its class
fields-there : (classes : List Class) (store : List Seen) (F : Cap → Label → Type 0) (fs : List Field) (vs : List Val) (x : Name) (k : ℕ)
    → FieldsMeet classes store F fs vs → field_place fs x ≡ Some k → k < length vs
fields-there classes store F [] vs x k h e = absurd (none-some k e)
fields-there classes store F (f ∷ fs) [] x k h e = absurd h
fields-there classes store F (f ∷ fs) (v ∷ vs) x k h e = place_within (bytes_eq f.name x) (field_place fs x) (length vs) k
    (λ j is. fields-there classes store F fs vs x j h.1 is) e

-- a field that has a place is there
place-field : (fs : List Field) (x : Name) (k : ℕ) → field_place fs x ≡ Some k → (f : Field) × (slice_get fs k ≡ Some f)
place-field [] x k h = absurd (none-some k h)
place-field (g ∷ gs) x k h = by (bytes_eq g.name x) (field_place gs x) h (λ j e. place-field gs x j e)
  where
    by : (b : Truth) (p : Option ℕ) → (if b then Some 0 else option_map suc p) ≡ Some k
        → ((j : ℕ) → p ≡ Some j → (f : Field) × (slice_get gs j ≡ Some f)) → (f : Field) × (slice_get (g ∷ gs) k ≡ Some f)
    by true p e more = (g, subst (λ n. slice_get (g ∷ gs) n ≡ Some g) (same_Some 0 k e) refl)
    by false None e more = absurd (none-some k e)
    by false (Some j) e more = let m = more j refl in (m.0, subst (λ n. slice_get (g ∷ gs) n ≡ Some m.0) (same_Some (suc j) k e) m.1)

objects-sizes : (classes : List Class) (store : List Seen) (ws : List Window) → ObjectsFit classes store ws → HaveFields classes store
objects-sizes classes store ws h v o f k there place =
    let l = object_at-ok store v o there in
    let fit = h l.address o l.there in
    let field = place-field (fields_of classes o.class) f k place in
    let fields = subst (λ fs. FieldsMeet classes store (FieldFits ws o.label) fs o.fields)
    (declared-fields classes store ws o fit k field.0 field.1) fit.fields in
    lt-ltb k (length o.fields) (fields-there classes store (FieldFits ws o.label) (fields_of classes o.class) o.fields f k fields place)

pub objects-fields : (classes : List Class) (store : List Seen) (ws : List Window) → ObjectsFit classes store ws
    → (v : Val) (o : Seen) (f : Name) (t : Ty) → object_at store v ≡ Ok o → field_type classes o.class f ≡ Some t
    → OfType store t (field_value classes o f)
objects-fields classes store ws h v o f t there declared =
    let l = object_at-ok store v o there in
    let fit = h l.address o l.there in
    fields-meet (OfType store) classes store (FieldFits ws o.label) (meets-of_type store (FieldFits ws o.label)) (fields_of classes o.class)
    o.fields f t (named-fields classes store ws o fit f t declared) declared

-- the facts of the judgements' lemmas, of the frame that runs
pub facts_of : (classes : List Class) (env : Env) (store : List Seen) (now : List Now) (windows : List Window) (n : ℕ) (locals : List Local)
    → ObjectsFit classes store windows
    → ((t : Ty) (v : Val) → Meets store windows t v → is_iso t ≡ false → is_shut store now v ≡ false)
    → Sees store windows n env locals → Facts classes env store now locals
facts_of classes env store now windows n locals objects shut sees = record {
  declared = λ x e there. (found-named env.entries locals x e sees.named there).type_is;
  variables = λ x e there. let f = found-named env.entries locals x e sees.named there in
      subst (OfType store e.ty) (sym f.value_is) (subst (λ t. OfType store t f.local.value) f.ty_is
      (meets-of_type store (LabelFits (windows_of n f.place windows)) f.local.ty f.local.value (sees.values f.place f.local f.there)));
  fields = objects-fields classes store windows objects;
  sizes = objects-sizes classes store windows objects;
  opened = windows;
  safe = record { objects = objects; shut = shut };
  frame = n;
  sees = sees;
  meets = seen-meets store windows n env locals sees;
}

-- what `freeze`, `merge` and `enter x` want of their variable
pub variable-in_region : (env : Env) (store : List Seen) (windows : List Window) (n : ℕ) (locals : List Local) (x : Variable) (e : Entry)
    → Named env.entries locals → FrameMeets store windows n locals → entry_of env x ≡ Some e → is_iso e.ty ≡ true → InRegion store (value_in locals x)
variable-in_region env store windows n locals x e named meets there iso =
    let f = found-named env.entries locals x e named there in
    subst (InRegion store) (sym f.value_is) (meets-in_region store (windows_of n f.place windows) f.local.ty f.local.value (ap is_iso f.ty_is ∙ iso)
    (meets f.place f.local f.there))

-- a visible variable is there
pub variable-there : (env : Env) (locals : List Local) (x : Variable) (e : Entry) → Named env.entries locals → entry_of env x ≡ Some e → Has locals x
variable-there env locals x e named there = (found-named env.entries locals x e named there).has

-- the frames in which windows opened

below_more : (ws : List Window) (n m : ℕ) → n ≤ m → OpenedBelow n ws → OpenedBelow m ws
below_more [] n m h o = tt
below_more (w ∷ ws) n m h o = (omega (arith, h, o.0), below_more ws n m h o.1)

below_append : (own under : List Window) (n : ℕ) → OpenedBelow n own → OpenedBelow n under → OpenedBelow n (own ++ under)
below_append [] under n a b = b
below_append (w ∷ ws) under n a b = (a.0, below_append ws under n a.1 b)

below_entered : (n : ℕ) (locals : List Local) (ps : List Path) (ws : List Window) → Entered n locals ps ws → OpenedBelow (suc n) ws
below_entered n locals [] [] h = tt
below_entered n locals [] (w ∷ ws) h = absurd h
below_entered n locals (p ∷ ps) [] h = absurd h
below_entered n locals (p ∷ ps) (w ∷ ws) h = (let e = h.0 in omega (arith, e), below_entered n locals ps ws h.2)

below_own : (classes : List Class) (b : Body) (f : Frame) (n : ℕ) (own : List Window) (mine : List Item) (callee : Body) (target : Target)
    → Waits classes b f n own mine callee target → OpenedBelow (suc n) own
below_own classes b f n own mine callee target h = below_entered n f.locals (reverse h.spot.enters) own h.stands.entered

below_waits : (t : Tree) (b : Body) (f : Frame) (n : ℕ) (own : List Window) (mine : List Item) (callee : Body) (target : Target)
    → Waits t.classes b f n own mine callee target ⊎ WaitsEmpty t b f own mine callee target → OpenedBelow (suc n) own
below_waits t b f n own mine callee target (inl h) = below_own t.classes b f n own mine callee target h
below_waits t b f n own mine callee target (inr h) = subst (OpenedBelow (suc n)) (sym h.no_window) tt

-- windows beneath a frame opened in the frames beneath it, or in main's
pub below-all : (t : Tree) (fs : List Frame) (ws : List Window) (items : List Item) (b : Body) (target : Target) → Beneath t fs ws items b target
    → OpenedBelow (suc (length fs)) ws
below-all t [] ws items b target h = subst (OpenedBelow 1) (sym h.2.2) (omega arith, tt)
below-all t (f ∷ fs) ws items b target h =
    let own = below_waits t h.0 f (length fs) h.1 h.3 b target h.7 in
    let under = below-all t fs h.2 h.4 h.0 f.target h.8 in
    subst (OpenedBelow (suc (length (f ∷ fs)))) (sym h.5)
    (below_more (h.1 ++ h.2) (suc (length fs)) (suc (length (f ∷ fs))) (omega arith) (below_append h.1 h.2 (suc (length fs)) own under))

pub below-tight : (t : Tree) (f : Frame) (fs : List Frame) (ws : List Window) (items : List Item) (b : Body) (target : Target)
    → Beneath t (f ∷ fs) ws items b target → OpenedBelow (suc (length fs)) ws
below-tight t f fs ws items b target h =
    let own = below_waits t h.0 f (length fs) h.1 h.3 b target h.7 in
    let under = below-all t fs h.2 h.4 h.0 f.target h.8 in
    subst (OpenedBelow (suc (length fs))) (sym h.5) (below_append h.1 h.2 (suc (length fs)) own under)

-- the windows of a state opened in the frames that are there
pub running-below : (t : Tree) (top : Frame) (lower : List Frame) (ws : List Window) (items : List Item) → Running t top lower ws items
    → OpenedBelow (suc (length lower)) ws
running-below t top lower ws items h =
    subst (OpenedBelow (suc (length lower))) (sym h.windows_are)
    (below_append h.own h.under (suc (length lower)) (below_entered (length lower) top.locals (reverse h.spot.enters) h.own h.stands.entered)
    (below-all t lower h.under h.rest h.body top.target h.beneath))

-- and where the running body has none open, in those beneath it
pub running-beneath : (t : Tree) (top f : Frame) (fs : List Frame) (ws : List Window) (items : List Item) → (h : Running t top (f ∷ fs) ws items)
    → h.own ≡ [] → OpenedBelow (suc (length fs)) ws
running-beneath t top f fs ws items h none =
    subst (OpenedBelow (suc (length fs))) (sym (h.windows_are ∙ ap (λ l. l ++ h.under) none))
    (below-tight t f fs h.under h.rest h.body top.target h.beneath)
