-- What the computation of a right side leaves: other parts of the state that fit, and a value that may go where its type is.
use Rattle.std.proofs.Common.{◌≡◌, ◌≢◌, refl, sym, ◌∙◌, ap, subst, ◌⊎◌, inl, inr, ℕ, ◌==◌, Bool as Truth, true, false, ◌||◌, ◌&&◌, not as negated}
use Rattle.std.proofs.Common.{if◌then◌else◌, List, [], ◌∷◌, length, Option, Some, None, ok_or, option_and_then, slice_get, slice_set, Result, Ok}
use Rattle.std.proofs.Common.{arith}
use Rattle.rg_base.specs.declared.words.Cap.{Cap}
use Rattle.rg_base.specs.declared.words.Cap.TheVariants.{Mut, Tmp, Paused, Imm, Iso}
use Rattle.rg_base.specs.declared.ty.Ty.{Ty}
use Rattle.rg_base.specs.declared.ty.Ty.TheVariants.{Int, Bool, Ref}
use Rattle.rg_base.specs.declared.fault.Code.TheVariants.{Unknown}
use Rattle.rg_base.specs.declared.object.Place.{Place}
use Rattle.rg_base.specs.declared.object.Place.TheVariants.{Var, Field}
use Rattle.rg_base.specs.declared.object.Seen.{Seen}
use Rattle.rg_base.specs.declared.value.Val.{Val}
use Rattle.rg_base.specs.declared.value.Val.TheVariants.{Nil}
use Rattle.rg_base.specs.declared.outcome.Trap.{Trap}
use Rattle.rg_tree.specs.Tree.{Name, Variable, Expr, number, boolean, nil, path, is_nil, neg, not, binary, size, element, Path}
use Rattle.rg_tree.specs.Tree.{Class, Tree}
use Rattle.rg_rules.specs.Answers.{◌>>=◌, Answer}
use Rattle.rg_rules.specs.Capabilities.{below, below_cap, is_iso, is_iso_cap}
use Rattle.rg_rules.specs.Environment.{Env, Entry, Readiness, ready, gone, lent, entry_of, seen_type, available, is_ready, is_lent, used}
use Rattle.rg_rules.specs.Paths.{walk, walk_array}
use Rattle.rg_rules.specs.Items.{Item}
use Rattle.rg_rules.specs.Expressions.{Judged, against, judge_path, judge_is_nil, Operators, arithmetic, order, equality, logic, among, result_type}
use Rattle.rg_rules.specs.Expressions.{judge_expr}
use Rattle.rg_rules.specs.State.{Local, Frame, Window, State, value_in, place_in, set_in, locals_of, with_top, top_locals}
use Rattle.rg_rules.specs.Evaluation.{value_of, uses, cleared, computed, is_iso_local}
use Rattle.rg_rules.specs.Regions.{region_at, address, owned}
use Rattle.rg_rules.specs.Owners.{owned_by_local, leads_into}
use Rattle.rg_rules.proofs.Answers.{bind-ok, then-ok, test-then, ok_or-ok}
use Rattle.rg_rules.proofs.Expression.{against-ok, binary-ok, seen_type-is_iso}
use Rattle.rg_rules.proofs.Uses.{judge_expr-uses}
use Rattle.rg_rules.proofs.Local.{set_in-at}
use Rattle.rg_rules.proofs.Step.{computed-ok}
use Rattle.rg_sound.specs.Windows.{windows_of}
use Rattle.rg_sound.specs.Values.{Meets}
use Rattle.rg_sound.specs.Frames.{Named, Running}
use Rattle.rg_sound.specs.Writes.{WritesActive}
use Rattle.rg_sound.proofs.Basics.{none-some}
use Rattle.rg_sound.proofs.Frames.Quiet.{writes-same}
use Rattle.rg_sound.proofs.Frames.Named.{Named-iso, Named-cleared, first-at}
use Rattle.rg_sound.proofs.Values.Value.{value-meets, element-not_iso}
use Rattle.rg_sound.proofs.Owners.Owner.{leads-top}
use Rattle.rg_sound.proofs.Owners.Bridge.{KeepsClasses, classes-same}
use Rattle.rg_sound.proofs.Owners.Receiver.{IsTop}
use Rattle.rg_sound.proofs.Owners.Data.{Data, NotOwner, Puts, puts-set, leads-put, put-local}
use Rattle.rg_sound.proofs.Frames.Top.{Top, top-sees, top-not_owner}

-- a value of a type owns no region, or one that is owned nowhere
abbrev pub OwnsFreshAs : List Class → List Seen → List Frame → Ty → Val → Type 0
OwnsFreshAs classes store frames t v =
    (r : ℕ) → option_and_then (region_at store) (owned t v) ≡ Some r → (r ≢ 0) × ((q : Place) → ¬ (leads_into classes store frames q ≡ Some r))

-- the objects of the topmost window stay as they are
abbrev pub KeepsTop : List Window → (old new : List Seen) → Type 0
KeepsTop ws old new = (b : ℕ) (o : Seen) → slice_get old b ≡ Some o → IsTop ws o.label → slice_get new b ≡ Some o

-- what is there once a right side is computed
pub record Gives (t : Tree) (s : State) (f : Frame) (fs : List Frame) (env : Env) (after : State) (ty : Ty) (v : Val) : Type 0 where
  pub locals : List Local
  pub frames : after.frames ≡ record f { locals = locals } ∷ fs
  pub named : Named env.entries locals
  pub windows : after.windows ≡ s.windows
  pub made : after.windows_made ≡ s.windows_made
  pub items : after.items ≡ s.items
  pub fits : Data t.classes after.store (record f { locals = locals } ∷ fs) s.windows (length after.managers) s.windows_made
  pub meets : Meets after.store s.windows ty v
  pub fresh : OwnsFreshAs t.classes after.store (record f { locals = locals } ∷ fs) ty v
  pub allowed : WritesActive s after
  pub keeps : KeepsTop s.windows s.store after.store
  pub classes : KeepsClasses s.store after.store

-- only an `iso` type stands where an `iso` one is expected
pub below-iso : (t w : Ty) → below t w ≡ true → is_iso t ≡ is_iso w
below-iso Int Int h = refl
below-iso Int Bool h = grind arith
below-iso Int (Ref k d) h = grind arith
below-iso Bool Int h = grind arith
below-iso Bool Bool h = refl
below-iso Bool (Ref k d) h = grind arith
below-iso (Ref cap c) Int h = grind arith
below-iso (Ref cap c) Bool h = grind arith
below-iso (Ref cap c) (Ref k d) h = by_cap cap k (and_second (c == d) (below_cap cap k) h)
  where
    and_second : (a b : Truth) → a && b ≡ true → b ≡ true
    and_second true b e = e
    and_second false b e = grind arith

    by_cap : (cap k : Cap) → below_cap cap k ≡ true → is_iso_cap cap ≡ is_iso_cap k
    by_cap Mut Mut e = refl
    by_cap Mut Tmp e = refl
    by_cap Mut Paused e = refl
    by_cap Mut Imm e = refl
    by_cap Mut Iso e = grind arith
    by_cap Tmp Mut e = refl
    by_cap Tmp Tmp e = refl
    by_cap Tmp Paused e = refl
    by_cap Tmp Imm e = refl
    by_cap Tmp Iso e = grind arith
    by_cap Paused Mut e = refl
    by_cap Paused Tmp e = refl
    by_cap Paused Paused e = refl
    by_cap Paused Imm e = refl
    by_cap Paused Iso e = grind arith
    by_cap Imm Mut e = refl
    by_cap Imm Tmp e = refl
    by_cap Imm Paused e = refl
    by_cap Imm Imm e = refl
    by_cap Imm Iso e = grind arith
    by_cap Iso Mut e = grind arith
    by_cap Iso Tmp e = grind arith
    by_cap Iso Paused e = grind arith
    by_cap Iso Imm e = grind arith
    by_cap Iso Iso e = refl

pub not_iso-fresh : (classes : List Class) (store : List Seen) (frames : List Frame) (t : Ty) (v : Val) → is_iso t ≡ false →
    OwnsFreshAs classes store frames t v
not_iso-fresh classes store frames t v n r h = none-some (sym (by (is_iso t) n) ∙ h)
  where
    by : (b : Truth) → b ≡ false → option_and_then (region_at store) (if b then address v else None) ≡ None
    by true e = grind arith
    by false e = refl

pub nil-fresh : (classes : List Class) (store : List Seen) (frames : List Frame) (t : Ty) → OwnsFreshAs classes store frames t Nil
nil-fresh classes store frames t r h = none-some (sym (by (is_iso t)) ∙ h)
  where
    by : (b : Truth) → option_and_then (region_at store) (if b then address Nil else None) ≡ None
    by true = refl
    by false = refl

-- which expressions have an `iso` type: a variable, nil, and an element where elements may be `iso`
pub data IsoExpr (classes : List Class) (env : Env) : Expr → Judged → Type 0 where
  is_variable : {x : Variable} {j : Judged} → (e : Entry) → entry_of env x ≡ Some e → is_iso e.ty ≡ true → is_ready e.readiness ≡ true →
      j.ty ≡ seen_type env e →
      IsoExpr classes env (path (record { base = x; fields = [] })) j
  is_none : {j : Judged} → IsoExpr classes env nil j
  is_element : {j : Judged} → (q : Path) (e : Expr) → IsoExpr classes env (element q e) j

against-iso : (w : Option Ty) (t : Ty) (env : Env) (j : Judged) → against w t env ≡ Ok j → is_iso j.ty ≡ true → is_iso t ≡ true
against-iso w t env j h i = ap is_iso (sym (against-ok w t env j h).ty) ∙ i

result-not_iso : (o : Operators) → is_iso (result_type o) ≡ false
result-not_iso arithmetic = refl
result-not_iso order = refl
result-not_iso equality = refl
result-not_iso logic = refl

iso-path : (classes : List Class) (env : Env) (w : Option Ty) (x : Variable) (fs : List Name) (j : Judged) →
    ◌≡◌ {A = Answer Judged} (◌>>=◌ (judge_path classes env x fs) (λ k. against w k.ty k.env)) (Ok j) → is_iso j.ty ≡ true →
    IsoExpr classes env (path (record { base = x; fields = fs })) j
iso-path classes env w x [] j h i =
    let p = bind-ok (judge_path classes env x []) _ j h in
    let a = against-ok w p.0.ty p.0.env j p.2 in
    let e = bind-ok (ok_or (entry_of env x) Unknown) _ p.0 p.1 in
    let q = test-then (available e.0) _ _ p.0 e.2 in
    let same : record { ty = seen_type env e.0; env = used x e.0 env } ≡ p.0 = grind arith in
    let ty : j.ty ≡ seen_type env e.0 = a.ty ∙ ap (λ (k : Judged). k.ty) (sym same) in
    let iso : is_iso e.0.ty ≡ true = sym (seen_type-is_iso env e.0) ∙ ap is_iso (sym ty) ∙ i in
    is_variable e.0 (ok_or-ok (entry_of env x) Unknown e.0 e.1) iso (ready_by (is_iso e.0.ty) (is_ready e.0.readiness) iso q.0) ty
  where
    ready_by : (a b : Truth) → a ≡ true → (negated a || b) ≡ true → b ≡ true
    ready_by true b e h = h
    ready_by false b e h = grind arith
iso-path classes env w x (f ∷ fs) j h i =
    let p = bind-ok (judge_path classes env x (f ∷ fs)) _ j h in
    let a = against-ok w p.0.ty p.0.env j p.2 in
    let t = bind-ok (walk classes env x (f ∷ fs)) _ p.0 p.1 in
    let n = test-then (negated (is_iso t.0)) _ _ p.0 t.2 in
    let same : record { ty = t.0; env = env } ≡ p.0 = grind arith in
    let ty : j.ty ≡ t.0 = a.ty ∙ ap (λ (k : Judged). k.ty) (sym same) in
    let iso : is_iso t.0 ≡ true = ap is_iso (sym ty) ∙ i in absurd (no_both (is_iso t.0) iso n.0)
  where
    no_both : (a : Truth) → a ≡ true → negated a ≡ true → ⊥
    no_both true e h = grind arith
    no_both false e h = grind arith

pub iso-expr : (classes : List Class) (env : Env) (w : Option Ty) (e : Expr) (j : Judged) → judge_expr classes env w e ≡ Ok j → is_iso j.ty ≡ true →
    IsoExpr classes env e j
iso-expr classes env w (number z) j h i = let no : false ≡ true = against-iso w Int env j h i in grind arith
iso-expr classes env w (boolean b) j h i = let no : false ≡ true = against-iso w Bool env j h i in grind arith
iso-expr classes env w nil j h i = is_none
iso-expr classes env w (path q) j h i = iso-path classes env w q.base q.fields j h i
iso-expr classes env w (is_nil q) j h i =
    let p = then-ok (judge_is_nil classes env q.base q.fields) _ j h in let no : false ≡ true = against-iso w Bool env j p.2 i in grind arith
iso-expr classes env w (neg a) j h i =
    let p = bind-ok (judge_expr classes env (Some Int) a) _ j h in let no : false ≡ true = against-iso w Int p.0.env j p.2 i in grind arith
iso-expr classes env w (not a) j h i =
    let p = bind-ok (judge_expr classes env (Some Bool) a) _ j h in let no : false ≡ true = against-iso w Bool p.0.env j p.2 i in grind arith
iso-expr classes env w (binary op a b) j h i =
    let p = binary-ok classes env w (among op) a b j h in
    let no : false ≡ true = sym (result-not_iso (among op)) ∙ against-iso w (result_type (among op)) p.r.env j p.last i in grind arith
iso-expr classes env w (size q) j h i =
    let p = then-ok (walk_array classes env q.base q.fields) _ j h in let no : false ≡ true = against-iso w Int env j p.2 i in grind arith
iso-expr classes env w (element q e) j h i = is_element q e

-- an `iso` variable that is used up: what it owned is owned nowhere, and it may go wherever its type is
pub record Taken (t : Tree) (store : List Seen) (f : Frame) (fs : List Frame) (ws : List Window) (regions made : ℕ) (x : Variable) : Type 0 where
  pub fits : Data t.classes store (record f { locals = set_in x Nil f.locals } ∷ fs) ws regions made
  pub unowned : (r : ℕ) → option_and_then (region_at store) (address (value_in f.locals x)) ≡ Some r →
      (r ≢ 0) × ((q : Place) → ¬ (leads_into t.classes store (record f { locals = set_in x Nil f.locals } ∷ fs) q ≡ Some r))

pub take-variable : (t : Tree) (store : List Seen) (f : Frame) (fs : List Frame) (ws : List Window) (regions made : ℕ) (x : Variable) (e : Entry)
    (env : Env) →
    Data t.classes store (f ∷ fs) ws regions made → Named env.entries f.locals → entry_of env x ≡ Some e → is_iso e.ty ≡ true →
    NotOwner ws (length fs) (place_in f.locals x) → Taken t store f fs ws regions made x
take-variable t store f fs ws regions made x e env d names there iso not_owner =
    let a = first-at env.entries f.locals x e names there in
    let k = place_in f.locals x in
    let cleared_local : Local = record a.local { value = Nil } in
    let set : set_in x Nil f.locals ≡ slice_set f.locals k cleared_local = set_in-at x Nil f.locals a.local a.local_at in
    let puts : Puts f.locals (set_in x Nil f.locals) k cleared_local =
    let P : List Local → Type 0 = λ q. Puts f.locals q k cleared_local in subst P (sym set) (puts-set f.locals k cleared_local a.local a.local_at) in
    let local_iso : is_iso a.local.ty ≡ true = ap is_iso a.pair.ty ∙ iso in
    let nil_fits = nil-meets store (windows_of (length fs) k ws) a.local.ty local_iso in
    let fits = put-local t.classes store f fs ws regions made (set_in x Nil f.locals) k cleared_local d puts nil_fits
    (nil-fresh t.classes store (f ∷ fs) a.local.ty) not_owner in
    record {
      fits = fits;
      unowned = λ r h.
          let was : leads_into t.classes store (f ∷ fs) (Var (length fs) k) ≡ Some r =
          leads-top t.classes store f fs k ∙ ap (λ (q : Option Local). option_and_then (region_at store) (option_and_then owned_by_local q))
          a.local_at
          ∙ ap (λ (b : Truth). option_and_then (region_at store) (if b then address a.local.value else None)) local_iso
          ∙ ap (λ v. option_and_then (region_at store) (address v)) (sym a.value) ∙ h in
          let now : leads_into t.classes store (record f { locals = set_in x Nil f.locals } ∷ fs) (Var (length fs) k) ≡ None =
          leads-top t.classes store (record f { locals = set_in x Nil f.locals }) fs k
          ∙ ap (λ (q : Option Local). option_and_then (region_at store) (option_and_then owned_by_local q)) puts.at ∙ nothing (is_iso a.local.ty) in (
            λ z. d.forest.none_into_first (Var (length fs) k) (was ∙ ap Some z),
            λ q g. elim (back k a.local d puts q r g) [
              | inl old ↦
                  let here : q ≡ Var (length fs) k = d.forest.one_owner q (Var (length fs) k) r old was in
                  let P : Place → Type 0 = λ p. leads_into t.classes store (record f { locals = set_in x Nil f.locals } ∷ fs) p ≡ Some r in
                  none-some (sym now ∙ subst P here g)
              | inr never ↦ never
            ],
          );
    }
  where
    nil-meets : (store : List Seen) (ws : List Window) (t : Ty) → is_iso t ≡ true → Meets store ws t Nil
    nil-meets store ws Int h = grind arith
    nil-meets store ws Bool h = grind arith
    nil-meets store ws (Ref cap c) h = tt

    nothing : (b : Truth) → option_and_then (region_at store) (if b then address Nil else None) ≡ None
    nothing true = refl
    nothing false = refl

    back : (k : ℕ) (l : Local) → Data t.classes store (f ∷ fs) ws regions made →
        Puts f.locals (set_in x Nil f.locals) k (record l { value = Nil }) → (q : Place) (r : ℕ) →
        leads_into t.classes store (record f { locals = set_in x Nil f.locals } ∷ fs) q ≡ Some r →
        (leads_into t.classes store (f ∷ fs) q ≡ Some r) ⊎ ⊥
    back k l d p (Var n i) r h = elim (leads-put t.classes store f fs (set_in x Nil f.locals) k (record l { value = Nil }) p n i) [
      | inl at ↦ none-some (sym (nothing (is_iso l.ty)) ∙ sym at.2 ∙ h)
      | inr same ↦ inl (sym same ∙ h)
    ]
    back k l d p (Field a j) r h = inl h

pub ready-not_lent : (q : Readiness) → is_ready q ≡ true → is_lent q ≡ false
ready-not_lent ready h = refl
ready-not_lent gone h = refl
ready-not_lent lent h = grind arith

-- the value of an expression, when it is used up
pub expression-gives : (t : Tree) (s : State) (f : Frame) (fs : List Frame) (later : List Item) (r : Running t f fs s.windows later) →
    Top t f fs s.windows later r → s.frames ≡ f ∷ fs → Data t.classes s.store (f ∷ fs) s.windows (length s.managers) s.windows_made →
    (w : Option Ty) (e : Expr) (j : Judged) → judge_expr t.classes r.spot.env w e ≡ Ok j → (p : State × Val) → computed t.classes s e ≡ Ok p →
    Gives t s f fs r.spot.env p.0 j.ty p.1
expression-gives t s f fs later r top at d w e j typed p h =
    let c = computed-ok t.classes s e p h in
    let locals : locals_of s ≡ f.locals = ap top_locals at in
    let P : List Local → Type 0 = λ q. value_of t.classes s.store q e ≡ Ok p.1 in
    let value = subst P locals c.value in
    let sees = top-sees t s.store f fs s.windows later r top d.values in
    let meets = value-meets t.classes s.store s.windows (length fs) r.spot.env f.locals d.objects sees w e j p.1 typed value in
    let state : p.0 ≡ record s { frames = record f { locals = cleared (uses f.locals e) f.locals } ∷ fs } =
    c.state ∙ ap (λ (q : List Frame). record s { frames = with_top (cleared (uses (top_locals q) e) (top_locals q)) q }) at in
    by_type (is_iso j.ty) refl state value meets
  where
    quiet : p.0 ≡ record s { frames = record f { locals = cleared (uses f.locals e) f.locals } ∷ fs } → Meets s.store s.windows j.ty p.1 →
        Named r.spot.env.entries (cleared (uses f.locals e) f.locals) →
        Data t.classes s.store (record f { locals = cleared (uses f.locals e) f.locals } ∷ fs) s.windows (length s.managers) s.windows_made →
        OwnsFreshAs t.classes s.store (record f { locals = cleared (uses f.locals e) f.locals } ∷ fs) j.ty p.1 →
        Gives t s f fs r.spot.env p.0 j.ty p.1
    quiet state m n now fresh = rw state (record {
      locals = cleared (uses f.locals e) f.locals;
      frames = refl;
      named = n;
      windows = refl;
      made = refl;
      items = refl;
      fits = now;
      meets = m;
      fresh = fresh;
      allowed = writes-same s (record s { frames = record f { locals = cleared (uses f.locals e) f.locals } ∷ fs }) refl;
      keeps = λ b o h i. h;
      classes = classes-same s.store;
    })

    none_used : uses f.locals e ≡ [] → p.0 ≡ record s { frames = record f { locals = cleared (uses f.locals e) f.locals } ∷ fs } →
        Meets s.store s.windows j.ty p.1 →
        OwnsFreshAs t.classes s.store (f ∷ fs) j.ty p.1 → Gives t s f fs r.spot.env p.0 j.ty p.1
    none_used u state m fresh =
        let P : List Variable → Type 0 = λ q. Named r.spot.env.entries (cleared q f.locals) in
        let Q : List Variable → Type 0 = λ q. Data t.classes s.store (record f { locals = cleared q f.locals } ∷ fs) s.windows (length s.managers)
        s.windows_made in
        let R : List Variable → Type 0 = λ q. OwnsFreshAs t.classes s.store (record f { locals = cleared q f.locals } ∷ fs) j.ty p.1 in
        quiet state m (subst P (sym u) r.stands.named) (subst Q (sym u) d) (subst R (sym u) fresh)

    by_expr : (x : Expr) → IsoExpr t.classes r.spot.env x j → x ≡ e → is_iso j.ty ≡ true →
        p.0 ≡ record s { frames = record f { locals = cleared (uses f.locals e) f.locals } ∷ fs } → value_of t.classes s.store f.locals e ≡ Ok p.1 →
        Meets s.store s.windows j.ty p.1 → Gives t s f fs r.spot.env p.0 j.ty p.1
    by_expr nil is_none same iso state value m =
        let none : uses f.locals e ≡ [] = ap (uses f.locals) (sym same) in
        let v : ◌≡◌ {A = Result Val Trap} (Ok Nil) (Ok p.1) = ap (value_of t.classes s.store f.locals) same ∙ value in
        let is : Nil ≡ p.1 = grind arith in
        let P : Val → Type 0 = λ q. OwnsFreshAs t.classes s.store (f ∷ fs) j.ty q in
        none_used none state m (subst P is (nil-fresh t.classes s.store (f ∷ fs) j.ty))
    by_expr (path q) (is_variable {x = x} entry there ty_iso is_free ty) same iso state value m =
        let a = first-at r.spot.env.entries f.locals x entry r.stands.named there in
        let used_is : uses f.locals (path (record { base = x; fields = [] })) ≡ x ∷ [] =
        let i : is_iso_local f.locals x ≡ true = a.iso ∙ ty_iso in rw i refl in
        let one : uses f.locals e ≡ x ∷ [] = ap (uses f.locals) (sym same) ∙ used_is in
        let v : ◌≡◌ {A = Result Val Trap} (Ok (value_in f.locals x)) (Ok p.1) = ap (value_of t.classes s.store f.locals) same ∙ value in
        let is : value_in f.locals x ≡ p.1 = grind arith in
        let free = top-not_owner t f fs s.windows later r top (place_in f.locals x) entry a.entry_at (ready-not_lent entry.readiness is_free) in
        let k = take-variable t s.store f fs s.windows (length s.managers) s.windows_made x entry r.spot.env d r.stands.named there ty_iso free in
        let P : List Variable → Type 0 = λ y. Named r.spot.env.entries (cleared y f.locals) in
        let Q : List Variable → Type 0 = λ y. Data t.classes s.store (record f { locals = cleared y f.locals } ∷ fs) s.windows (length s.managers)
        s.windows_made in
        let R : List Variable → Type 0 = λ y. OwnsFreshAs t.classes s.store (record f { locals = cleared y f.locals } ∷ fs) j.ty p.1 in
        let S : Val → Type 0 = λ y. OwnsFreshAs t.classes s.store (record f { locals = set_in x Nil f.locals } ∷ fs) j.ty y in
        let fresh : OwnsFreshAs t.classes s.store (record f { locals = set_in x Nil f.locals } ∷ fs) j.ty (value_in f.locals x) = λ n h.
        k.unowned n (ap (λ (b : Truth). option_and_then (region_at s.store) (if b then address (value_in f.locals x) else None)) (sym iso) ∙ h) in
        quiet state m (subst P (sym one) (Named-cleared (x ∷ []) r.spot.env.entries f.locals r.stands.named)) (subst Q (sym one) k.fits)
        (subst R (sym one) (subst S is fresh))
    by_expr _ (is_element q i) same iso state value m =
        let no = element-not_iso t.classes s.store s.windows (length fs) r.spot.env f.locals d.objects (top-sees t s.store f fs s.windows later r top
        d.values)
        w q i j p.1 (ap (judge_expr t.classes r.spot.env w) same ∙ typed) (ap (value_of t.classes s.store f.locals) same ∙ value) in
        let both : true ≡ false = sym iso ∙ no in grind arith

    by_type : (b : Truth) → is_iso j.ty ≡ b → p.0 ≡ record s { frames = record f { locals = cleared (uses f.locals e) f.locals } ∷ fs } →
        value_of t.classes s.store f.locals e ≡ Ok p.1 → Meets s.store s.windows j.ty p.1 → Gives t s f fs r.spot.env p.0 j.ty p.1
    by_type false n state value m =
        none_used (judge_expr-uses t.classes r.spot.env f.locals (Named-iso r.spot.env f.locals r.stands.named) w e j typed n) state m
        (not_iso-fresh t.classes s.store (f ∷ fs) j.ty p.1 n)
    by_type true n state value m = by_expr e (iso-expr t.classes r.spot.env w e j typed n) refl n state value m

-- a value that isn't a reference, where nothing changes but the rest of the input
pub quiet-gives : (t : Tree) (s after : State) (f : Frame) (fs : List Frame) (env : Env) (ty : Ty) (v : Val) → s.frames ≡ f ∷ fs →
    Named env.entries f.locals →
    after ≡ record s { input = after.input } → Data t.classes s.store (f ∷ fs) s.windows (length s.managers) s.windows_made → is_iso ty ≡ false →
    Meets s.store s.windows ty v → Gives t s f fs env after ty v
quiet-gives t s after f fs env ty v at named same d n m =
    let now : State = record s { input = after.input } in
    rw same (record {
      locals = f.locals;
      frames = at;
      named = named;
      windows = refl;
      made = refl;
      items = refl;
      fits = d;
      meets = m;
      fresh = not_iso-fresh t.classes s.store (f ∷ fs) ty v n;
      allowed = writes-same s (record s { input = after.input }) refl;
      keeps =
          λ b o h i. h;
      classes = classes-same s.store;
    })
