-- What arguments use up, and what they give.
use Rattle.std.proofs.Common.{◌≡◌, ◌≢◌, refl, sym, ◌∙◌, ap, subst, ◌⊎◌, inl, inr, ℕ, Bool as Truth, true, false, if◌then◌else◌, List, [], ◌∷◌, ◌++◌}
use Rattle.std.proofs.Common.{length, map, find, flat_map, Option, Some, None, ok_or, option_and_then, Result, Ok, arith}
use Rattle.std.proofs.lemmas.List.Concat.{flat_map-cons}
use Rattle.std.proofs.lemmas.Option.{same_Some}
use Rattle.rg_base.specs.declared.ty.Ty.{Ty}
use Rattle.rg_base.specs.declared.fault.Code.TheVariants.{Unknown}
use Rattle.rg_base.specs.declared.object.Place.TheVariants.{Var}
use Rattle.rg_base.specs.declared.object.Seen.{Seen}
use Rattle.rg_base.specs.declared.value.Val.{Val}
use Rattle.rg_base.specs.declared.value.Val.TheVariants.{Nil}
use Rattle.rg_base.specs.declared.outcome.Trap.{Trap}
use Rattle.rg_tree.specs.Tree.{Variable, Expr, nil, path, Class, Tree}
use Rattle.rg_rules.specs.Capabilities.{is_iso}
use Rattle.rg_rules.specs.Environment.{Env, Entry, gone, entry_of, same_variable, seen_type, available, is_ready, used, marked, marked_entry}
use Rattle.rg_rules.specs.Expressions.{Judged, nil_type, judge_path, judge_expr}
use Rattle.rg_rules.specs.Rights.{judge_args}
use Rattle.rg_rules.specs.State.{Frame, Window, value_in, place_in}
use Rattle.rg_rules.specs.Evaluation.{value_of, values_of, uses, is_iso_local}
use Rattle.rg_rules.specs.Regions.{region_at, address, owned}
use Rattle.rg_rules.specs.Owners.{leads_into}
use Rattle.rg_rules.proofs.Answers.{bind-ok, test-then}
use Rattle.rg_rules.proofs.Expression.{against-ok, judge_expr-below, judge_expr-env, seen_type-is_iso}
use Rattle.rg_rules.proofs.Uses.{judge_expr-uses}
use Rattle.rg_sound.specs.Values.{Meets}
use Rattle.rg_sound.specs.Objects.{ObjectsFit}
use Rattle.rg_sound.proofs.Basics.{none-some}
use Rattle.rg_sound.proofs.Frames.Named.{Named-iso, first-at}
use Rattle.rg_sound.proofs.Frames.Entry.{Stays-distinct, Distinct}
use Rattle.rg_sound.proofs.Frames.JudgeRight.{judge_expr-stays}
use Rattle.rg_sound.proofs.Values.Value.{value-meets, element-not_iso, below-meets}
use Rattle.rg_sound.proofs.Values.Right.{IsoExpr, is_variable, is_none, is_element, iso-expr, below-iso}
use Rattle.rg_sound.proofs.Values.Argument.{View, view-next, take-was}

-- The environment behind an argument

-- a variable that is ready
pub record IsReady (env : Env) (x : Variable) : Type 0 where
  pub entry : Entry
  pub there : entry_of env x ≡ Some entry
  pub iso : is_iso entry.ty ≡ true
  pub ready : is_ready entry.readiness ≡ true

after-iso : (classes : List Class) (env : Env) (w : Option Ty) (x : Variable) (j : Judged) →
    judge_expr classes env w (path (record { base = x; fields = [] })) ≡ Ok j → is_iso j.ty ≡ true →
    j.env ≡ marked x gone env
after-iso classes env w x j h i =
    let p = bind-ok (judge_path classes env x []) _ j h in
    let a = against-ok w p.0.ty p.0.env j p.2 in
    let e = bind-ok (ok_or (entry_of env x) Unknown) _ p.0 p.1 in
    let q = test-then (available e.0) _ _ p.0 e.2 in
    let same : record { ty = seen_type env e.0; env = used x e.0 env } ≡ p.0 = grind arith in
    let ty : j.ty ≡ seen_type env e.0 = a.ty ∙ ap (λ (k : Judged). k.ty) (sym same) in
    let iso : is_iso e.0.ty ≡ true = sym (seen_type-is_iso env e.0) ∙ ap is_iso (sym ty) ∙ i in
    a.env_is ∙ ap (λ (k : Judged). k.env) (sym same) ∙ ap (λ (b : Truth). if b then marked x gone env else env) iso

-- an entry in a marked environment
marked-find_by : (b c : Truth) (x y : Variable) (f o : Entry) (es : List Entry) → same_variable f.name x ≡ c →
    (find (λ (q : Entry). same_variable q.name y) (map (marked_entry x gone) es) ≡ Some o →
    (e : Entry) × (find (λ (q : Entry). same_variable q.name y) es ≡ Some e) × (o ≡ marked_entry x gone e)) →
    (if b then Some (if c then record f { readiness = gone } else f) else find (λ (q : Entry). same_variable q.name y)
    (map (marked_entry x gone) es)) ≡ Some o →
    (e : Entry) × ((if b then Some f else find (λ (q : Entry). same_variable q.name y) es) ≡ Some e) × (o ≡ marked_entry x gone e)
marked-find_by true c x y f o es at rest h =
    let P : Truth → Type 0 = λ q. (if q then record f { readiness = gone } else f) ≡ o in
    (f, refl, sym (subst P (sym at) (same_Some (if c then record f { readiness = gone } else f) o h)))
marked-find_by false c x y f o es at rest h = rest h

marked-name : (c : Truth) (f : Entry) → (if c then record f { readiness = gone } else f).name ≡ f.name
marked-name true f = refl
marked-name false f = refl

marked-find : (x y : Variable) (es : List Entry) (o : Entry) → find (λ (q : Entry). same_variable q.name y) (map (marked_entry x gone) es) ≡ Some o →
    (e : Entry) × (find (λ (q : Entry). same_variable q.name y) es ≡ Some e) × (o ≡ marked_entry x gone e)
marked-find x y [] o h = none-some h
marked-find x y (f ∷ es) o h =
    let name = marked-name (same_variable f.name x) f in
    let P : Variable → Type 0 = λ n. (if same_variable n y then Some (marked_entry x gone f) else find (λ (q : Entry). same_variable q.name y)
    (map (marked_entry x gone) es)) ≡ Some o in
    marked-find_by (same_variable f.name y) (same_variable f.name x) x y f o es refl (marked-find x y es o) (subst P name h)

-- what is ready behind an expression was ready in front of it, and a variable that is used up isn't ready then
ready_unmarked : (c : Truth) (e : Entry) → is_ready (if c then record e { readiness = gone } else e).readiness ≡ true →
    (c ≡ false) × (is_ready e.readiness ≡ true)
ready_unmarked true e h = grind arith
ready_unmarked false e h = (refl, h)

ready-marked : (x y : Variable) (env : Env) → IsReady (marked x gone env) y → IsReady env y × (y ≢ x)
ready-marked x y env h =
    let m = marked-find x y env.entries h.entry h.there in
    let P : Entry → Type 0 = λ q. is_ready q.readiness ≡ true in
    let r = ready_unmarked (same_variable m.0.name x) m.0 (subst P m.2 h.ready) in
    let Q : Truth → Type 0 = λ q. h.entry ≡ (if q then record m.0 { readiness = gone } else m.0) in
    let same : h.entry ≡ m.0 = subst Q r.0 m.2 in (
      record { entry = m.0; there = m.1; iso = ap (λ (q : Entry). is_iso q.ty) (sym same) ∙ h.iso; ready = r.1 },
      λ e.
          let name = find-name y env.entries m.0 m.1 in
          let yes_it : same_variable m.0.name x ≡ true = ap (same_variable m.0.name) (sym e) ∙ name in
          let c : true ≡ false = sym yes_it ∙ r.0 in grind arith,
    )
  where
    find-name : (y : Variable) (es : List Entry) (e : Entry) → find (λ (q : Entry). same_variable q.name y) es ≡ Some e →
        same_variable e.name y ≡ true
    find-name y [] e h = none-some h
    find-name y (f ∷ es) e h = by (same_variable f.name y) refl (find-name y es e) h
      where
        by : (b : Truth) → same_variable f.name y ≡ b → (find (λ (q : Entry). same_variable q.name y) es ≡ Some e → same_variable e.name y ≡ true) →
            (if b then Some f else find (λ (q : Entry). same_variable q.name y) es) ≡ Some e → same_variable e.name y ≡ true
        by true at rest h = let one : f ≡ e = same_Some f e h in let P : Entry → Type 0 = λ q. same_variable q.name y ≡ true in subst P one at
        by false at rest h = rest h

-- variables that are ready
abbrev pub AllReady : Env → List Variable → Type 0
AllReady env [] = Unit {0}
AllReady env (x ∷ xs) = IsReady env x × AllReady env xs

-- a variable isn't among others
abbrev pub NotAmong : Variable → List Variable → Type 0
NotAmong x [] = Unit {0}
NotAmong x (y ∷ ys) = (y ≢ x) × NotAmong x ys

abbrev pub NoTwice : List Variable → Type 0
NoTwice [] = Unit {0}
NoTwice (x ∷ xs) = NotAmong x xs × NoTwice xs

all-marked : (x : Variable) (env : Env) (ys : List Variable) → AllReady (marked x gone env) ys → AllReady env ys × NotAmong x ys
all-marked x env [] h = (tt, tt)
all-marked x env (y ∷ ys) h =
    let r = ready-marked x y env h.0 in
    let s = all-marked x env ys h.1 in ((r.0, s.0), (r.1, s.1))

-- What arguments give

-- each value meets its parameter's type, and what it owns a variable owned that it uses up
abbrev pub ArgsMeet : List Seen → List Window → List Ty → List Val → Type 0
ArgsMeet store ws [] [] = Unit {0}
ArgsMeet store ws [] (v ∷ vs) = ⊥
ArgsMeet store ws (t ∷ ts) [] = ⊥
ArgsMeet store ws (t ∷ ts) (v ∷ vs) = Meets store ws t v × ArgsMeet store ws ts vs

abbrev pub ArgsOwn : List Class → List Seen → Frame → List Frame → List Ty → List Expr → List Val → Type 0
ArgsOwn classes store f fs [] as_ vs = Unit {0}
ArgsOwn classes store f fs (t ∷ ts) [] vs = Unit {0}
ArgsOwn classes store f fs (t ∷ ts) (a ∷ as_) [] = Unit {0}
ArgsOwn classes store f fs (t ∷ ts) (a ∷ as_) (v ∷ vs) =
    ((r : ℕ) → option_and_then (region_at store) (owned t v) ≡ Some r →
    (x : Variable) × (uses f.locals a ≡ x ∷ []) × (leads_into classes store (f ∷ fs) (Var (length fs) (place_in f.locals x)) ≡ Some r))
    × ArgsOwn classes store f fs ts as_ vs

pub record ArgsFacts (t : Tree) (store : List Seen) (f : Frame) (fs : List Frame) (ws : List Window) (env : Env) (ts : List Ty) (as_ : List Expr)
    (vs : List Val) : Type 0 where
  pub ready : AllReady env (flat_map (uses f.locals) as_)
  pub once : NoTwice (flat_map (uses f.locals) as_)
  pub meets : ArgsMeet store ws ts vs
  pub own : ArgsOwn t.classes store f fs ts as_ vs

-- one argument, and those behind it
arg-then : (t : Tree) (store : List Seen) (f : Frame) (fs : List Frame) (ws : List Window) (env : Env) (ty : Ty) (ts : List Ty) (a : Expr)
    (as_ : List Expr) (v : Val) (vs : List Val) (j : Judged) →
    View store f fs ws env → ObjectsFit t.classes store ws → judge_expr t.classes env (Some ty) a ≡ Ok j →
    value_of t.classes store f.locals a ≡ Ok v →
    ArgsFacts t store f fs ws j.env ts as_ vs → ArgsFacts t store f fs ws env (ty ∷ ts) (a ∷ as_) (v ∷ vs)
arg-then t store f fs ws env ty ts a as_ v vs j view fit typed value rest =
    let m = below-meets store ws j.ty ty v (judge_expr-below t.classes env ty a j typed)
    (value-meets t.classes store ws (length fs) env f.locals fit view.sees (Some ty) a j v typed value) in
    by_type (is_iso j.ty) refl m
  where
    type_iso : is_iso j.ty ≡ is_iso ty
    type_iso = below-iso j.ty ty (judge_expr-below t.classes env ty a j typed)

    none_used : uses f.locals a ≡ [] → j.env ≡ env → Meets store ws ty v → ((r : ℕ) → option_and_then (region_at store) (owned ty v) ≡ Some r → ⊥) →
        ArgsFacts t store f fs ws env (ty ∷ ts) (a ∷ as_) (v ∷ vs)
    none_used u e m never =
        let all : flat_map (uses f.locals) (a ∷ as_) ≡ flat_map (uses f.locals) as_ = flat_map-cons (uses f.locals) a as_
        ∙ ap (λ q. q ++ flat_map (uses f.locals) as_) u in
        let P : List Variable → Type 0 = λ q. AllReady env q in
        let Q : List Variable → Type 0 = λ q. NoTwice q in
        let R : Env → Type 0 = λ q. AllReady q (flat_map (uses f.locals) as_) in
        record {
          ready = subst P (sym all) (subst R e rest.ready);
          once = subst Q (sym all) rest.once;
          meets = (m, rest.meets);
          own =
              (λ r h. absurd (never r h), rest.own);
        }

    nothing : (b : Truth) (w : Val) → (b ≡ false) ⊎ (w ≡ Nil) → ◌≡◌ {A = Option ℕ}
        (option_and_then (region_at store) (if b then address w else None)) None
    nothing true w (inl e) = grind arith
    nothing true w (inr e) = rw e refl
    nothing false w e = refl

    by_expr : (x : Expr) → IsoExpr t.classes env x j → x ≡ a → is_iso j.ty ≡ true → Meets store ws ty v →
        ArgsFacts t store f fs ws env (ty ∷ ts) (a ∷ as_) (v ∷ vs)
    by_expr nil is_none same iso m =
        let both : ◌≡◌ {A = Result Val Trap} (Ok Nil) (Ok v) = ap (value_of t.classes store f.locals) same ∙ value in
        let is : Nil ≡ v = grind arith in
        let P : Expr → Type 0 = λ q. judge_expr t.classes env (Some ty) q ≡ Ok j in
        let n = bind-ok (nil_type (Some ty)) _ j (subst P (sym same) typed) in
        none_used (ap (uses f.locals) (sym same)) (against-ok (Some ty) n.0 env j n.2).env_is m
        (λ r h. none-some (sym (nothing (is_iso ty) v (inr (sym is))) ∙ h))
    by_expr (path q) (is_variable {x = x} entry there ty_iso is_free seen) same iso m =
        let e = first-at env.entries f.locals x entry view.sees.named there in
        let used_is : uses f.locals (path (record { base = x; fields = [] })) ≡ x ∷ [] = let i : is_iso_local f.locals x ≡ true = e.iso ∙ ty_iso in
        rw i refl in
        let one : uses f.locals a ≡ x ∷ [] = ap (uses f.locals) (sym same) ∙ used_is in
        let both : ◌≡◌ {A = Result Val Trap} (Ok (value_in f.locals x)) (Ok v) = ap (value_of t.classes store f.locals) same ∙ value in
        let is : value_in f.locals x ≡ v = grind arith in
        let P : Expr → Type 0 = λ q. judge_expr t.classes env (Some ty) q ≡ Ok j in
        let out = after-iso t.classes env (Some ty) x j (subst P (sym same) typed) iso in
        let R : Env → Type 0 = λ q. AllReady q (flat_map (uses f.locals) as_) in
        let r = all-marked x env (flat_map (uses f.locals) as_) (subst R out rest.ready) in
        let all : flat_map (uses f.locals) (a ∷ as_) ≡ x ∷ flat_map (uses f.locals) as_ = flat_map-cons (uses f.locals) a as_
        ∙ ap (λ q. q ++ flat_map (uses f.locals) as_) one in
        let A : List Variable → Type 0 = λ q. AllReady env q in
        let B : List Variable → Type 0 = λ q. NoTwice q in
        record {
          ready = subst A (sym all) (record { entry = entry; there = there; iso = ty_iso; ready = is_free }, r.0);
          once = subst B (sym all) (r.1, rest.once);
          meets = (m, rest.meets);
          own = (
            λ n h. (
              x,
              one,
              take-was t store f fs x entry env view.sees.named there ty_iso n
                  (ap (λ y. option_and_then (region_at store) (address y)) is
                  ∙ ap (λ (b : Truth). option_and_then (region_at store) (if b then address v else None)) (sym (sym type_iso ∙ iso)) ∙ h),
            ),
            rest.own,
          );
        }
    by_expr _ (is_element q i) same iso m =
        let no = element-not_iso t.classes store ws (length fs) env f.locals fit view.sees (Some ty) q i j v
        (ap (judge_expr t.classes env (Some ty)) same ∙ typed) (ap (value_of t.classes store f.locals) same ∙ value) in
        let both : true ≡ false = sym iso ∙ no in grind arith

    by_type : (b : Truth) → is_iso j.ty ≡ b → Meets store ws ty v → ArgsFacts t store f fs ws env (ty ∷ ts) (a ∷ as_) (v ∷ vs)
    by_type false n m =
        none_used (judge_expr-uses t.classes env f.locals (Named-iso env f.locals view.sees.named) (Some ty) a j typed n)
        (judge_expr-env t.classes env (Some ty) a j typed n) m
        (λ r h. none-some (sym (nothing (is_iso ty) v (inl (sym type_iso ∙ n))) ∙ h))
    by_type true n m = by_expr a (iso-expr t.classes env (Some ty) a j typed n) refl n m

-- all arguments
pub args-facts : (t : Tree) (store : List Seen) (f : Frame) (fs : List Frame) (ws : List Window) (env out : Env) (ts : List Ty) (as_ : List Expr)
    (vs : List Val) → View store f fs ws env →
    ObjectsFit t.classes store ws → Distinct env.entries → length as_ ≡ length ts → judge_args t.classes env ts as_ ≡ Ok out →
    values_of t.classes store f.locals as_ ≡ Ok vs →
    ArgsFacts t store f fs ws env ts as_ vs
args-facts t store f fs ws env out [] [] vs view fit d n h k =
    let none_there : [] ≡ vs = grind arith in
    let P : List Val → Type 0 = λ q. ArgsFacts t store f fs ws env [] [] q in
    subst P none_there (record { ready = tt; once = tt; meets = tt; own = tt })
args-facts t store f fs ws env out [] (a ∷ as_) vs view fit d n h k = absurd (omega (arith, n))
args-facts t store f fs ws env out (ty ∷ ts) [] vs view fit d n h k = absurd (omega (arith, n))
args-facts t store f fs ws env out (ty ∷ ts) (a ∷ as_) vs view fit d n h k =
    let j = bind-ok (judge_expr t.classes env (Some ty) a) _ out h in
    let v = bind-ok (value_of t.classes store f.locals a) _ vs k in
    let w = bind-ok (values_of t.classes store f.locals as_) _ vs v.2 in
    let all : v.0 ∷ w.0 ≡ vs = grind arith in
    let s = judge_expr-stays t.classes env (Some ty) a j.0 d j.1 in
    let next = view-next store f f fs ws env j.0.env view s view.sees.named view.sees.values in
    let rest = args-facts t store f fs ws j.0.env out ts as_ w.0 next fit (Stays-distinct env j.0.env d s) (omega (arith, n)) j.2 w.1 in
    let P : List Val → Type 0 = λ q. ArgsFacts t store f fs ws env (ty ∷ ts) (a ∷ as_) q in
    subst P all (arg-then t store f fs ws env ty ts a as_ v.0 w.0 j.0 view fit j.1 v.1 rest)
