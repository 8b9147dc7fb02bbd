-- A value goes to the target of a call, and the ends of methods keep the invariant.
use Rattle.std.proofs.Common.{◌≡◌, ◌≢◌, refl, sym, ◌∙◌, ap, subst, inl, ℕ, ◌==◌, nat_lt, ◌<◌, ◌≤◌, Bool as Truth, true, false, List, [], ◌∷◌, ◌++◌}
use Rattle.std.proofs.Common.{length, reverse, Option, Some, ok_or, Ok, arith}
use Rattle.rg_base.specs.declared.words.Cap.{Cap}
use Rattle.rg_base.specs.declared.ty.Ty.{Ty}
use Rattle.rg_base.specs.declared.ty.Ty.TheVariants.{Ref}
use Rattle.rg_base.specs.declared.fault.Code.TheVariants.{Unknown}
use Rattle.rg_base.specs.declared.object.Place.{Place}
use Rattle.rg_base.specs.declared.object.Place.TheVariants.{Var, Field}
use Rattle.rg_base.specs.declared.object.Seen.{Seen}
use Rattle.rg_base.specs.declared.value.Val.{Val}
use Rattle.rg_tree.specs.Tree.{Name, Variable, Ty as Written, Call, Right, StmtKind, declare, assign, call, stmt, Path, Method, Class, Tree}
use Rattle.rg_rules.specs.Acceptance.{Accepted}
use Rattle.rg_rules.specs.Answers.{Answer}
use Rattle.rg_rules.specs.Capabilities.{below}
use Rattle.rg_rules.specs.Types.{type_of, method_named, method_result, param_types}
use Rattle.rg_rules.specs.Environment.{Env, with_variable}
use Rattle.rg_rules.specs.Rights.{Called, judge_args, judge_call}
use Rattle.rg_rules.specs.Statements.{judge_declare, judge_assign, judge_call_alone}
use Rattle.rg_rules.specs.Items.{Item, Do}
use Rattle.rg_rules.specs.Bodies.{Body}
use Rattle.rg_rules.specs.State.{Local, Target, Frame, Window, State, set_in, add_local, put_local}
use Rattle.rg_rules.specs.Paths.{walk, follow}
use Rattle.rg_rules.specs.Owners.{leads_into}
use Rattle.rg_rules.proofs.Answers.{bind-ok, test-then, ok_or-ok, at_line-ok}
use Rattle.rg_rules.proofs.Path.{follow-ok}
use Rattle.rg_rules.proofs.Header.{good_type-type_of}
use Rattle.rg_sound.specs.Frames.{Entered, FramesFit, Running, Stands, Beneath, Waits}
use Rattle.rg_sound.specs.Fit.{Fit}
use Rattle.rg_sound.proofs.Basics.{none-some}
use Rattle.rg_sound.proofs.Frames.Advance.{running-advance}
use Rattle.rg_sound.proofs.Frames.Named.{Named-set_in}
use Rattle.rg_sound.proofs.Frames.Entry.{Stays}
use Rattle.rg_sound.proofs.Frames.JudgeRight.{judge_right-stays, judge_call-stays}
use Rattle.rg_sound.proofs.Frames.Judge.{judge_declare-parts, Assigned, judge_assign-stays}
use Rattle.rg_sound.proofs.Owners.Owner.{leads-lower, leads-past}
use Rattle.rg_sound.proofs.Owners.Data.{Data, data-fit}
use Rattle.rg_sound.proofs.Frames.Stands.{IsElsewhere, stands-stays}
use Rattle.rg_sound.proofs.Frames.Top.{running-top}
use Rattle.rg_sound.proofs.Values.Right.{Gives}
use Rattle.rg_sound.proofs.Values.Local.{declare-data, declare-stands, assign-data}
use Rattle.rg_sound.proofs.Values.Assign.{Doing}
use Rattle.rg_sound.specs.Bridges.{BridgesFit}
use Rattle.rg_sound.proofs.Owners.Bridge.{KeepsClasses, types-same, types-snoc, named-types, bridges-top}

-- a value goes into a new variable
pub declare-finish : (t : Tree) (s : State) (line : ℕ) (x : Name) (ty : Written) (r : Right) (rest : List Item)
    (d : Doing t s line (declare x ty r) rest) → (after : State) (jty : Ty) (v : Val) →
    (g : Gives t (record s { items = rest }) d.f d.fs d.r.spot.env after jty v) → below jty (type_of t.classes ty) ≡ true →
    Fit t (add_local (Some x) (type_of t.classes ty) after v)
declare-finish t s line x ty r rest d after jty v g b =
    let s0 : State = record s { items = rest } in
    let fits = declare-data t s0 d.f d.fs (Do (stmt line (declare x ty r)) ∷ rest) d.r d.top after jty v g (Some x) (type_of t.classes ty) b in
    let l : Local = record { name = Some x; ty = type_of t.classes ty; value = v } in
    let f' : Frame = record d.f { locals = g.locals ++ l ∷ [] } in
    let frames : (add_local (Some x) (type_of t.classes ty) after v).frames ≡ f' ∷ d.fs = rw (g.frames) refl in
    let run : Running t f' d.fs s.windows rest = running-advance t d.f f' d.fs s.windows line (declare x ty r) rest d.r d.top.right refl refl
    (λ last at out judged ends.
    let q = judge_declare-parts t.classes d.r.spot.env out x ty r (at_line-ok at (judge_declare t.classes d.r.spot.env x ty r) out judged) in
    let stays = judge_right-stays t.classes d.r.spot.env q.declared r q.judged d.top.spot.distinct q.typed in
    let same = good_type-type_of t.classes ty q.declared q.good in
    let Q : Ty → Type 0 = λ z. Stands f' (length d.fs) d.r.own (record {
      env = with_variable q.judged.env (Some x) z true;
      items = d.r.more;
      enters = d.r.spot.enters;
    }) in
    let R : Env → Type 0 = λ z. Stands f' (length d.fs) d.r.own (record { env = z; items = d.r.more; enters = d.r.spot.enters }) in
    subst R (sym q.out_is) (subst Q (sym same) (declare-stands t s d.f d.fs (Do (stmt line (declare x ty r)) ∷ rest)
    d.r d.top g.locals g.named q.judged.env stays
    (Some x) (type_of t.classes ty) v d.r.more ends))) in
    data-fit t (add_local (Some x) (type_of t.classes ty) after v)
    (let Q : List Frame → Type 0 = λ q. FramesFit t q (after.windows) (after.items) in subst Q (sym frames) (rw (g.windows, g.items) (inl run)))
    (let Q : List Frame → Type 0 = λ q. Data t.classes after.store q after.windows (length after.managers) after.windows_made in
    subst Q (sym frames) (rw (g.windows, g.made) fits))
    (let B : List Frame → Type 0 = λ q. BridgesFit t.classes after.store q after.windows in
    subst B (sym frames) (rw (g.windows) (bridges-top t.classes s.store after.store d.f f' d.fs s.windows g.classes
    (types-snoc d.f.locals g.locals l (named-types d.r.spot.env.entries d.f.locals g.locals d.r.stands.named g.named)) d.bridged)))

-- a value goes into a variable that is there
pub assign-finish : (t : Tree) (s : State) (line : ℕ) (x : Variable) (r : Right) (rest : List Item)
    (d : Doing t s line (assign (record { base = x; fields = [] }) r) rest) → (after : State) (jty : Ty) (v : Val) →
    (g : Gives t (record s { items = rest }) d.f d.fs d.r.spot.env after jty v) → (out : Env) → (p : Assigned t.classes d.r.spot.env out x r) →
    below jty p.entry.ty ≡ true →
    Fit t (put_local x after v)
assign-finish t s line x r rest d after jty v g out p b =
    let s0 : State = record s { items = rest } in
    let k : StmtKind = assign (record { base = x; fields = [] }) r in
    let fits = assign-data t s0 d.f d.fs (Do (stmt line k) ∷ rest) d.r d.top after jty v g x p.entry p.there p.at p.not_lent b in
    let f' : Frame = record d.f { locals = set_in x v g.locals } in
    let frames : (put_local x after v).frames ≡ f' ∷ d.fs = rw (g.frames) refl in
    let run : Running t f' d.fs s.windows rest = running-advance t d.f f' d.fs s.windows line k rest d.r d.top.right refl refl
    (λ last at out judged ends.
    let stays = judge_assign-stays t.classes d.r.spot.env out x [] r d.top.spot.distinct
    (at_line-ok at (judge_assign t.classes d.r.spot.env x [] r) out judged) in
    stands-stays d.f f' (length d.fs) d.r.own d.r.spot out d.r.more d.r.stands stays ends
    (Named-set_in x v d.r.spot.env.entries g.locals g.named)) in
    data-fit t (put_local x after v)
    (let Q : List Frame → Type 0 = λ q. FramesFit t q (after.windows) (after.items) in subst Q (sym frames) (rw (g.windows, g.items) (inl run)))
    (let Q : List Frame → Type 0 = λ q. Data t.classes after.store q after.windows (length after.managers) after.windows_made in
    subst Q (sym frames) (rw (g.windows, g.made) fits))
    (let B : List Frame → Type 0 = λ q. BridgesFit t.classes after.store q after.windows in
    subst B (sym frames) (rw (g.windows) (bridges-top t.classes s.store after.store d.f f' d.fs s.windows g.classes
    (named-types d.r.spot.env.entries d.f.locals (set_in x v g.locals) d.r.stands.named
    (Named-set_in x v d.r.spot.env.entries g.locals g.named)) d.bridged)))

-- a value goes nowhere
pub drop-finish : (t : Tree) (s : State) (line : ℕ) (c : Call) (rest : List Item) (d : Doing t s line (call c) rest) → (after : State) →
    after.frames ≡ d.f ∷ d.fs → after.windows ≡ s.windows →
    after.items ≡ rest → Data t.classes after.store (d.f ∷ d.fs) after.windows (length after.managers) after.windows_made →
    KeepsClasses s.store after.store → Fit t after
drop-finish t s line c rest d after frames windows items fits classes =
    let run : Running t d.f d.fs s.windows rest = running-advance t d.f d.f d.fs s.windows line (call c) rest d.r d.top.right refl refl
    (λ last at out judged ends.
    let h = at_line-ok at (judge_call_alone t.classes d.r.spot.env c) out judged in
    let j = bind-ok (judge_call t.classes d.r.spot.env c) _ out h in
    let e : j.0.env ≡ out = grind arith in
    let P : Env → Type 0 = λ q. Stays d.r.spot.env q in
    stands-stays d.f d.f (length d.fs) d.r.own d.r.spot out d.r.more d.r.stands
    (subst P e (judge_call-stays t.classes d.r.spot.env c j.0 d.top.spot.distinct j.1)) ends d.r.stands.named) in
    data-fit t after
    (let Q : List Frame → Type 0 = λ q. FramesFit t q after.windows after.items in subst Q (sym frames) (rw (windows, items) (inl run)))
    (let Q : List Frame → Type 0 = λ q. Data t.classes after.store q after.windows (length after.managers) after.windows_made in
    subst Q (sym frames) fits)
    (let B : List Frame → Type 0 = λ q. BridgesFit t.classes after.store q after.windows in
    subst B (sym frames) (rw windows (bridges-top t.classes s.store after.store d.f d.f d.fs s.windows classes (types-same d.f.locals) d.bridged)))

-- The frame beneath

-- a frame that waits stood in front of its calling statement
abbrev pub waits-doing : (t : Tree) → Accepted t → (s : State) (b : Body) (f : Frame) (fs : List Frame) (own under : List Window)
    (mine rest : List Item) (callee : Body) (target : Target) →
    (w : Waits t.classes b f (length fs) own mine callee target) → Beneath t fs under rest b f.target → s.windows ≡ own ++ under →
    Data t.classes s.store (f ∷ fs) s.windows (length s.managers) s.windows_made → s.frames ≡ f ∷ fs →
    BridgesFit t.classes s.store (f ∷ fs) s.windows → s.items ≡ Do (stmt w.line w.kind) ∷ (mine ++ rest) → Doing t s w.line w.kind (mine ++ rest)
waits-doing t a s b f fs own under mine rest callee target w beneath windows fits frames bridged items =
    let r : Running t f fs s.windows (Do (stmt w.line w.kind) ∷ (mine ++ rest)) = record {
      body = b;
      own = own;
      under = under;
      windows_are = windows;
      point = w.point;
      spot = w.spot;
      spot_is = w.spot_is;
      stands = w.stands;
      first = Do (stmt w.line w.kind);
      more = mine;
      begins = w.begins;
      rest = rest;
      items_are = refl;
      beneath = beneath;
    } in
    record {
      f = f;
      fs = fs;
      frames = frames;
      r = r;
      top = running-top t a s.store f fs s.windows (Do (stmt w.line w.kind) ∷ (mine ++ rest))
          r fits.opened.owned;
      fits = fits;
      bridged = bridged;
      items_are = items;
    }

-- what leads from an elder frame leads so without the topmost one
pub pop-leads : (classes : List Class) (store : List Seen) (f : Frame) (fs : List Frame) (q : Place) (r : ℕ) →
    leads_into classes store fs q ≡ Some r → leads_into classes store (f ∷ fs) q ≡ Some r
pop-leads classes store f fs (Var n i) r h = by_frame (nat_lt n (length fs)) refl
  where
    by_frame : (b : Truth) → nat_lt n (length fs) ≡ b → leads_into classes store (f ∷ fs) (Var n i) ≡ Some r
    by_frame true e = let other : n ≢ length fs = λ same. let l : n < length fs = grind arith in absurd (omega (arith, l, same)) in
        leads-lower classes store f fs n i other ∙ h
    by_frame false e = let l : length fs ≤ n = grind arith in none-some (sym (leads-past classes store fs n i l) ∙ h)
pop-leads classes store f fs (Field a j) r h = h

pub elsewhere-leads : (classes : List Class) (store : List Seen) (f : Frame) (fs : List Frame) (q : Place) → IsElsewhere (length fs) q →
    leads_into classes store fs q ≡ leads_into classes store (f ∷ fs) q
elsewhere-leads classes store f fs (Var n i) h = sym (leads-lower classes store f fs n i h)
elsewhere-leads classes store f fs (Field a j) h = refl

-- without windows of its own
pub no-own : (n : ℕ) (ls : List Local) (enters : List Path) (own : List Window) → Entered n ls (reverse enters) own → enters ≡ [] → own ≡ []
no-own n ls enters own h e =
    let P : List Path → Type 0 = λ q. Entered n ls (reverse q) own in none_there own (subst P e h)
  where
    none_there : (own : List Window) → Entered n ls [] own → own ≡ []
    none_there [] h = refl
    none_there (w ∷ own) h = absurd h

-- What a call gives

-- a call whose method is known gives that method's result
pub call-result : (classes : List Class) (env : Env) (c : Call) (cap : Cap) (class : ℕ) (m : Method) (j : Called) →
    walk classes env c.target.base c.target.fields ≡ Ok (Ref cap class) →
    method_named classes class c.method ≡ Some m → judge_call classes env c ≡ Ok j → j.result ≡ method_result classes m
call-result classes env c cap class m j w named h =
    let t = bind-ok (walk classes env c.target.base c.target.fields) _ j h in
    let r = bind-ok (follow t.0) _ j t.2 in
    let n = bind-ok (ok_or (method_named classes r.0.class c.method) Unknown) _ j r.2 in
    let b = test-then (below t.0 (Ref n.0.receiver r.0.class)) _ _ j n.2 in
    let y = test-then (length c.args == length n.0.params) _ _ j b.1 in
    let o = bind-ok (judge_args classes env (param_types classes n.0) c.args) _ j y.1 in
    let f = follow-ok t.0 r.0 r.1 in
    let types : Ref cap class ≡ t.0 = let both : ◌≡◌ {A = Answer Ty} (Ok (Ref cap class)) (Ok t.0) = sym w ∙ t.1 in grind arith in
    let refs : Ref cap class ≡ Ref r.0.cap r.0.class = types ∙ f.reference in
    let same : class ≡ r.0.class = grind arith in
    let found = ok_or-ok (method_named classes r.0.class c.method) Unknown n.0 n.1 in
    let there : ◌≡◌ {A = Option Method} (Some m) (Some n.0) = sym named ∙ ap (λ q. method_named classes q c.method) same ∙ found in
    let one : m ≡ n.0 = grind arith in
    let e : record { result = method_result classes n.0; env = o.0 } ≡ j = grind arith in
    ap (λ (q : Called). q.result) (sym e) ∙ ap (method_result classes) (sym one)
