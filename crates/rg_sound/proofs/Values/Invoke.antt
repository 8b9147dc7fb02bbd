-- The new frame of a call, and the laws of calls.
use Rattle.std.proofs.Common.{◌≡◌, ◌≢◌, refl, sym, ◌∙◌, ap, subst, inl, inr, ℕ, ◌==◌, nat_lt, Bool as Truth, true, false, if◌then◌else◌, List, []}
use Rattle.std.proofs.Common.{◌∷◌, ◌++◌, length, map, flat_map, Option, Some, None, ok_or, option_and_then, Ok, arith}
use Rattle.std.proofs.lemmas.List.{append-nil, length-map, append_assoc}
use Rattle.std.proofs.lemmas.Option.{same_Some}
use Rattle.std.proofs.lemmas.Bool.{eqb-false}
use Rattle.rg_base.specs.declared.limits.TheConstants.{FRAMES}
use Rattle.rg_base.specs.declared.words.Cap.{Cap}
use Rattle.rg_base.specs.declared.ty.Ty.{Ty}
use Rattle.rg_base.specs.declared.ty.Ty.TheVariants.{Ref}
use Rattle.rg_base.specs.declared.fault.Code.TheVariants.{Unknown}
use Rattle.rg_base.specs.declared.object.Place.{Place}
use Rattle.rg_base.specs.declared.object.Place.TheVariants.{Var, Field}
use Rattle.rg_base.specs.declared.object.Seen.{Seen}
use Rattle.rg_base.specs.declared.value.Val.{Val}
use Rattle.rg_base.specs.declared.outcome.Trap.TheVariants.{Depth}
use Rattle.rg_tree.specs.Tree.{Name, Variable, Ty as Written, Param, Call, result_of, StmtKind, declare, assign, call, stmt, Method, Block}
use Rattle.rg_tree.specs.Tree.{empty as none, then as next, Class, Tree}
use Rattle.rg_rules.specs.Acceptance.{Accepted}
use Rattle.rg_rules.specs.Capabilities.{below, is_iso}
use Rattle.rg_rules.specs.Types.{type_of, method_named, param_types}
use Rattle.rg_rules.specs.Environment.{Env, Readiness, ready, gone, lent, is_lent}
use Rattle.rg_rules.specs.Paths.{walk, follow}
use Rattle.rg_rules.specs.Rights.{Called, judge_args, judge_call}
use Rattle.rg_rules.specs.Statements.{judge_declare, judge_assign, judge_call_alone}
use Rattle.rg_rules.specs.Items.{Item, Do, items_of}
use Rattle.rg_rules.specs.Bodies.{method_body, method_env, method_end}
use Rattle.rg_rules.specs.Points.{here}
use Rattle.rg_rules.specs.State.{Local, Target, Declares, Assigns, Drops, Frame, Window, State, locals_of, with_top, top_locals, value_in}
use Rattle.rg_rules.specs.RightSides.{bound, called_frame, called, step_call}
use Rattle.rg_rules.specs.Evaluation.{object_at, path_value, follow_fields, values_of, uses, cleared}
use Rattle.rg_rules.specs.Regions.{region_at, address, owned}
use Rattle.rg_rules.specs.Owners.{leads_into}
use Rattle.rg_rules.specs.Steps.{step_kind}
use Rattle.rg_rules.proofs.Answers.{bind-ok, test-then, ok_or-ok, at_line-ok}
use Rattle.rg_rules.proofs.Path.{follow-ok}
use Rattle.rg_rules.proofs.Step.{stepped-went, object_at-ok}
use Rattle.rg_sound.specs.Windows.{windows_of}
use Rattle.rg_sound.specs.Values.{LabelFits, Leads, MeetsRef, Meets}
use Rattle.rg_sound.specs.Frames.{Named, Running, Beneath, Waits, call_of}
use Rattle.rg_sound.specs.Laws.{StaysFit, KindKeeps, CallKeeps}
use Rattle.rg_sound.proofs.Basics.{none-some}
use Rattle.rg_sound.proofs.Frames.Body.{Begins, EndsWell, method-right, items_of-begins}
use Rattle.rg_sound.proofs.Frames.Advance.{running-first}
use Rattle.rg_sound.proofs.Frames.Quiet.{allowed-same}
use Rattle.rg_sound.proofs.Frames.Method.{method_env-named, method_env-plain, Plain-at, end-leaves}
use Rattle.rg_sound.proofs.Frames.Entry.{Stays-same}
use Rattle.rg_sound.proofs.Frames.Judge.{judge_declare-parts, judge_assign-parts}
use Rattle.rg_sound.proofs.Values.Value.{walk-meets, below-meets}
use Rattle.rg_sound.proofs.Frames.Spot.{leaves-items_of}
use Rattle.rg_sound.proofs.Owners.Owner.{leads-top, leads-lower, AllOwners, AllOwners-map}
use Rattle.rg_sound.proofs.Owners.Data.{Data, data-fit, puts-snoc, put-local, leads-put, push-frame}
use Rattle.rg_sound.proofs.Frames.Stands.{IsElsewhere, beneath-elsewhere, beneath-all, stands-stays, owned-grounded}
use Rattle.rg_sound.proofs.Frames.Top.{top-sees, top-not_owner, elsewhere-not}
use Rattle.rg_sound.proofs.Values.Right.{not_iso-fresh, below-iso, ready-not_lent}
use Rattle.rg_sound.proofs.Values.Assign.{Doing, doing, doing-judges}
use Rattle.rg_sound.proofs.Owners.Entrance.{items_of-append}
use Rattle.rg_sound.proofs.Values.Argument.{View, AllSources, clear-all}
use Rattle.rg_sound.proofs.Values.Call.{AllReady, ArgsMeet, args-facts}
use Rattle.rg_sound.proofs.Values.Loose.{Apart, Loose, loose-args}
use Rattle.rg_sound.proofs.Owners.Bridge.{classes-same, named-types, bridges-top, bridges-push}
use Rattle.rg_sound.proofs.Frames.Named.{Named-cleared}

-- Values that are put one after another

loose-map : (classes : List Class) (store : List Seen) (before after : List Frame) (ts : List Ty) (vs : List Val) →
    ((q : Place) (r : ℕ) → leads_into classes store after q ≡ Some r → leads_into classes store before q ≡ Some r) →
    Loose classes store before ts vs → Loose classes store after ts vs
loose-map classes store before after [] vs less h = tt
loose-map classes store before after (t ∷ ts) [] less h = tt
loose-map classes store before after (t ∷ ts) (v ∷ vs) less h =
    (λ r k. let f = h.0 r k in (f.0, λ q g. f.1 q (less q r g)), h.1, loose-map classes store before after ts vs less h.2)

-- one more variable leaves the others loose, if what it owns is apart from them
loose-put : (classes : List Class) (store : List Seen) (g : Frame) (fs : List Frame) (l : Local) (ts : List Ty) (vs : List Val) →
    Apart store l.ty l.value ts vs → Loose classes store (g ∷ fs) ts vs →
    Loose classes store (record g { locals = g.locals ++ l ∷ [] } ∷ fs) ts vs
loose-put classes store g fs l [] vs a h = tt
loose-put classes store g fs l (t ∷ ts) [] a h = tt
loose-put classes store g fs l (t ∷ ts) (v ∷ vs) a h =
    (λ r k. let f = h.0 r k in (f.0, λ q y. by q r k y f.1), h.1, loose-put classes store g fs l ts vs a.1 h.2)
  where
    by : (q : Place) (r : ℕ) → option_and_then (region_at store) (owned t v) ≡ Some r →
        leads_into classes store (record g { locals = g.locals ++ l ∷ [] } ∷ fs) q ≡ Some r →
        ((p : Place) → ¬ (leads_into classes store (g ∷ fs) p ≡ Some r)) → ⊥
    by (Var n i) r k y f = elim (leads-put classes store g fs (g.locals ++ l ∷ []) (length g.locals) l (puts-snoc g.locals l) n i) [
      | inl at ↦ a.0 r (sym at.2 ∙ y) k
      | inr same ↦ f (Var n i) (sym same ∙ y)
    ]
    by (Field b j) r k y f = f (Field b j) y

-- the parameters get their values
params-put : (classes : List Class) (store : List Seen) (g : Frame) (fs : List Frame) (ws : List Window) (regions made : ℕ) (ps : List Param)
    (vs : List Val) → Data classes store (g ∷ fs) ws regions made →
    ((i : ℕ) → windows_of (length fs) i ws ≡ ws) → AllOwners ws (IsElsewhere (length fs)) →
    ArgsMeet store ws (map (λ (p : Param). type_of classes p.ty) ps) vs →
    Loose classes store (g ∷ fs) (map (λ (p : Param). type_of classes p.ty) ps) vs →
    Data classes store (record g { locals = g.locals ++ bound classes ps vs } ∷ fs) ws regions made
params-put classes store g fs ws regions made [] vs d all e m h =
    let P : List Local → Type 0 = λ q. Data classes store (record g { locals = q } ∷ fs) ws regions made in subst P (sym (append-nil g.locals)) d
params-put classes store g fs ws regions made (p ∷ ps) [] d all e m h = absurd m
params-put classes store g fs ws regions made (p ∷ ps) (v ∷ vs) d all e m h =
    let l : Local = record { name = Some p.name; ty = type_of classes p.ty; value = v } in
    let P : List Window → Type 0 = λ q. Meets store q (type_of classes p.ty) v in
    let put = put-local classes store g fs ws regions made (g.locals ++ l ∷ []) (length g.locals) l d (puts-snoc g.locals l)
    (subst P (sym (all (length g.locals))) m.0) h.0
    (AllOwners-map ws (IsElsewhere (length fs)) (λ q. q ≢ Var (length fs) (length g.locals)) (elsewhere-not (length fs) (length g.locals)) e) in
    let rest = params-put classes store (record g { locals = g.locals ++ l ∷ [] }) fs ws regions made ps vs put all e m.1
    (loose-put classes store g fs l (map (λ (q : Param). type_of classes q.ty) ps) vs h.1 h.2) in
    let Q : List Local → Type 0 = λ q. Data classes store (record g { locals = q } ∷ fs) ws regions made in
    subst Q (append_assoc g.locals (l ∷ []) (bound classes ps vs)) rest

-- The new frame

sources-of : (env : Env) (xs : List Variable) → AllReady env xs → AllSources env xs
sources-of env [] h = tt
sources-of env (x ∷ xs) h =
    (record { entry = h.0.entry; there = h.0.there; iso = h.0.iso; free = ready-not_lent h.0.entry.readiness h.0.ready }, sources-of env xs h.1)

apart-not_iso : (store : List Seen) (t : Ty) (v : Val) (ts : List Ty) (vs : List Val) → is_iso t ≡ false → Apart store t v ts vs
apart-not_iso store t v [] vs n = tt
apart-not_iso store t v (u ∷ us) [] n = tt
apart-not_iso store t v (u ∷ us) (w ∷ ws) n = (λ r h k. never (is_iso t) n r h, apart-not_iso store t v us ws n)
  where
    never : (b : Truth) → b ≡ false → (r : ℕ) → option_and_then (region_at store) (if b then address v else None) ≡ Some r → ⊥
    never true e r h = grind arith
    never false e r h = none-some h

push-less : (classes : List Class) (store : List Seen) (fs : List Frame) (target : Target) (q : Place) (r : ℕ) →
    leads_into classes store (record { locals = []; target = target } ∷ fs) q ≡ Some r →
    leads_into classes store fs q ≡ Some r
push-less classes store fs target (Var n i) r h = by (n == length fs) refl
  where
    by : (b : Truth) → (n == length fs) ≡ b → leads_into classes store fs (Var n i) ≡ Some r
    by true e =
        let here : n ≡ length fs = grind arith in
        none-some (sym (leads-top classes store (record { locals = []; target = target }) fs i)
        ∙ ap (λ m. leads_into classes store (record { locals = []; target = target } ∷ fs) (Var m i)) (sym here) ∙ h)
    by false e =
        let other : n ≢ length fs = eqb-false n (length fs) e in
        sym (leads-lower classes store (record { locals = []; target = target }) fs n i other) ∙ h
push-less classes store fs target (Field a j) r h = h

-- a method's body begins with an item
body-begins : (b : Block) (after : List Item) → EndsWell b after → Begins (items_of b after)
body-begins b after (inl h) = items_of-begins b after h
body-begins none after (inr h) = absurd (grind arith)
body-begins (next s b) after (inr h) = record { first = Do s; more = items_of b after; is = refl }

-- the frame of the method runs, and the other one waits
invoke-runs : (t : Tree) → Accepted t → (s : State) (line : ℕ) (k : StmtKind) (rest : List Item) (d : Doing t s line k rest) (target : Target)
    (c : Call) (cap : Cap) (class : ℕ) (m : Method) →
    call_of t.classes k ≡ Some (c, target) → walk t.classes d.r.spot.env c.target.base c.target.fields ≡ Ok (Ref cap class) →
    method_named t.classes class c.method ≡ Some m →
    (f : Frame) → f.target ≡ d.f.target → Named d.r.spot.env.entries f.locals →
    Beneath t (f ∷ d.fs) s.windows rest (method_body t.classes class m) target
invoke-runs t a s line k rest d target c cap class m calls walks found f same named =
    let is = running-first t d.f d.fs s.windows (Do (stmt line k)) rest d.r in
    let w : Waits t.classes d.r.body f (length d.fs) d.r.own d.r.more (method_body t.classes class m) target = record {
      point = d.r.point;
      spot = d.r.spot;
      spot_is = d.r.spot_is;
      stands = stands-stays d.f f (length d.fs) d.r.own d.r.spot d.r.spot.env d.r.spot.items d.r.stands (Stays-same d.r.spot.env) refl named;
      line = line;
      kind = k;
      begins = is.0;
      calls = record { made = c; made_is = calls; cap = cap; class = class; receiver = walks; called = m; called_is = found; callee_is = refl };
    } in
    let P : Target → Type 0 = λ q. Beneath t d.fs d.r.under d.r.rest d.r.body q in
    (d.r.body, d.r.own, d.r.under, d.r.more, d.r.rest, d.r.windows_are, is.1, inl w, subst P (sym same) d.r.beneath)

new-runs : (t : Tree) → Accepted t → (ws : List Window) (rest : List Item) (class : ℕ) (x : Name) (m : Method) →
    method_named t.classes class x ≡ Some m → (target : Target) (self : Val) (vs : List Val)
    (fs : List Frame) → Beneath t fs ws rest (method_body t.classes class m) target →
    Running t (called_frame t.classes target m class self vs) fs ws (items_of m.body (method_end m.result ++ rest))
new-runs t a ws rest class x m found target self vs fs beneath =
    let right = method-right t a class x m found in
    let n = body-begins m.body (method_end m.result) right.ends in
    let plain = (method_env-plain t.classes class m).0 in
    record {
      body = method_body t.classes class m;
      own = [];
      under = ws;
      windows_are = refl;
      point = here;
      spot = record { env = method_env t.classes class m; items = items_of m.body (method_end m.result); enters = [] };
      spot_is = refl;
      stands = record {
        named = method_env-named t.classes class m self vs;
        entered = tt;
        bases =
            sym (leaves-items_of m.body (method_end m.result) ∙ end-leaves m.result);
        depths = λ i e h. (Plain-at (method_env t.classes class m).entries i e plain h).0;
        lent_are = λ i e h. (λ l. not_lent e.readiness (Plain-at (method_env t.classes class m).entries i e plain h).1 l, λ z. absurd z);
      };
      first = n.first;
      more = n.more;
      begins = n.is;
      rest = rest;
      items_are = items_of-append m.body (method_end m.result) rest ∙ ap (λ q. q ++ rest) n.is;
      beneath = beneath;
    }
  where
    not_lent : (r : Readiness) → is_lent r ≡ false → r ≡ lent → ⊥
    not_lent ready h e = grind arith
    not_lent gone h e = grind arith
    not_lent lent h e = grind arith

-- the call of a statement
pub call-kept : (t : Tree) → Accepted t → (s : State) (line : ℕ) (k : StmtKind) (rest : List Item) (d : Doing t s line k rest) (target : Target)
    (c : Call) (j : Called) →
    call_of t.classes k ≡ Some (c, target) → judge_call t.classes d.r.spot.env c ≡ Ok j → (u : State) →
    step_call t.classes (record s { items = rest }) target c ≡ Ok u → StaysFit t s u
call-kept t a s line k rest d target c j calls typed u h =
    let s0 : State = record s { items = rest } in
    let ty = bind-ok (walk t.classes d.r.spot.env c.target.base c.target.fields) _ j typed in
    let fo = bind-ok (follow ty.0) _ j ty.2 in
    let m = bind-ok (ok_or (method_named t.classes fo.0.class c.method) Unknown) _ j fo.2 in
    let b = test-then (below ty.0 (Ref m.0.receiver fo.0.class)) _ _ j m.2 in
    let n = test-then (length c.args == length m.0.params) _ _ j b.1 in
    let ar = bind-ok (judge_args t.classes d.r.spot.env (param_types t.classes m.0) c.args) _ j n.1 in
    let followed = follow-ok ty.0 fo.0 fo.1 in
    let found = ok_or-ok (method_named t.classes fo.0.class c.method) Unknown m.0 m.1 in
    let self = bind-ok (path_value t.classes s.store (locals_of s0) c.target) _ u h in
    let o = bind-ok (object_at s.store self.0) _ u self.2 in
    let locals : locals_of s0 ≡ d.f.locals = ap top_locals d.frames in
    let sees = top-sees t s.store d.f d.fs s.windows (Do (stmt line k) ∷ rest) d.r d.top d.fits.values in
    let P : List Local → Type 0 = λ q. follow_fields t.classes s.store (value_in q c.target.base) c.target.fields ≡ Ok self.0 in
    let meets = walk-meets t.classes s.store s.windows (length d.fs)
    d.r.spot.env d.f.locals d.fits.objects sees c.target.base c.target.fields ty.0 self.0 ty.1 (subst P locals self.1) in
    let at = object_at-ok s.store self.0 o.0 o.1 in
    let Q : Ty → Type 0 = λ q. Meets s.store s.windows q self.0 in
    let R : Val → Type 0 = λ q. MeetsRef s.store fo.0.class (LabelFits s.windows fo.0.cap) q in
    let l : Leads s.store at.address fo.0.class (LabelFits s.windows fo.0.cap) = subst R at.value (subst Q followed.reference meets) in
    let class : o.0.class ≡ fo.0.class = ap (λ (q : Seen). q.class) (same_Some o.0 l.object (sym at.there ∙ l.there)) ∙ l.class_is in
    let S : Option Method → Type 0 = λ q. called t.classes s0 target c self.0 o.0.class q ≡ Ok u in
    let T : ℕ → Type 0 = λ q. called t.classes s0 target c self.0 q (Some m.0) ≡ Ok u in
    let runs : called t.classes s0 target c self.0 fo.0.class (Some m.0) ≡ Ok u =
    subst T class (subst S (ap (λ q. method_named t.classes q c.method) class ∙ found) o.2) in
    let vs = bind-ok (values_of t.classes s.store (locals_of s0) c.args) _ u runs in
    let depth = test-then (nat_lt (length s0.frames) FRAMES) Depth _ u vs.2 in
    let xs : List Variable = flat_map (uses d.f.locals) c.args in
    let f' : Frame = record d.f { locals = cleared xs d.f.locals } in
    let g : Frame = called_frame t.classes target m.0 fo.0.class self.0 vs.0 in
    let w : State = record s { frames = g ∷ f' ∷ d.fs; items = items_of m.0.body (method_end m.0.result ++ rest) } in
    let made : record s0 {
      frames = called_frame t.classes target m.0 fo.0.class self.0 vs.0 ∷ with_top
          (cleared (flat_map (uses (locals_of s0)) c.args) (locals_of s0)) s0.frames;
      items = items_of m.0.body (method_end m.0.result ++ rest);
    } ≡ u = let y = depth.1 in grind arith in
    let is : w ≡ u = ap (λ (q : List Frame). record s {
      frames = g ∷ with_top (cleared (flat_map (uses (top_locals q)) c.args) (top_locals q)) q;
      items = items_of m.0.body (method_end m.0.result ++ rest);
    })
    (sym d.frames) ∙ made in
    let view : View s.store d.f d.fs s.windows d.r.spot.env = record {
      sees = sees;
      free =
          λ i e y z. top-not_owner t d.f d.fs s.windows (Do (stmt line k) ∷ rest) d.r d.top i e y z;
    } in
    let V : List Local → Type 0 = λ q. values_of t.classes s.store q c.args ≡ Ok vs.0 in
    let count : length c.args ≡ length (param_types t.classes m.0) = same_number (length c.args) (length m.0.params) n.0
    ∙ sym (length-map m.0.params (λ (p : Param). type_of t.classes p.ty)) in
    let facts = args-facts t s.store d.f d.fs s.windows d.r.spot.env ar.0 (param_types t.classes m.0)
    c.args vs.0 view d.fits.objects d.top.spot.distinct count ar.1 (subst V locals vs.1) in
    let cl = clear-all t s.store d.f d.fs s.windows (length s.managers) s.windows_made d.r.spot.env xs d.fits d.r.stands.named view.free
    (sources-of d.r.spot.env xs facts.ready) in
    let loose = loose-args t s.store d.f d.fs s.windows (length s.managers)
    s.windows_made d.r.spot.env d.fits d.r.stands.named xs facts.ready cl.less (param_types t.classes m.0) c.args vs.0
    facts.own facts.once (λ y z. z) count in
    let walks : walk t.classes d.r.spot.env c.target.base c.target.fields ≡ Ok (Ref fo.0.cap fo.0.class) = ty.1 ∙ ap Ok followed.reference in
    let beneath = invoke-runs t a s line k rest d target c fo.0.cap fo.0.class m.0 calls walks found f' refl cl.named in
    let all : (i : ℕ) → windows_of (length (f' ∷ d.fs)) i s.windows ≡ s.windows =
    λ i. beneath-all t (f' ∷ d.fs) s.windows rest (method_body t.classes fo.0.class m.0) target beneath (length (f' ∷ d.fs)) i (omega arith) in
    let elsewhere = beneath-elsewhere t (f' ∷ d.fs) s.windows rest (method_body t.classes fo.0.class m.0) target beneath
    (owned-grounded t.classes s.store (d.f ∷ d.fs) s.windows d.fits.opened.owned) (length (f' ∷ d.fs)) (omega arith) in
    let e0 : Frame = record { locals = []; target = target } in
    let l0 : Local = record { name = None; ty = Ref m.0.receiver fo.0.class; value = self.0 } in
    let pushed = push-frame t.classes s.store (f' ∷ d.fs) target s.windows (length s.managers) s.windows_made cl.fits in
    let not_iso : is_iso (Ref m.0.receiver fo.0.class) ≡ false = sym (below-iso ty.0 (Ref m.0.receiver fo.0.class) b.0) ∙ followed.not_iso in
    let self_meets = below-meets s.store s.windows ty.0 (Ref m.0.receiver fo.0.class) self.0 b.0 meets in
    let X : List Window → Type 0 = λ q. Meets s.store q (Ref m.0.receiver fo.0.class) self.0 in
    let first = put-local t.classes s.store e0 (f' ∷ d.fs) s.windows (length s.managers) s.windows_made (l0 ∷ []) 0 l0 pushed (puts-snoc [] l0)
    (subst X (sym (all 0)) self_meets)
    (not_iso-fresh t.classes s.store (e0 ∷ f' ∷ d.fs) (Ref m.0.receiver fo.0.class) self.0 not_iso)
    (AllOwners-map s.windows (IsElsewhere (length (f' ∷ d.fs))) (λ q. q ≢ Var (length (f' ∷ d.fs)) 0) (elsewhere-not (length (f' ∷ d.fs)) 0)
    elsewhere) in
    let loose0 = loose-map t.classes s.store (f' ∷ d.fs) (e0 ∷ f' ∷ d.fs) (param_types t.classes m.0) vs.0
    (push-less t.classes s.store (f' ∷ d.fs) target) loose in
    let loose1 = loose-put t.classes s.store e0 (f' ∷ d.fs) l0 (param_types t.classes m.0) vs.0
    (apart-not_iso s.store (Ref m.0.receiver fo.0.class) self.0 (param_types t.classes m.0) vs.0 not_iso) loose0 in
    let fits = params-put t.classes s.store (record e0 { locals = l0 ∷ [] }) (f' ∷ d.fs) s.windows (length s.managers)
    s.windows_made m.0.params vs.0 first all elsewhere facts.meets loose1 in
    let run = new-runs t a s.windows rest fo.0.class c.method m.0 found target self.0 vs.0 (f' ∷ d.fs) beneath in
    let bridged = bridges-push t.classes s.store g (f' ∷ d.fs) s.windows (bridges-top t.classes s.store s.store d.f f' d.fs s.windows
    (classes-same s.store) (named-types d.r.spot.env.entries d.f.locals (cleared xs d.f.locals) d.r.stands.named
    (Named-cleared xs d.r.spot.env.entries d.f.locals d.r.stands.named)) d.bridged) in
    rw (← is) (record { fit = data-fit t w (inl run) fits bridged; allowed = allowed-same s w refl })
  where
    same_number : (a b : ℕ) → (a == b) ≡ true → a ≡ b
    same_number a b e = grind arith

pub call-keeps : CallKeeps
call-keeps c line t s u rest a f is went =
    let d = doing t a s line (call c) rest is f in
    let h = stepped-went line (step_kind t.classes (record s { items = rest }) line (call c)) u (rw is at went) in
    let j = doing-judges t s line (call c) rest d in
    let k = bind-ok (judge_call t.classes d.r.spot.env c) _ j.out (at_line-ok line (judge_call_alone t.classes d.r.spot.env c) j.out j.judged) in
    call-kept t a s line (call c) rest d Drops c k.0 refl k.1 u h

pub declare-call : (c : Call) (x : Name) (ty : Written) → KindKeeps (declare x ty (result_of c))
declare-call c x ty line t s u rest a f is went =
    let k : StmtKind = declare x ty (result_of c) in
    let d = doing t a s line k rest is f in
    let h = stepped-went line (step_kind t.classes (record s { items = rest }) line k) u (rw is at went) in
    let j = doing-judges t s line k rest d in
    let p = judge_declare-parts t.classes d.r.spot.env j.out x ty (result_of c)
    (at_line-ok line (judge_declare t.classes d.r.spot.env x ty (result_of c)) j.out j.judged) in
    let q = bind-ok (judge_call t.classes d.r.spot.env c) _ p.judged p.typed in
    call-kept t a s line k rest d (Declares x (type_of t.classes ty)) c q.0 refl q.1 u h

pub assign-call : (c : Call) (x : Variable) → KindKeeps (assign (record { base = x; fields = [] }) (result_of c))
assign-call c x line t s u rest a f is went =
    let k : StmtKind = assign (record { base = x; fields = [] }) (result_of c) in
    let d = doing t a s line k rest is f in
    let h = stepped-went line (step_kind t.classes (record s { items = rest }) line k) u (rw is at went) in
    let j = doing-judges t s line k rest d in
    let p = judge_assign-parts t.classes d.r.spot.env j.out x (result_of c)
    (at_line-ok line (judge_assign t.classes d.r.spot.env x [] (result_of c)) j.out j.judged) in
    let q = bind-ok (judge_call t.classes d.r.spot.env c) _ p.judged p.typed in
    call-kept t a s line k rest d (Assigns x) c q.0 refl q.1 u h
