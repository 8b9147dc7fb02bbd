-- `return e` and the end of a method without a result keep the invariant.
use Rattle.std.proofs.Common.{◌≡◌, refl, sym, ◌∙◌, ap, subst, inl, inr, ℕ, true, List, [], ◌∷◌, ◌++◌, length, Option, Some, None, ok_or, option_map}
use Rattle.std.proofs.Common.{Ok, arith}
use Rattle.rg_base.specs.declared.ty.Ty.{Ty}
use Rattle.rg_base.specs.declared.fault.Code.TheVariants.{Mismatch}
use Rattle.rg_base.specs.declared.object.Seen.{Seen}
use Rattle.rg_base.specs.declared.words.Manager.{Manager}
use Rattle.rg_base.specs.declared.value.Val.{Val}
use Rattle.rg_tree.specs.Tree.{Name, Variable, Ty as Written, Call, Right, value, new, new_tmp, new_iso, freeze, merge, read, more, result_of}
use Rattle.rg_tree.specs.Tree.{StmtKind, declare, assign, assign_element, call, swap, branch, while, enter, print, collect, return, stmt, Path, Method, Class, Tree}
use Rattle.rg_rules.specs.Capabilities.{below}
use Rattle.rg_rules.specs.Types.{type_of}
use Rattle.rg_rules.specs.Environment.{Env, empty}
use Rattle.rg_rules.specs.Expressions.{Judged, judge_expr}
use Rattle.rg_rules.specs.Rights.{Called, judge_call, judge_right, right_call}
use Rattle.rg_rules.specs.Statements.{judge_declare, judge_assign}
use Rattle.rg_rules.specs.Items.{Item, Do, EndAt, Back, items_of}
use Rattle.rg_rules.specs.Bodies.{Body, main_body, method_body, method_end}
use Rattle.rg_rules.specs.Points.{here}
use Rattle.rg_rules.specs.State.{Local, Target, Declares, Assigns, Drops, Frame, Window, State, deliver}
use Rattle.rg_rules.specs.Evaluation.{computed}
use Rattle.rg_rules.specs.Steps.{Went, step_kind, step_return, without_top}
use Rattle.rg_rules.proofs.Answers.{bind-ok, ok_or-ok, at_line-ok}
use Rattle.rg_rules.proofs.Header.{good_type-type_of}
use Rattle.rg_rules.proofs.Expression.{against-ok, against-below, judge_expr-below}
use Rattle.rg_rules.proofs.Step.{stepped-went, computed-ok}
use Rattle.rg_sound.specs.OpenRegions.{AllOwned}
use Rattle.rg_sound.specs.Frames.{leaves, Named, FramesFit, Running, Beneath, WaitsEmpty, Calls, with_target}
use Rattle.rg_sound.specs.Values.{Meets}
use Rattle.rg_sound.specs.Fit.{Fit}
use Rattle.rg_sound.specs.Laws.{StaysFit, ReturnKeeps, BackKeeps}
use Rattle.rg_sound.proofs.Basics.{none-some}
use Rattle.rg_sound.proofs.Frames.Advance.{running-first}
use Rattle.rg_sound.proofs.Frames.Quiet.{writes-same, allowed-same, went_is}
use Rattle.rg_sound.proofs.Frames.Judge.{judge_declare-parts, judge_assign-parts}
use Rattle.rg_sound.proofs.Values.Value.{below-meets}
use Rattle.rg_sound.proofs.Frames.SpotEnd.{spot-end}
use Rattle.rg_sound.proofs.Frames.SpotReturn.{spot-return}
use Rattle.rg_sound.proofs.Owners.Owner.{AllOwners, AllOwners-map}
use Rattle.rg_sound.proofs.Owners.Data.{Data, fit-data, data-fit, pop-frame}
use Rattle.rg_sound.proofs.Frames.Stands.{IsElsewhere, Grounded, owned-grounded}
use Rattle.rg_sound.proofs.Frames.Top.{Top, running-top}
use Rattle.rg_sound.proofs.Values.Right.{OwnsFreshAs, Gives, expression-gives, below-iso}
use Rattle.rg_sound.proofs.Values.Local.{fresh-as}
use Rattle.rg_sound.proofs.Values.Assign.{Doing, doing, doing-judges}
use Rattle.rg_sound.proofs.Frames.End.{running-item}
use Rattle.rg_sound.proofs.Values.Deliver.{declare-finish, assign-finish, drop-finish, waits-doing, pop-leads, elsewhere-leads, no-own}
use Rattle.rg_sound.proofs.Values.Deliver.{call-result}
use Rattle.rg_sound.specs.Bridges.{BridgesFit}
use Rattle.rg_sound.proofs.Owners.Bridge.{KeepsClasses, classes-same, AllCut, beneath-cut, pop-keeps, bridges-end}

-- the call of a right side
right-call : (r : Right) (x y : Target) (made : Call) → with_target x (right_call r) ≡ Some (made, y) → (r ≡ result_of made) × (x ≡ y)
right-call (result_of c) x y made h =
    let pair : (c, x) ≡ (made, y) = grind arith in
    (ap (λ (q : Call × Target). result_of q.0) pair, ap (λ (q : Call × Target). q.1) pair)
right-call _ x y made h = none-some h

-- a call as a right side: the type that it gives is below the expected one
pub result-below : (classes : List Class) (env : Env) (wanted : Ty) (c : Call) (j : Judged) (ty : Ty) →
    judge_right classes env wanted (result_of c) ≡ Ok j →
    ((k : Called) → judge_call classes env c ≡ Ok k → k.result ≡ Some ty) → below ty wanted ≡ true
result-below classes env wanted c j ty h result =
    let p = bind-ok (judge_call classes env c) _ j h in
    let t = bind-ok (ok_or p.0.result Mismatch) _ j p.2 in
    let is : ◌≡◌ {A = Option Ty} (Some ty) (Some t.0) = sym (result p.0 p.1) ∙ ok_or-ok p.0.result Mismatch t.0 t.1 in
    let same : ty ≡ t.0 = grind arith in
    let a = against-ok (Some wanted) t.0 p.0.env j t.2 in
    let b = against-below wanted t.0 p.0.env j t.2 in
    let P : Ty → Type 0 = λ q. below q wanted ≡ true in subst P (a.ty ∙ sym same) b

-- a call without a result is no right side
result-none : {B : Type 0} (classes : List Class) (env : Env) (wanted : Ty) (c : Call) (j : Judged) →
    judge_right classes env wanted (result_of c) ≡ Ok j →
    ((k : Called) → judge_call classes env c ≡ Ok k → k.result ≡ None) → B
result-none classes env wanted c j h result =
    let p = bind-ok (judge_call classes env c) _ j h in
    let t = bind-ok (ok_or p.0.result Mismatch) _ j p.2 in
    none-some (sym (result p.0 p.1) ∙ ok_or-ok p.0.result Mismatch t.0 t.1)

-- what a call that waits gives
called-result : (classes : List Class) (env : Env) (k : StmtKind) (callee : Body) (target : Target) (c : Calls classes env k callee target)
    (made : Call) → made ≡ c.made → (j : Called) →
    judge_call classes env made ≡ Ok j → j.result ≡ callee.result
called-result classes env k callee target c made same j h =
    let P : Call → Type 0 = λ q. judge_call classes env q ≡ Ok j in
    call-result classes env c.made c.cap c.class c.called j c.receiver c.called_is (subst P same h) ∙ ap (λ (q : Body). q.result) (sym c.callee_is)

-- the value goes to the target
deliver-fits : (t : Tree) (s : State) (line : ℕ) (k : StmtKind) (rest : List Item) (d : Doing t s line k rest) (callee : Body) (target : Target)
    (c : Calls t.classes d.r.spot.env k callee target) →
    (ty : Ty) → callee.result ≡ Some ty → (after : State) (v : Val) → (g : Gives t (record s { items = rest }) d.f d.fs d.r.spot.env after ty v) →
    after.frames ≡ d.f ∷ d.fs →
    Data t.classes after.store (d.f ∷ d.fs) after.windows (length after.managers) after.windows_made → Fit t (deliver target after v)
deliver-fits t s line (declare x w r) rest d callee target c ty gives after v g frames fits =
    let is = right-call r (Declares x (type_of t.classes w)) target c.made c.made_is in
    let j = doing-judges t s line (declare x w r) rest d in
    let p = judge_declare-parts t.classes d.r.spot.env j.out x w r (at_line-ok line (judge_declare t.classes d.r.spot.env x w r) j.out j.judged) in
    let P : Right → Type 0 = λ q. judge_right t.classes d.r.spot.env p.declared q ≡ Ok p.judged in
    let b = result-below t.classes d.r.spot.env p.declared c.made p.judged ty (subst P is.0 p.typed)
    (λ k h. called-result t.classes d.r.spot.env (declare x w r) callee target c c.made refl k h ∙ gives) in
    let Q : Ty → Type 0 = λ q. below ty q ≡ true in
    let n = declare-finish t s line x w r rest d after ty v g (subst Q (good_type-type_of t.classes w p.declared p.good) b) in
    let R : Target → Type 0 = λ q. Fit t (deliver q after v) in subst R is.1 n
deliver-fits t s line (assign p r) rest d callee target c ty gives after v g frames fits = by_path p d c g frames fits
  where
    by_fields : (x : Variable) (fs : List Name) (d : Doing t s line (assign (record { base = x; fields = fs }) r) rest) →
        (c : Calls t.classes d.r.spot.env (assign (record { base = x; fields = fs }) r) callee target) →
        (g : Gives t (record s { items = rest }) d.f d.fs d.r.spot.env after ty v) → after.frames ≡ d.f ∷ d.fs →
        Data t.classes after.store (d.f ∷ d.fs) after.windows (length after.managers) after.windows_made → Fit t (deliver target after v)
    by_fields x [] d c g frames fits =
        let k : StmtKind = assign (record { base = x; fields = [] }) r in
        let is = right-call r (Assigns x) target c.made c.made_is in
        let j = doing-judges t s line k rest d in
        let p = judge_assign-parts t.classes d.r.spot.env j.out x r (at_line-ok line (judge_assign t.classes d.r.spot.env x [] r) j.out j.judged) in
        let P : Right → Type 0 = λ q. judge_right t.classes d.r.spot.env p.entry.ty q ≡ Ok p.judged in
        let b = result-below t.classes d.r.spot.env p.entry.ty c.made p.judged ty (subst P is.0 p.typed)
        (λ q h. called-result t.classes d.r.spot.env k callee target c c.made refl q h ∙ gives) in
        let n = assign-finish t s line x r rest d after ty v g j.out p b in
        let R : Target → Type 0 = λ q. Fit t (deliver q after v) in subst R is.1 n
    by_fields x (f ∷ fs) d c g frames fits = none-some c.made_is

    by_path : (p : Path) (d : Doing t s line (assign p r) rest) → (c : Calls t.classes d.r.spot.env (assign p r) callee target) →
        (g : Gives t (record s { items = rest }) d.f d.fs d.r.spot.env after ty v) → after.frames ≡ d.f ∷ d.fs →
        Data t.classes after.store (d.f ∷ d.fs) after.windows (length after.managers) after.windows_made → Fit t (deliver target after v)
    by_path p d c g frames fits = by_fields p.base p.fields d c g frames fits
deliver-fits t s line (assign_element q i r) rest d callee target c ty gives after v g frames fits = none-some c.made_is
deliver-fits t s line (call m) rest d callee target c ty gives after v g frames fits =
    let pair : (m, Drops) ≡ (c.made, target) = let h = c.made_is in grind arith in
    let n = drop-finish t s line m rest d after frames g.windows g.items fits g.classes in
    let R : Target → Type 0 = λ q. Fit t (deliver q after v) in subst R (ap (λ (q : Call × Target). q.1) pair) n
deliver-fits t s line _ rest d callee target c ty gives after v g frames fits = none-some c.made_is

-- the end of a method without a result
back-fits : (t : Tree) (s : State) (line : ℕ) (k : StmtKind) (rest : List Item) (d : Doing t s line k rest) (callee : Body) (target : Target)
    (c : Calls t.classes d.r.spot.env k callee target) →
    callee.result ≡ None → (after : State) → after.frames ≡ d.f ∷ d.fs → after.windows ≡ s.windows → after.items ≡ rest →
    Data t.classes after.store (d.f ∷ d.fs) after.windows (length after.managers) after.windows_made → KeepsClasses s.store after.store → Fit t after
back-fits t s line (declare x w r) rest d callee target c nothing after frames windows items fits classes =
    let is = right-call r (Declares x (type_of t.classes w)) target c.made c.made_is in
    let j = doing-judges t s line (declare x w r) rest d in
    let p = judge_declare-parts t.classes d.r.spot.env j.out x w r (at_line-ok line (judge_declare t.classes d.r.spot.env x w r) j.out j.judged) in
    let P : Right → Type 0 = λ q. judge_right t.classes d.r.spot.env p.declared q ≡ Ok p.judged in
    result-none t.classes d.r.spot.env p.declared c.made p.judged (subst P is.0 p.typed)
    (λ k h. called-result t.classes d.r.spot.env (declare x w r) callee target c c.made refl k h ∙ nothing)
back-fits t s line (assign p r) rest d callee target c nothing after frames windows items fits classes = by_path p d c
  where
    by_fields : (x : Variable) (fs : List Name) (d : Doing t s line (assign (record { base = x; fields = fs }) r) rest) →
        (c : Calls t.classes d.r.spot.env (assign (record { base = x; fields = fs }) r) callee target) → Fit t after
    by_fields x [] d c =
        let k : StmtKind = assign (record { base = x; fields = [] }) r in
        let is = right-call r (Assigns x) target c.made c.made_is in
        let j = doing-judges t s line k rest d in
        let p = judge_assign-parts t.classes d.r.spot.env j.out x r (at_line-ok line (judge_assign t.classes d.r.spot.env x [] r) j.out j.judged) in
        let P : Right → Type 0 = λ q. judge_right t.classes d.r.spot.env p.entry.ty q ≡ Ok p.judged in
        result-none t.classes d.r.spot.env p.entry.ty c.made p.judged (subst P is.0 p.typed)
        (λ q h. called-result t.classes d.r.spot.env k callee target c c.made refl q h ∙ nothing)
    by_fields x (f ∷ fs) d c = none-some c.made_is

    by_path : (p : Path) (d : Doing t s line (assign p r) rest) → (c : Calls t.classes d.r.spot.env (assign p r) callee target) → Fit t after
    by_path p d c = by_fields p.base p.fields d c
back-fits t s line (call m) rest d callee target c nothing after frames windows items fits classes =
    drop-finish t s line m rest d after frames windows items fits classes
back-fits t s line _ rest d callee target c nothing after frames windows items fits classes = none-some c.made_is

-- the topmost frame goes; it has no window of its own
pop-data : (t : Tree) (s : State) (f : Frame) (fs : List Frame) (under : List Window) (regions : ℕ) → AllOwners under (IsElsewhere (length fs)) →
    s.windows ≡ under →
    Data t.classes s.store (f ∷ fs) s.windows regions s.windows_made → Data t.classes s.store fs s.windows regions s.windows_made
pop-data t s f fs under regions elsewhere windows d =
    let P : List Window → Type 0 = λ q. AllOwners q (IsElsewhere (length fs)) in
    pop-frame t.classes s.store f fs s.windows regions s.windows_made d
    (AllOwners-map s.windows (IsElsewhere (length fs)) _ (elsewhere-leads t.classes s.store f fs) (subst P (sym windows) elsewhere))

pop-bridges : (t : Tree) (s : State) (f : Frame) (fs : List Frame) (under : List Window) (items : List Item) (b : Body) (target : Target) →
    Beneath t fs under items b target → Grounded s.windows → AllOwners under (IsElsewhere (length fs)) → s.windows ≡ under →
    BridgesFit t.classes s.store (f ∷ fs) s.windows → BridgesFit t.classes s.store fs s.windows
pop-bridges t s f fs under items b target beneath ground elsewhere windows h =
    let P : List Window → Type 0 = λ q. AllOwners q (IsElsewhere (length fs)) in
    let Q : List Window → Type 0 = λ q. Grounded q in
    let R : List Window → Type 0 = λ q. AllCut (length fs) 0 q in
    bridges-end t.classes s.store (f ∷ fs) fs s.windows (pop-keeps f fs s.windows
    (subst R (sym windows) (beneath-cut t fs under items b target beneath (subst Q windows ground) (length fs) 0 (omega arith)))
    (subst P (sym windows) elsewhere)) h

result-of-main : {B : Type 0} (t : Tree) (b : Body) (ty : Ty) → b ≡ main_body t → b.result ≡ Some ty → B
result-of-main t b ty e h = none-some (sym (ap (λ (q : Body). q.result) e) ∙ h)

result-of-empty : {B : Type 0} (classes : List Class) (b : Body) (c : ℕ) (m : Method) (ty : Ty) → b ≡ method_body classes c m → m.result ≡ None →
    b.result ≡ Some ty → B
result-of-empty classes b c m ty e n h =
    none-some (sym (ap (λ (q : Body). q.result) e ∙ ap (λ (q : Option Written). option_map (type_of classes) q) n) ∙ h)

pub return-keeps : ReturnKeeps
return-keeps e line t s u rest a f is went =
    let k : StmtKind = return e in
    let d = doing t a s line k rest is f in
    let s0 : State = record s { items = rest } in
    let h = stepped-went line (step_kind t.classes s0 line k) u (rw is at went) in
    let first = running-first t d.f d.fs s.windows (Do (stmt line k)) rest d.r in
    let ret = spot-return t.classes d.r.body.result d.r.body.front d.top.right.out d.r.body.block d.r.body.after [] d.r.point d.r.spot line e d.r.more
    d.top.right.free d.top.right.judged d.r.spot_is first.0 in
    let own = no-own (length d.fs) d.f.locals d.r.spot.enters d.r.own d.r.stands.entered ret.enters_are in
    let windows : s.windows ≡ d.r.under = d.r.windows_are ∙ ap (λ q. q ++ d.r.under) own in
    let more_none : d.r.more ≡ [] = ret.mine_is ∙ d.top.front.given ret.ty ret.gives in
    let others : rest ≡ d.r.rest = first.1 ∙ ap (λ q. q ++ d.r.rest) more_none in
    let P : List Frame → Type 0 = λ q. step_return t.classes s0 e q ≡ Ok u in
    let now : step_return t.classes s0 e (d.f ∷ d.fs) ≡ Ok u = subst P d.frames h in
    let j = bind-ok (judge_expr t.classes d.r.spot.env (Some ret.ty) e) _ ret.out ret.judged in
    by_frames d ret.ty ret.gives windows others j.0 j.1 d.fs refl now d.r.beneath
  where
    by_frames : (d : Doing t s line (return e) rest) (ty : Ty) → d.r.body.result ≡ Some ty → s.windows ≡ d.r.under → rest ≡ d.r.rest → (j : Judged) →
        judge_expr t.classes d.r.spot.env (Some ty) e ≡ Ok j → (fs : List Frame) → d.fs ≡ fs →
        step_return t.classes (record s { items = rest }) e (d.f ∷ fs) ≡ Ok u →
        Beneath t d.fs d.r.under d.r.rest d.r.body d.f.target → StaysFit t s u
    by_frames d ty gives windows others j typed [] same h beneath =
        let P : List Frame → Type 0 = λ q. Beneath t q d.r.under d.r.rest d.r.body d.f.target in
        let b = subst P same beneath in result-of-main t d.r.body ty b.0 gives
    by_frames d ty gives windows others j typed (g ∷ gs) same h beneath =
        let s0 : State = record s { items = rest } in
        let P : List Frame → Type 0 = λ q. Beneath t q d.r.under d.r.rest d.r.body d.f.target in
        let b = subst P same beneath in
        let p = bind-ok (computed t.classes s0 e) _ u h in
        let is : deliver d.f.target (record s0 { frames = g ∷ gs }) p.0.1 ≡ u = grind arith in
        let eg = expression-gives t s0 d.f d.fs (Do (stmt line (return e)) ∷ rest) d.r d.top d.frames d.fits (Some ty) e j typed p.0 p.1 in
        let whole = computed-ok t.classes s0 e p.0 p.1 in
        let store : p.0.0.store ≡ s.store = ap (λ (q : State). q.store) whole.state in
        let managers : p.0.0.managers ≡ s.managers = ap (λ (q : State). q.managers) whole.state in
        let f1 : Frame = record d.f { locals = eg.locals } in
        let Q : List Seen → Type 0 = λ q. Data t.classes q (f1 ∷ d.fs) s.windows (length p.0.0.managers) s.windows_made in
        let R : List Manager → Type 0 = λ q. Data t.classes s.store (f1 ∷ d.fs) s.windows (length q) s.windows_made in
        let T : List Frame → Type 0 = λ q. Data t.classes s.store (f1 ∷ q) s.windows (length s.managers) s.windows_made in
        let fits = subst T same (subst R managers (subst Q store eg.fits)) in
        let U : List Frame → Type 0 = λ q. AllOwners d.r.under (IsElsewhere (length q)) in
        let popped = pop-data t s f1 (g ∷ gs) d.r.under (length s.managers) (subst U same d.top.elsewhere) windows fits in
        let C : List Frame → Type 0 = λ q. BridgesFit t.classes s.store (d.f ∷ q) s.windows in
        let bridged = pop-bridges t s d.f (g ∷ gs) d.r.under d.r.rest d.r.body d.f.target b
        (owned-grounded t.classes s.store (d.f ∷ d.fs) s.windows d.fits.opened.owned) (subst U same d.top.elsewhere) windows (subst C same d.bridged)
        in
        let below_ty = judge_expr-below t.classes d.r.spot.env ty e j typed in
        let V : List Seen → Type 0 = λ q. Meets q s.windows ty p.0.1 in
        let meets = subst V store (below-meets p.0.0.store s.windows j.ty ty p.0.1 below_ty eg.meets) in
        let W : List Seen → Type 0 = λ q. OwnsFreshAs t.classes q (f1 ∷ d.fs) ty p.0.1 in
        let X : List Frame → Type 0 = λ q. OwnsFreshAs t.classes s.store (f1 ∷ q) ty p.0.1 in
        let fresh = subst X same (subst W store (fresh-as t.classes p.0.0.store (f1 ∷ d.fs) j.ty ty p.0.1 (below-iso j.ty ty below_ty) eg.fresh)) in
        let fresh_now : OwnsFreshAs t.classes s.store (g ∷ gs) ty p.0.1 = λ r y. let q = fresh r y in
        (q.0, λ z o. q.1 z (pop-leads t.classes s.store f1 (g ∷ gs) z r o)) in
        let Y : State → Type 0 = λ q. StaysFit t s q in
        let rest_is : rest ≡ b.3 ++ b.4 = others ∙ b.6 in
        elim (b.7) [
          | inl w ↦
              let s1 : State = record s { frames = g ∷ gs; items = Do (stmt w.line w.kind) ∷ (b.3 ++ b.4) } in
              let dd = waits-doing t a s1 b.0 g gs b.1 b.2 b.3 b.4 d.r.body d.f.target w b.8 (windows ∙ b.5) popped refl bridged refl in
              let after : State = record s { frames = g ∷ gs; items = b.3 ++ b.4 } in
              let gv : Gives t (record s1 { items = b.3 ++ b.4 }) g gs w.spot.env after ty p.0.1 = record {
                locals = g.locals;
                frames = refl;
                named = w.stands.named;
                windows = refl;
                made = refl;
                items = refl;
                fits = popped;
                meets = meets;
                fresh = fresh_now;
                allowed = writes-same (record s1 { items = b.3 ++ b.4 }) after refl;
                keeps = λ b o h i. h;
                classes = classes-same s.store;
              } in
              let fit = deliver-fits t s1 w.line w.kind (b.3 ++ b.4) dd d.r.body d.f.target w.calls ty gives after p.0.1 gv refl popped in
              let Z : List Item → Type 0 = λ q. Fit t (deliver d.f.target (record s { frames = g ∷ gs; items = q }) p.0.1) in
              subst Y is (record {
                fit = subst Z (sym rest_is) fit;
                allowed =
                    allowed-same s (deliver d.f.target (record s0 { frames = g ∷ gs }) p.0.1)
                    (deliver-store d.f.target (record s0 { frames = g ∷ gs }) p.0.1);
              })
          | inr w ↦ result-of-empty t.classes d.r.body w.class w.called ty w.callee_is w.no_result gives
        ]
      where
        deliver-store : (target : Target) (q : State) (v : Val) → (deliver target q v).store ≡ q.store
        deliver-store (Declares x ty) q v = refl
        deliver-store (Assigns x) q v = refl
        deliver-store Drops q v = refl

-- what a body ends with
back-body : {B : Type 0} (t : Tree) (b : Body) (mine : List Item) → b ≡ main_body t → b.after ≡ Back ∷ mine → B
back-body t b mine e h = let no : EndAt 0 ∷ [] ≡ Back ∷ mine = sym (ap (λ (q : Body). q.after) e) ∙ h in grind arith

back-method : (classes : List Class) (b : Body) (c : ℕ) (m : Method) (mine : List Item) → b ≡ method_body classes c m → b.after ≡ Back ∷ mine →
    (b.result ≡ None) × (mine ≡ [])
back-method classes b c m mine e h = by_result m.result refl (sym (ap (λ (q : Body). q.after) e) ∙ h)
  where
    by_result : (r : Option Written) → m.result ≡ r → method_end m.result ≡ Back ∷ mine → (b.result ≡ None) × (mine ≡ [])
    by_result None is k =
        let all : Back ∷ [] ≡ Back ∷ mine = sym (ap method_end is) ∙ k in
        let nothing : mine ≡ [] = grind arith in
        (ap (λ (q : Body). q.result) e ∙ ap (λ (q : Option Written). option_map (type_of classes) q) is, nothing)
    by_result (Some w) is k = let no : [] ≡ Back ∷ mine = sym (ap method_end is) ∙ k in grind arith

pub back-keeps : BackKeeps
back-keeps t s u rest a f is went =
    let now : Went (record s { items = rest; frames = without_top s.frames }) ≡ Went u = rw is at went in
    let same = went_is (record s { items = rest; frames = without_top s.frames }) u now in
    let P : State → Type 0 = λ q. StaysFit t s q in
    subst P same (record { fit = back_fits s.frames refl; allowed = allowed-same s (record s { items = rest; frames = without_top s.frames }) refl })
  where
    main-runs : (g : Frame) (gs : List Frame) (own under : List Window) (mine later : List Item) (caller callee : Body) (target : Target) →
        s.windows ≡ own ++ under → rest ≡ mine ++ later →
        WaitsEmpty t caller g own mine callee target → Beneath t gs under later caller g.target → Running t g gs s.windows rest
    main-runs g gs own under mine later caller callee target windows items w beneath =
        let P : Body → Type 0 = λ q. Beneath t gs under later q g.target in
        let Q : List Local → Type 0 = λ q. Named [] q in
        record {
          body = main_body t;
          own = [];
          under = under;
          windows_are = windows ∙ ap (λ q. q ++ under) w.no_window;
          point = here;
          spot = record { env = empty; items = items_of t.body (EndAt 0 ∷ []); enters = [] };
          spot_is = refl;
          stands = record {
            named = subst Q (sym w.no_variable) tt;
            entered = tt;
            bases =
                sym (ap (λ b. leaves (items_of b (EndAt 0 ∷ []))) w.no_statement);
            depths = λ i e h. none-some h;
            lent_are = λ i e h. none-some h;
          };
          first = EndAt 0;
          more = [];
          begins = ap (λ b. items_of b (EndAt 0 ∷ [])) w.no_statement;
          rest = later;
          items_are = items ∙ ap (λ q. q ++ later) w.ends;
          beneath = subst P w.is_main beneath;
        }

    under-frames : (f : Frame) (fs : List Frame) → s.frames ≡ f ∷ fs → (r : Running t f fs s.windows (Back ∷ rest)) →
        Top t f fs s.windows (Back ∷ rest) r →
        Data t.classes s.store (f ∷ fs) s.windows (length s.managers) s.windows_made →
        BridgesFit t.classes s.store (f ∷ fs) s.windows → s.windows ≡ r.under → rest ≡ r.rest → (mine : List Item) →
        r.body.after ≡ Back ∷ mine →
        (gs : List Frame) → fs ≡ gs → Fit t (record s { items = rest; frames = without_top (f ∷ gs) })
    under-frames f fs at r top d bridges windows others mine after [] same =
        let P : List Frame → Type 0 = λ q. Beneath t q r.under r.rest r.body f.target in
        let b = subst P same r.beneath in back-body t r.body mine b.0 after
    under-frames f fs at r top d bridges windows others mine after (g ∷ gs) same =
        let P : List Frame → Type 0 = λ q. Beneath t q r.under r.rest r.body f.target in
        let b = subst P same r.beneath in
        let T : List Frame → Type 0 = λ q. Data t.classes s.store (f ∷ q) s.windows (length s.managers) s.windows_made in
        let U : List Frame → Type 0 = λ q. AllOwners r.under (IsElsewhere (length q)) in
        let popped = pop-data t s f (g ∷ gs) r.under (length s.managers) (subst U same top.elsewhere) windows (subst T same d) in
        let C : List Frame → Type 0 = λ q. BridgesFit t.classes s.store (f ∷ q) s.windows in
        let bridged = pop-bridges t s f (g ∷ gs) r.under r.rest r.body f.target b
        (owned-grounded t.classes s.store (f ∷ fs) s.windows d.opened.owned) (subst U same top.elsewhere) windows (subst C same bridges) in
        let rest_is : rest ≡ b.3 ++ b.4 = others ∙ b.6 in
        let u : State = record s { items = rest; frames = g ∷ gs } in
        elim (b.7) [
          | inl w ↦
              let m = back-method t.classes r.body w.calls.class w.calls.called mine w.calls.callee_is after in
              let s1 : State = record s { frames = g ∷ gs; items = Do (stmt w.line w.kind) ∷ (b.3 ++ b.4) } in
              let dd = waits-doing t a s1 b.0 g gs b.1 b.2 b.3 b.4 r.body f.target w b.8 (windows ∙ b.5) popped refl bridged refl in
              back-fits t s1 w.line w.kind (b.3 ++ b.4) dd r.body f.target w.calls m.0 u refl refl rest_is popped (classes-same s.store)
          | inr w ↦ data-fit t u (inl (main-runs g gs b.1 b.2 b.3 b.4 b.0 r.body f.target (windows ∙ b.5) rest_is w b.8)) popped bridged
        ]

    ends : (fs : List Frame) (us : List Window) (later mine : List Item) (b : Body) (target : Target) → Beneath t fs us later b target →
        b.after ≡ Back ∷ mine → mine ≡ []
    ends [] us later mine b target h k = back-body t b mine h.0 k
    ends (x ∷ fs) us later mine b target h k = elim (h.7) [
      | inl w ↦ (back-method t.classes b w.calls.class w.calls.called mine w.calls.callee_is k).1
      | inr w ↦ (back-method t.classes b w.class w.called mine w.callee_is k).1
    ]

    back_fits : (fs : List Frame) → s.frames ≡ fs → Fit t (record s { items = rest; frames = without_top fs })
    back_fits [] at = let P : List Frame → Type 0 = λ q. FramesFit t q s.windows s.items in absurd (subst P at f.frames)
    back_fits (g ∷ fs) at =
        let P : List Frame → Type 0 = λ q. FramesFit t q s.windows s.items in
        let Q : List Item → Type 0 = λ q. FramesFit t (g ∷ fs) s.windows q in
        let r = running-item t g fs s.windows Back rest (subst Q is (subst P at f.frames)) in
        let R : List Frame → Type 0 = λ q. AllOwned t.classes s.store q s.windows in
        let S : List Frame → Type 0 = λ q. Data t.classes s.store q s.windows (length s.managers) s.windows_made in
        let T : List Frame → Type 0 = λ q. BridgesFit t.classes s.store q s.windows in
        let top = running-top t a s.store g fs s.windows (Back ∷ rest) r (subst R at f.opened.owned) in
        let first = running-first t g fs s.windows Back rest r in
        let e = spot-end t.classes r.body.result r.body.front top.right.out r.body.block r.body.after [] r.point r.spot Back r.more
        top.front.distinct top.right.ends tt
        top.right.judged r.spot_is first.0 in
        elim e [
          | inl o ↦
              let own = no-own (length fs) g.locals r.spot.enters r.own r.stands.entered o.enters_are in
              let windows : s.windows ≡ r.under = r.windows_are ∙ ap (λ q. q ++ r.under) own in
              let none_more : r.more ≡ [] = ends fs r.under r.rest r.more r.body g.target r.beneath o.after_is in
              under-frames g fs at r top (subst S at (fit-data t s f)) (subst T at f.bridges) windows (first.1 ∙ ap (λ q. q ++ r.rest) none_more)
              r.more o.after_is fs refl
          | inr o ↦ absurd o.closes
        ]
