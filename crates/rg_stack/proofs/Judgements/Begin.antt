-- From the invariant itself: where a statement begins that isn't a `return`, and at a `return`.
use Rattle.std.proofs.Common.{true, reverse, ◌≡◌, ℕ, suc, ◌⊎◌, inl, inr, List, [], ◌∷◌, length, map, Option, Some, None, Ok, refl, sym, ap, subst}
use Rattle.std.proofs.Common.{◌∙◌, ◌++◌, ok_or, true≢false, false, Bool as Truth, slice_get, unwrap_or}
use Rattle.std.proofs.lemmas.List.{length-map, length-reverse}
use Rattle.rg_base.specs.declared.ty.Ty.{Ty}
use Rattle.rg_base.specs.declared.value.Val.{Val}
use Rattle.rg_base.specs.declared.object.Seen.{Seen}
use Rattle.rg_base.specs.declared.words.Manager.{Manager}
use Rattle.rg_tree.specs.Tree.{Name, Variable, Expr, Call, Right}
use Rattle.rg_tree.specs.Tree.{result_of, stmt, StmtKind, declare, assign, call, return, Method, Class}
use Rattle.rg_tree.specs.Tree.{Tree}
use Rattle.rg_base.specs.declared.fault.Code.TheVariants.{Unknown}
use Rattle.std.proofs.lemmas.Option.{none-some, same_Some}
use Rattle.std.proofs.lemmas.Bool.{and_from, not-true}
use Rattle.std.specs.Prelude.{not, ◌||◌, ◌+◌, nat_le}
use Rattle.rg_rules.specs.Acceptance.{Accepted}
use Rattle.rg_rules.specs.Types.{type_of, method_named}
use Rattle.rg_rules.specs.Environment.{Env, Entry, entry_of, at_depth, is_lent}
use Rattle.rg_rules.specs.Capabilities.{below, stays_at_depth}
use Rattle.rg_rules.specs.Items.{Item, Do}
use Rattle.rg_rules.specs.Bodies.{Body, method_body}
use Rattle.rg_rules.specs.Answers.{at_line}
use Rattle.rg_rules.specs.Rights.{Called, judge_call, judge_right, right_call}
use Rattle.rg_rules.specs.Statements.{judge_block, judge_kind, judge_assign}
use Rattle.rg_rules.specs.State.{Local, Target, Declares, Assigns, Drops, Frame, Window}
use Rattle.rg_rules.specs.Owners.{leads_into}
use Rattle.rg_rules.specs.Evaluation.{uses, cleared}
use Rattle.rg_rules.specs.Steps.{next}
use Rattle.rg_rules.proofs.Answers.{bind-ok, test-then, ok_or-ok, at_line-ok}
use Rattle.rg_rules.proofs.Acceptance.{Accepted-parts, Accepted-method}
use Rattle.rg_rules.proofs.Point.{BeginsFree, spot-advance}
use Rattle.rg_sound.specs.Values.{Meets}
use Rattle.rg_sound.specs.OpenRegions.{AllOwned}
use Rattle.rg_sound.proofs.Frames.SpotReturn.{spot-return}
use Rattle.rg_sound.proofs.Frames.Stands.{IsElsewhere}
use Rattle.rg_sound.proofs.Frames.Top.{running-top}
use Rattle.rg_sound.proofs.Owners.Owner.{AllOwners, AllOwners-map}
use Rattle.rg_sound.proofs.Owners.Data.{Data, pop-frame}
use Rattle.rg_sound.proofs.Values.Right.{OwnsFreshAs}
use Rattle.rg_sound.proofs.Values.Deliver.{pop-leads, elsewhere-leads, call-result}
use Rattle.rg_sound.proofs.Frames.Body.{method_end-free}
use Rattle.rg_sound.proofs.Values.Return.{result-below}
use Rattle.rg_sound.specs.Frames.{Entered, Waits, WaitsEmpty, Beneath, Running, with_target, assigned_call, call_of}
use Rattle.rg_code.specs.Lowering.{assign_op, lowered}
use Rattle.rg_code.specs.Places.{scope_of}
use Rattle.rg_stack.specs.Machine.{Frame as Shown, slots_below}
use Rattle.rg_stack.specs.Given.{given_step as step}
use Rattle.rg_stack.proofs.Mirrors.{Mirrors}
use Rattle.rg_stack.specs.Shows.{ShowsFrames, ShowsWindows, sizes_of}
use Rattle.rg_stack.specs.Needs.{needs, owned_once, loose}
use Rattle.rg_stack.specs.Places.{top_base}
use Rattle.rg_stack.proofs.Mirrors.{SameMove}
use Rattle.rg_stack.proofs.Walks.Place.{GoesOn}
use Rattle.rg_stack.proofs.Callers.Frame.{OpenedBelow, windows_below}
use Rattle.rg_stack.proofs.Walks.End.{Round, work, state}
use Rattle.rg_stack.proofs.Callers.Base.{as_many, sizes-more}
use Rattle.rg_stack.proofs.Callers.Lead.{ShowsFit}
use Rattle.rg_stack.proofs.Callers.Once.{owned_once-fits, loose-fits}
use Rattle.rg_stack.proofs.Statements.Return.{TargetHas, TargetNeeds, above}
use Rattle.rg_stack.proofs.Judgements.Base.{beneath-begins}
use Rattle.rg_stack.proofs.Judgements.Fit.{found-named, running-beneath}
use Rattle.rg_stack.proofs.Judgements.Middle.{Begun, begun_of, variable-needs}
use Rattle.rg_stack.proofs.Judgements.Spot.{leaves_frame, outer-enters}
use Rattle.rg_stack.proofs.Judgements.Statement.{Live, fits_of, statement-judged, return-judged, target-has}

-- a body that runs or waits in an accepted program is judged
pub record JudgedBody (t : Tree) (b : Body) : Type 0 where
  pub out : Env
  pub right : judge_block t.classes b.result b.front b.block ≡ Ok out
  pub free : BeginsFree b.after

method_judged : (t : Tree) → Accepted t → (c : ℕ) (x : Name) (m : Method) → method_named t.classes c x ≡ Some m
    → JudgedBody t (method_body t.classes c m)
method_judged t accepted c x m named = let p = Accepted-method t accepted c x m named in record
    { out = p.out; right = p.body; free = method_end-free m.result }

pub body-judged : (t : Tree) → Accepted t → (fs : List Frame) (ws : List Window) (items : List Item) (b : Body) (target : Target)
    → Beneath t fs ws items b target → JudgedBody t b
body-judged t accepted [] ws items b target h = let p = Accepted-parts t accepted in subst (JudgedBody t) (sym h.0)
    (record { out = p.out; right = p.main; free = tt })
body-judged t accepted (f ∷ fs) ws items b target h = callee_judged h.7
  where
    callee_judged : Waits t.classes h.0 f (length fs) h.1 h.3 b target ⊎ WaitsEmpty t h.0 f h.1 h.3 b target → JudgedBody t b
    callee_judged (inl w) = subst (JudgedBody t) (sym w.calls.callee_is)
        (method_judged t accepted w.calls.class w.calls.made.method w.calls.called w.calls.called_is)
    callee_judged (inr w) = subst (JudgedBody t) (sym w.callee_is) (method_judged t accepted w.class w.name w.called w.called_is)

-- the statement that a running body begins with is judged at its spot
pub record JudgedHere (t : Tree) (env : Env) (line : ℕ) (k : StmtKind) : Type 0 where
  pub last : Option Ty
  pub out : Env
  pub right : judge_kind t.classes last line env k ≡ Ok out

pub here-judged : (t : Tree) → Accepted t → (top : Frame) (lower : List Frame) (ws : List Window) (line : ℕ) (k : StmtKind) (rest : List Item)
    (h : Running t top lower ws (Do (stmt line k) ∷ rest)) → JudgedHere t h.spot.env line k
here-judged t accepted top lower ws line k rest h =
    let b = body-judged t accepted lower h.under h.rest h.body top.target h.beneath in
    let first : h.first ≡ Do (stmt line k) = ap (λ l. unwrap_or (slice_get l 0) (Do (stmt line k))) (sym h.items_are) in
    let begins : h.spot.items ≡ Do (stmt line k) ∷ h.more = h.begins ∙ ap (λ i. i ∷ h.more) first in
    let a = spot-advance t.classes h.body.result h.body.front b.out h.body.block h.body.after [] h.point h.spot (stmt line k) h.more b.free b.right
    h.spot_is begins in
    record { last = a.last; out = a.out; right = a.right }

-- what takes the result of the running body is there in the frame beneath
waits_has : (t : Tree) → Accepted t → (b : Body) (f : Frame) (n : ℕ) (own : List Window) (mine : List Item) (callee : Body) (target : Target)
    → JudgedBody t b → Waits t.classes b f n own mine callee target → TargetHas target f.locals
waits_has t accepted b f n own mine callee target judged w =
    let a = spot-advance t.classes b.result b.front judged.out b.block b.after [] w.point w.spot (stmt w.line w.kind) mine judged.free judged.right
    w.spot_is w.begins in
    target-has t a.last w.line w.spot.env a.out f.locals w.kind w.calls.made target w.stands.named a.right w.calls.made_is

pub beneath-has : (t : Tree) → Accepted t → (f : Frame) (fs : List Frame) (ws : List Window) (items : List Item) (b : Body) (target : Target)
    → Beneath t (f ∷ fs) ws items b target → TargetHas target f.locals
beneath-has t accepted f fs ws items b target h = by_waiting h.7
  where
    by_waiting : Waits t.classes h.0 f (length fs) h.1 h.3 b target ⊎ WaitsEmpty t h.0 f h.1 h.3 b target → TargetHas target f.locals
    by_waiting (inl w) = waits_has t accepted h.0 f (length fs) h.1 h.3 b target (body-judged t accepted fs h.2 h.4 h.0 f.target h.8) w
    by_waiting (inr w) = subst (λ k. TargetHas k f.locals) (sym w.nothing_taken) tt

none_entered : (n : ℕ) (locals : List Local) (own : List Window) → Entered n locals [] own → own ≡ []
none_entered n locals [] h = refl
none_entered n locals (w ∷ ws) h = absurd h

-- a body that comes to a `return` or to its end has no window open
pub alone : (t : Tree) → Accepted t → (top : Frame) (lower : List Frame) (ws : List Window) (items : List Item) (h : Running t top lower ws items)
    → leaves_frame h.spot.items ≡ true → h.own ≡ []
alone t accepted top lower ws items h leaves =
    let b = body-judged t accepted lower h.under h.rest h.body top.target h.beneath in
    let e = outer-enters t.classes h.body.result h.body.front b.out h.body.block h.body.after [] h.point h.spot b.right h.spot_is leaves in
    none_entered (length lower) top.locals h.own (subst (λ l. Entered (length lower) top.locals (reverse l) h.own) e h.stands.entered)

-- a statement that isn't a `return`
pub fit-statement : (t : Tree) (accepted : Accepted t) (r : Round) (store : List Seen) (slots : List Val) (locals : List Local)
    (managers : List Manager) (input : List ℕ) (line : ℕ) (k : StmtKind) (j : Item) (rest : List Item)
    → GoesOn k
    → (h : Running t (record { locals = locals; target = r.target }) r.bodies r.opened (Do (stmt line k) ∷ j ∷ rest))
    → Data t.classes store (record { locals = locals; target = r.target } ∷ r.bodies) r.opened (length managers) r.made
    → Live t accepted r store slots locals managers input line j rest h.spot.env
    → Mirrors t.classes (lowered t) (work r store slots managers input).machine (state r store locals managers input (Do (stmt line k) ∷ j ∷ rest))
    → SameMove t.classes (lowered t) r.output (next t.classes (state r store locals managers input (Do (stmt line k) ∷ j ∷ rest)))
    (step (lowered t) (work r store slots managers input))
fit-statement t accepted r store slots locals managers input line k j rest goes h fits live shows =
    let judged = here-judged t accepted (record { locals = locals; target = r.target }) r.bodies r.opened line k (j ∷ rest) h in
    statement-judged t accepted r store slots locals managers input line j rest h.spot.env judged.last k judged.out goes
    (fits_of t accepted r store slots locals managers input line j rest h.spot.env shows.slots shows.windows (Do (stmt line k) ∷ j ∷ rest) h refl
    fits live)
    shows judged.right

-- a variable that takes the result of a call isn't lent, and it may be assigned and take what the call gives
record FreeVariable (classes : List Class) (env : Env) (x : Variable) (c : Call) : Type 0 where
  pub entry : Entry
  pub there : entry_of env x ≡ Some entry
  pub not_lent : is_lent entry.readiness ≡ false
  pub may : (at_depth env entry || not (stays_at_depth entry.ty)) ≡ true
  pub takes : (ty : Ty) → ((k : Called) → judge_call classes env c ≡ Ok k → k.result ≡ Some ty) → below ty entry.ty ≡ true

abbrev TargetFree : List Class → Env → Target → Call → Type 0
TargetFree classes env (Declares x t) c = Unit {0}
TargetFree classes env (Assigns x) c = FreeVariable classes env x c
TargetFree classes env Drops c = Unit {0}

with_free : (classes : List Class) (env : Env) (o : Option Call) (first target : Target) (c : Call) → with_target first o ≡ Some (c, target)
    → ((d : Call) → o ≡ Some d → TargetFree classes env first d) → TargetFree classes env target c
with_free classes env None first target c h free = absurd (none-some (c, target) h)
with_free classes env (Some d) first target c h free = subst (λ (p : Call × Target). TargetFree classes env p.1 p.0)
    (same_Some (d, first) (c, target) h) (free d refl)

-- the call of a right side
called_right : (right : Right) (d : Call) → right_call right ≡ Some d → right ≡ result_of d
called_right (result_of c) d h = ap result_of (same_Some c d h)
called_right _ d h = absurd (none-some d h)

assigned_free : (classes : List Class) (env out : Env) (x : Variable) (fs : List Name) (right : Right) (c : Call) (target : Target)
    → judge_assign classes env x fs right ≡ Ok out → assigned_call x fs right ≡ Some (c, target) → TargetFree classes env target c
assigned_free classes env out x [] right c target judged h =
    let e = bind-ok (ok_or (entry_of env x) Unknown) _ out judged in
    let a = test-then (e.0.assignable) _ _ out e.2 in
    let b = test-then (at_depth env e.0 || not (stays_at_depth e.0.ty)) _ _ out a.1 in
    let l = test-then (not (is_lent e.0.readiness)) _ _ out b.1 in
    let j = bind-ok (judge_right classes env e.0.ty right) _ out l.1 in
    with_free classes env (right_call right) (Assigns x) target c h (λ d is. record {
      entry = e.0;
      there = ok_or-ok (entry_of env x) Unknown e.0 e.1;
      not_lent = not-true (is_lent e.0.readiness) l.0;
      may = b.0;
      takes = λ ty. result-below classes env e.0.ty d j.0 ty
          (subst (λ q. judge_right classes env e.0.ty q ≡ Ok j.0) (called_right right d is) j.1);
    })
assigned_free classes env out x (g ∷ gs) right c target judged h = absurd (none-some (c, target) h)

target_free : (classes : List Class) (last : Option Ty) (line : ℕ) (env out : Env) (k : StmtKind) (c : Call) (target : Target)
    → judge_kind classes last line env k ≡ Ok out → call_of classes k ≡ Some (c, target) → TargetFree classes env target c
target_free classes last line env out (declare x ty right) c target judged h =
    with_free classes env (right_call right) (Declares x (type_of classes ty)) target
    c h (λ d is. tt)
target_free classes last line env out (assign p right) c target judged h = assigned_free classes env out p.base p.fields right c target
    (at_line-ok line _ out judged) h
target_free classes last line env out (call d) c target judged h = with_free classes env (Some d) Drops target c h (λ u is. tt)
target_free classes last line env out _ c target judged h = absurd (none-some (c, target) h)

-- whether a target takes a result
abbrev takes_any : Target → Truth
takes_any (Declares x t) = true
takes_any (Assigns x) = true
takes_any Drops = false

-- a result that is owned nowhere may go to its target in the frame beneath
module _ (t : Tree) (accepted : Accepted t) (r : Round) (slots under : List Val) (locals callers : List Local) (back : ℕ) (target : Target)
    (store : List Seen) (managers : List Manager) (input : List ℕ) (items : List Item)
    (h : Running t (record { locals = locals; target = target }) (record { locals = callers; target = r.target } ∷ r.bodies) r.opened items)
    (none : h.own ≡ []) (shows : ShowsFrames (record { slots = under; back = r.back } ∷ r.frames)
    (record { locals = callers; target = r.target } ∷ r.bodies))
    (windows : ShowsWindows (sizes_of (record { slots = slots; back = back } ∷ record { slots = under; back = r.back } ∷ r.frames)) r.windows
    r.opened)
    (lower : OpenedBelow (length (sizes_of (record { slots = under; back = r.back } ∷ r.frames))) r.opened)
    (v : Val) (ty : Ty) (gives : h.body.result ≡ Some ty) (after : List Local) where
  abbrev caller : Frame
  caller = record { locals = callers; target = r.target }

  abbrev gone_frame : Frame
  gone_frame = record { locals = after; target = target }

  popped : AllOwned t.classes store (record { locals = locals; target = target } ∷ caller ∷ r.bodies) r.opened
      → Data t.classes store (gone_frame ∷ caller ∷ r.bodies) r.opened (length managers) r.made
      → Data t.classes store (caller ∷ r.bodies) r.opened (length managers) r.made
  popped owned fits =
      let top = running-top t accepted store (record { locals = locals; target = target }) (caller ∷ r.bodies) r.opened items h owned in
      let are : r.opened ≡ h.under = h.windows_are ∙ ap (λ l. l ++ h.under) none in
      pop-frame t.classes store gone_frame (caller ∷ r.bodies) r.opened (length managers) r.made fits
      (subst (λ q. AllOwners q (λ p. leads_into t.classes store (caller ∷ r.bodies) p
      ≡ leads_into t.classes store (gone_frame ∷ caller ∷ r.bodies) p)) (sym are)
      (AllOwners-map h.under (IsElsewhere (length (caller ∷ r.bodies))) (λ p. leads_into t.classes store (caller ∷ r.bodies) p
      ≡ leads_into t.classes store (gone_frame ∷ caller ∷ r.bodies) p)
      (elsewhere-leads t.classes store gone_frame (caller ∷ r.bodies)) top.elsewhere))

  -- a frame that waits begins its calling statement
  abbrev Waiting : Type 0
  Waiting = Waits t.classes h.beneath.0 caller (length r.bodies) h.beneath.1 h.beneath.3 h.body target

  waiting_begun : Data t.classes store (caller ∷ r.bodies) r.opened (length managers) r.made → (w : Waiting)
      → Begun t r store under callers managers w.spot.env
  waiting_begun fits w =
      let b = h.beneath in
      let run : Running t caller r.bodies r.opened (Do (stmt w.line w.kind) ∷ (b.3 ++ b.4)) = record {
        body = b.0;
        own = b.1;
        under = b.2;
        windows_are = h.windows_are ∙ ap (λ l. l ++ h.under) none ∙ b.5;
        point = w.point;
        spot = w.spot;
        spot_is = w.spot_is;
        stands = w.stands;
        first = Do (stmt w.line w.kind);
        more = b.3;
        begins = w.begins;
        rest = b.4;
        items_are = refl;
        beneath = b.8;
      } in
      let there = windows_below (sizes_of (record { slots = under; back = r.back } ∷ r.frames)) (length slots) r.windows r.opened lower
      (subst (λ k. ShowsWindows k r.windows r.opened)
      (sizes-more (record { slots = slots; back = back }) (record { slots = under; back = r.back } ∷ r.frames)) windows) in
      begun_of t accepted r store under callers managers w.spot.env shows there (Do (stmt w.line w.kind) ∷ (b.3 ++ b.4)) run refl fits

  taken_by : Data t.classes store (caller ∷ r.bodies) r.opened (length managers) r.made → Meets store r.opened ty v
      → OwnsFreshAs t.classes store (caller ∷ r.bodies) ty v
      → (k : Target) → k ≡ target → TargetNeeds (lowered t) k callers v (work r store under managers input).machine
  taken_by fits meets fresh (Declares x w) is = by_waiting h.beneath.7
    where
      by_waiting : Waiting ⊎ WaitsEmpty t h.beneath.0 caller h.beneath.1 h.beneath.3 h.body target
          → nat_le (top_base r.windows) (slots_below r.frames + length callers) ≡ true
      by_waiting (inr w) = absurd (true≢false (ap takes_any (is ∙ w.nothing_taken)))
      by_waiting (inl w) = let begun = waiting_begun fits w in begun.seen (length callers) begun.top.next
  taken_by fits meets fresh Drops is =
      let d = shown fits in
      let m = (work r store under managers input).machine in
      and_from (owned_once m) (loose m v) (owned_once-fits t.classes m (caller ∷ r.bodies) r.opened d)
      (loose-fits t.classes m (caller ∷ r.bodies) r.opened r.opened d (λ l o. o) ty v meets fresh)
    where
      shown : Data t.classes store (caller ∷ r.bodies) r.opened (length managers) r.made
          → ShowsFit t.classes (work r store under managers input).machine (caller ∷ r.bodies) r.opened
      shown fits = record {
        regions = length managers;
        made = r.made;
        sizes = sizes_of (record { slots = slots; back = back } ∷ record { slots = under; back = r.back } ∷ r.frames);
        fits = fits;
        slots = shows;
        windows = windows;
      }
  taken_by fits meets fresh (Assigns x) is = by_waiting h.beneath.7
    where
      by_waiting : Waiting ⊎ WaitsEmpty t h.beneath.0 caller h.beneath.1 h.beneath.3 h.body target
          → needs (lowered t) (assign_op (scope_of callers) x) (v ∷ []) (work r store under managers input).machine ≡ true
      by_waiting (inr w) = absurd (true≢false (ap takes_any (is ∙ w.nothing_taken)))
      by_waiting (inl w) =
          let b = h.beneath in
          let begun = waiting_begun fits w in
          let judged = body-judged t accepted r.bodies b.2 b.4 b.0 r.target b.8 in
          let a = spot-advance t.classes b.0.result b.0.front judged.out b.0.block b.0.after [] w.point w.spot (stmt w.line w.kind) b.3 judged.free
          judged.right w.spot_is w.begins in
          let free = target_free t.classes a.last w.line w.spot.env a.out w.kind w.calls.made (Assigns x) a.right
          (w.calls.made_is ∙ ap (λ k. Some (w.calls.made, k)) (sym is)) in
          variable-needs t r store under callers managers input w.spot.env begun (lowered t) x free.entry free.there free.not_lent
          (found-named w.spot.env.entries callers x free.entry w.stands.named free.there).type_is free.may ty
          (free.takes ty (λ k called. call-result t.classes w.spot.env w.calls.made w.calls.cap w.calls.class w.calls.called k w.calls.receiver
          w.calls.called_is called ∙ ap (λ (q : Body). q.result) (sym w.calls.callee_is) ∙ gives)) store under callers managers input v shows.0 refl
          (record { named = w.stands.named; fits = fits; meets = meets; fresh = fresh; keeps = λ b o there is. there })

  pub returned-needs : AllOwned t.classes store (record { locals = locals; target = target } ∷ caller ∷ r.bodies) r.opened
      → Data t.classes store (gone_frame ∷ caller ∷ r.bodies) r.opened (length managers) r.made → Meets store r.opened ty v
      → OwnsFreshAs t.classes store (gone_frame ∷ caller ∷ r.bodies) ty v
      → TargetNeeds (lowered t) target callers v (work r store under managers input).machine
  returned-needs owned fits meets fresh = taken_by (popped owned fits) meets
      (λ n y. let q = fresh n y in (q.0, λ z o. q.1 z (pop-leads t.classes store gone_frame (caller ∷ r.bodies) z n o))) target refl

-- a `return`
pub fit-return : (t : Tree) (accepted : Accepted t) (r : Round) (slots under : List Val) (locals callers : List Local) (back : ℕ) (target : Target)
    (store : List Seen) (managers : List Manager) (input : List ℕ) (line : ℕ) (e : Expr) (j : Item) (rest : List Item)
    → (h : Running t (record { locals = locals; target = target }) (record { locals = callers; target = r.target } ∷ r.bodies) r.opened
    (Do (stmt line (return e)) ∷ j ∷ rest))
    → Data t.classes store (record { locals = locals; target = target } ∷ record { locals = callers; target = r.target } ∷ r.bodies) r.opened
    (length managers) r.made
    → Mirrors t.classes (lowered t) (work (above r under callers back target) store slots managers input).machine
    (state (above r under callers back target) store locals managers input (Do (stmt line (return e)) ∷ j ∷ rest))
    → SameMove t.classes (lowered t) r.output (next t.classes
    (state (above r under callers back target) store locals managers input (Do (stmt line (return e)) ∷ j ∷ rest)))
    (step (lowered t) (work (above r under callers back target) store slots managers input))
fit-return t accepted r slots under locals callers back target store managers input line e j rest h fits shows =
    let top : Frame = record { locals = locals; target = target } in
    let caller : Frame = record { locals = callers; target = r.target } in
    let f : Shown = record { slots = under; back = r.back } in
    let b = body-judged t accepted (caller ∷ r.bodies) h.under h.rest h.body top.target h.beneath in
    let first : h.first ≡ Do (stmt line (return e)) = ap (λ l. unwrap_or (slice_get l 0) (Do (stmt line (return e)))) (sym h.items_are) in
    let begins : h.spot.items ≡ Do (stmt line (return e)) ∷ h.more = h.begins ∙ ap (λ i. i ∷ h.more) first in
    let last = spot-return t.classes h.body.result h.body.front b.out h.body.block h.body.after [] h.point h.spot line e h.more b.free b.right
    h.spot_is begins in
    let none = alone t accepted top (caller ∷ r.bodies) r.opened (Do (stmt line (return e)) ∷ j ∷ rest) h (ap leaves_frame begins) in
    let below = running-beneath t top caller r.bodies r.opened (Do (stmt line (return e)) ∷ j ∷ rest) h none in
    let sizes : suc (length r.bodies) ≡ length (sizes_of (f ∷ r.frames)) =
    ap suc (sym (as_many r.frames r.bodies shows.slots.1.1))
    ∙ sym (length-reverse (map (λ (f : Shown). length f.slots) (f ∷ r.frames)) ∙ length-map (f ∷ r.frames) (λ (f : Shown). length f.slots)) in
    let lower = subst (λ n. OpenedBelow n r.opened) sizes below in
    return-judged t r slots under locals callers back target store managers input line e j rest h.spot.env (Some last.ty) last.out h.stands.named
    fits.values.0 fits.objects shows (ap (at_line line) last.judged) lower
    (beneath-begins t accepted (record { slots = slots; back = back }) f r.frames r.windows top caller r.bodies r.opened
    (Do (stmt line (return e)) ∷ j ∷ rest) shows.slots shows.windows h none)
    (beneath-has t accepted caller r.bodies h.under h.rest h.body target h.beneath)
    (begun_of t accepted (above r under callers back target) store slots locals managers h.spot.env shows.slots shows.windows
    (Do (stmt line (return e)) ∷ j ∷ rest) h refl fits)
    (λ v ty is store_fits meets fresh. returned-needs t accepted r slots under locals callers back target store managers input
    (Do (stmt line (return e)) ∷ j ∷ rest) h none shows.slots.1 shows.windows lower v ty (last.gives ∙ is)
    (cleared (uses locals e) locals) fits.opened.owned store_fits meets fresh)
