-- `let x: T = r` and `x = r` keep the invariant, where what r computes to fits.
use Rattle.std.proofs.Common.{◌≡◌, refl, sym, subst, inl, ℕ, true, List, [], ◌∷◌, ◌++◌, length, Option, Some, Ok, arith}
use Rattle.rg_base.specs.declared.ty.Ty.{Ty}
use Rattle.rg_base.specs.declared.ty.Ty.TheVariants.{Int, Bool}
use Rattle.rg_base.specs.declared.value.Val.{Val}
use Rattle.rg_base.specs.declared.value.Val.TheVariants as val
use Rattle.rg_base.specs.Input.{NextNumber, found, malformed, at_end, next_number}
use Rattle.rg_tree.specs.Tree.{Name, Variable, Ty as Written, Expr, Right, value, read, more, StmtKind, declare, assign, stmt, Class, Tree}
use Rattle.rg_rules.specs.Acceptance.{Accepted}
use Rattle.rg_rules.specs.Capabilities.{below}
use Rattle.rg_rules.specs.Types.{type_of}
use Rattle.rg_rules.specs.Environment.{Env, with_variable}
use Rattle.rg_rules.specs.Expressions.{Judged}
use Rattle.rg_rules.specs.Rights.{judge_right}
use Rattle.rg_rules.specs.Statements.{judge_kind, judge_declare, judge_assign}
use Rattle.rg_rules.specs.Items.{Item, Do}
use Rattle.rg_rules.specs.State.{Local, Target, Declares, Assigns, Frame, State, set_in, add_local, put_local}
use Rattle.rg_rules.specs.RightSides.{Use, with_right, taken, is_left}
use Rattle.rg_rules.specs.Evaluation.{computed}
use Rattle.rg_rules.specs.Steps.{step_kind}
use Rattle.rg_rules.proofs.Answers.{bind-ok, at_line-ok}
use Rattle.rg_rules.proofs.Header.{good_type-type_of}
use Rattle.rg_rules.proofs.Expression.{against-ok, against-below, judge_expr-below}
use Rattle.rg_rules.proofs.Point.{spot-advance}
use Rattle.rg_rules.proofs.Step.{stepped-went}
use Rattle.rg_sound.specs.OpenRegions.{AllOwned}
use Rattle.rg_sound.specs.Bridges.{BridgesFit}
use Rattle.rg_sound.specs.Frames.{Named, FramesFit, Running, Stands}
use Rattle.rg_sound.specs.Fit.{Fit}
use Rattle.rg_sound.specs.Laws.{KindKeeps}
use Rattle.rg_sound.proofs.Frames.Advance.{running-first, running-advance}
use Rattle.rg_sound.proofs.Frames.Quiet.{running-do, active-allowed, allowed-over}
use Rattle.rg_sound.proofs.Frames.Named.{Named-set_in}
use Rattle.rg_sound.proofs.Frames.JudgeRight.{judge_right-stays}
use Rattle.rg_sound.proofs.Frames.Judge.{judge_declare-parts, judge_assign-parts, judge_assign-stays}
use Rattle.rg_sound.proofs.Owners.Data.{Data, fit-data, data-fit}
use Rattle.rg_sound.proofs.Owners.Bridge.{types-snoc, named-types, bridges-top}
use Rattle.rg_sound.proofs.Frames.Stands.{stands-stays}
use Rattle.rg_sound.proofs.Frames.Top.{Top, running-top}
use Rattle.rg_sound.proofs.Values.Right.{Gives, expression-gives, quiet-gives}
use Rattle.rg_sound.proofs.Values.Local.{declare-data, declare-stands, assign-data}

-- a state whose topmost frame is to do a statement
pub record Doing (t : Tree) (s : State) (line : ℕ) (k : StmtKind) (later : List Item) : Type 0 where
  pub f : Frame
  pub fs : List Frame
  pub frames : s.frames ≡ f ∷ fs
  pub r : Running t f fs s.windows (Do (stmt line k) ∷ later)
  pub top : Top t f fs s.windows (Do (stmt line k) ∷ later) r
  pub fits : Data t.classes s.store (f ∷ fs) s.windows (length s.managers) s.windows_made
  pub bridged : BridgesFit t.classes s.store (f ∷ fs) s.windows
  pub items_are : s.items ≡ Do (stmt line k) ∷ later

pub doing : (t : Tree) → Accepted t → (s : State) (line : ℕ) (k : StmtKind) (later : List Item) → s.items ≡ Do (stmt line k) ∷ later → Fit t s →
    Doing t s line k later
doing t a s line k later is fit = by_frames s.frames refl
  where
    by_frames : (fs : List Frame) → s.frames ≡ fs → Doing t s line k later
    by_frames [] e = let P : List Frame → Type 0 = λ q. FramesFit t q s.windows s.items in absurd (subst P e fit.frames)
    by_frames (f ∷ fs) e =
        let P : List Frame → Type 0 = λ q. FramesFit t q s.windows s.items in
        let Q : List Item → Type 0 = λ q. FramesFit t (f ∷ fs) s.windows q in
        let R : List Frame → Type 0 = λ q. AllOwned t.classes s.store q s.windows in
        let S : List Frame → Type 0 = λ q. Data t.classes s.store q s.windows (length s.managers) s.windows_made in
        let r = running-do t f fs s.windows line k later (subst Q is (subst P e fit.frames)) in
        record {
          f = f;
          fs = fs;
          frames = e;
          r = r;
          top = running-top t a s.store f fs s.windows (Do (stmt line k) ∷ later) r (subst R e fit.opened.owned);
          fits = subst S e (fit-data t s fit);
          bridged = (let B : List Frame → Type 0 = λ q. BridgesFit t.classes s.store q s.windows in subst B e fit.bridges);
          items_are = is;
        }

-- the statement that a frame does has no fault
pub record Judges (t : Tree) (s : State) (line : ℕ) (k : StmtKind) (later : List Item) (d : Doing t s line k later) : Type 0 where
  pub last : Option Ty
  pub out : Env
  pub judged : judge_kind t.classes last line d.r.spot.env k ≡ Ok out

pub doing-judges : (t : Tree) (s : State) (line : ℕ) (k : StmtKind) (later : List Item) (d : Doing t s line k later) → Judges t s line k later d
doing-judges t s line k later d =
    let is = running-first t d.f d.fs s.windows (Do (stmt line k)) later d.r in
    let n = spot-advance t.classes d.r.body.result d.r.body.front d.top.right.out d.r.body.block d.r.body.after [] d.r.point d.r.spot (stmt line k)
    d.r.more
    d.top.right.free d.top.right.judged d.r.spot_is is.0 in
    record { last = n.last; out = n.out; judged = n.right }

-- what a right side computed to, and where it goes
pub record Righted (t : Tree) (s : State) (f : Frame) (fs : List Frame) (env : Env) (put : Use) (ty : Ty) (u : State) : Type 0 where
  pub after : State
  pub v : Val
  pub state : u ≡ put after v
  pub gives : Gives t s f fs env after ty v

-- a right side without a fault, the type that it has, and what was put
abbrev pub RightGives : Right → Type 0
RightGives r = (t : Tree) (s : State) (f : Frame) (fs : List Frame) (later : List Item) (run : Running t f fs s.windows later) →
    Top t f fs s.windows later run → s.frames ≡ f ∷ fs → Data t.classes s.store (f ∷ fs) s.windows (length s.managers) s.windows_made →
    (target : Target) (put : Use)
    (wanted : Ty) (j : Judged) → judge_right t.classes run.spot.env wanted r ≡ Ok j → (u : State) → with_right t.classes s target put r ≡ Ok u →
    Righted t s f fs run.spot.env put j.ty u

pub value-righted : (e : Expr) → RightGives (value e)
value-righted e t s f fs later run top at d target put wanted j typed u h =
    let c = bind-ok (computed t.classes s e) _ u h in
    let is : put c.0.0 c.0.1 ≡ u = grind arith in
    record { after = c.0.0; v = c.0.1; state = sym is; gives = expression-gives t s f fs later run top at d (Some wanted) e j typed c.0 c.1 }

pub more-righted : RightGives more
more-righted t s f fs later run top at d target put wanted j typed u h =
    let a = against-ok (Some wanted) Bool run.spot.env j typed in
    let v : Val = val.Bool (is_left (next_number s.input)) in
    let is : put s v ≡ u = grind arith in
    let P : Ty → Type 0 = λ q. Gives t s f fs run.spot.env s q v in
    record {
      after = s;
      v = v;
      state = sym is;
      gives = subst P (sym a.ty)
          (quiet-gives t s s f fs run.spot.env Bool v at run.stands.named refl d refl tt);
    }

read_by : (t : Tree) (s : State) (f : Frame) (fs : List Frame) (env : Env) (put : Use) (n : NextNumber) (u : State) → s.frames ≡ f ∷ fs →
    Named env.entries f.locals → Data t.classes s.store (f ∷ fs) s.windows (length s.managers) s.windows_made → taken s put n ≡ Ok u →
    Righted t s f fs env put Int u
read_by t s f fs env put (found z rest) u at named d h =
    let is : put (record s { input = rest }) (val.Int z) ≡ u = grind arith in
    record {
      after = record s { input = rest };
      v = val.Int z;
      state = sym is;
      gives = quiet-gives t s (record s { input = rest }) f fs env Int (val.Int z) at named refl d refl tt;
    }
read_by t s f fs env put malformed u at named d h = grind arith
read_by t s f fs env put at_end u at named d h = grind arith

pub read-righted : RightGives read
read-righted t s f fs later run top at d target put wanted j typed u h =
    let a = against-ok (Some wanted) Int run.spot.env j typed in
    let P : Ty → Type 0 = λ q. Righted t s f fs run.spot.env put q u in
    subst P (sym a.ty) (read_by t s f fs run.spot.env put (next_number s.input) u at run.stands.named d h)

-- the type of a right side is below the expected one
abbrev pub RightBelow : Right → Type 0
RightBelow r = (classes : List Class) (env : Env) (wanted : Ty) (j : Judged) → judge_right classes env wanted r ≡ Ok j → below j.ty wanted ≡ true

-- `let x: T = r`, where r is no call
pub declare-by : (r : Right) → RightGives r → RightBelow r → (x : Name) (ty : Written) → KindKeeps (declare x ty r)
declare-by r gives is_below x ty line t s u rest a fit is went =
    let d = doing t a s line (declare x ty r) rest is fit in
    let s0 : State = record s { items = rest } in
    let h = stepped-went line (step_kind t.classes s0 line (declare x ty r)) u (rw is at went) in
    let j = doing-judges t s line (declare x ty r) rest d in
    let p = judge_declare-parts t.classes d.r.spot.env j.out x ty r (at_line-ok line (judge_declare t.classes d.r.spot.env x ty r) j.out j.judged) in
    let declared = good_type-type_of t.classes ty p.declared p.good in
    let g = gives t s0 d.f d.fs (Do (stmt line (declare x ty r)) ∷ rest) d.r d.top d.frames d.fits (Declares x (type_of t.classes ty))
    (add_local (Some x) (type_of t.classes ty))
    p.declared p.judged p.typed u h in
    let b = is_below t.classes d.r.spot.env p.declared p.judged p.typed in
    let fits = declare-data t s0 d.f d.fs (Do (stmt line (declare x ty r)) ∷ rest) d.r d.top g.after p.judged.ty g.v g.gives (Some x) p.declared b in
    let P : Ty → Type 0 = λ q. Data t.classes g.after.store (record d.f {
      locals =
          g.gives.locals ++ record { name = Some x; ty = q; value = g.v } ∷ [];
    } ∷ d.fs) s.windows (length g.after.managers) s.windows_made in
    let l : Local = record { name = Some x; ty = type_of t.classes ty; value = g.v } in
    let f' : Frame = record d.f { locals = g.gives.locals ++ l ∷ [] } in
    let frames : (add_local (Some x) (type_of t.classes ty) g.after g.v).frames ≡ f' ∷ d.fs = rw (g.gives.frames) refl in
    let run : Running t f' d.fs s.windows rest = running-advance t d.f f' d.fs s.windows line (declare x ty r) rest d.r d.top.right refl refl
    (λ last at out judged ends.
    let q = judge_declare-parts t.classes d.r.spot.env out x ty r (at_line-ok at (judge_declare t.classes d.r.spot.env x ty r) out judged) in
    let stays = judge_right-stays t.classes d.r.spot.env q.declared r q.judged d.top.spot.distinct q.typed in
    let same = good_type-type_of t.classes ty q.declared q.good in
    let Q : Ty → Type 0 = λ z. Stands f' (length d.fs) d.r.own (record {
      env = with_variable q.judged.env (Some x) z true;
      items = d.r.more;
      enters = d.r.spot.enters;
    }) in
    let R : Env → Type 0 = λ z. Stands f' (length d.fs) d.r.own (record { env = z; items = d.r.more; enters = d.r.spot.enters }) in
    subst R (sym q.out_is) (subst Q (sym same) (declare-stands t s d.f d.fs (Do (stmt line (declare x ty r)) ∷ rest)
    d.r d.top g.gives.locals g.gives.named q.judged.env stays
    (Some x) (type_of t.classes ty) g.v d.r.more ends))) in
    rw g.state (record {
      fit = data-fit t (add_local (Some x) (type_of t.classes ty) g.after g.v)
          (let Q : List Frame → Type 0 = λ q. FramesFit t q (g.after.windows) (g.after.items) in
          subst Q (sym frames) (rw (g.gives.windows, g.gives.items) (inl run)))
          (let Q : List Frame → Type 0 = λ q. Data t.classes g.after.store q g.after.windows (length g.after.managers) g.after.windows_made in
          subst Q (sym frames) (rw (g.gives.windows, g.gives.made) (subst P declared fits)))
          (let B : List Frame → Type 0 = λ q. BridgesFit t.classes g.after.store q g.after.windows in
          subst B (sym frames) (rw (g.gives.windows) (bridges-top t.classes s.store g.after.store d.f f' d.fs s.windows g.gives.classes
          (types-snoc d.f.locals g.gives.locals l (named-types d.r.spot.env.entries d.f.locals g.gives.locals d.r.stands.named g.gives.named))
          d.bridged)));
      allowed = active-allowed s (add_local (Some x) (type_of t.classes ty) g.after g.v) (stmt line (declare x ty r)) rest is
          (allowed-over s0 s g.after (add_local (Some x) (type_of t.classes ty) g.after g.v) refl refl refl g.gives.allowed);
    })

-- `x = r`, where r is no call
pub assign-by : (r : Right) → RightGives r → RightBelow r → (x : Variable) → KindKeeps (assign (record { base = x; fields = [] }) r)
assign-by r gives is_below x line t s u rest a fit is went =
    let k : StmtKind = assign (record { base = x; fields = [] }) r in
    let d = doing t a s line k rest is fit in
    let s0 : State = record s { items = rest } in
    let h = stepped-went line (step_kind t.classes s0 line k) u (rw is at went) in
    let j = doing-judges t s line k rest d in
    let p = judge_assign-parts t.classes d.r.spot.env j.out x r (at_line-ok line (judge_assign t.classes d.r.spot.env x [] r) j.out j.judged) in
    let g = gives t s0 d.f d.fs (Do (stmt line k) ∷ rest) d.r d.top d.frames d.fits (Assigns x) (put_local x) p.entry.ty p.judged p.typed u h in
    let b = is_below t.classes d.r.spot.env p.entry.ty p.judged p.typed in
    let fits = assign-data t s0 d.f d.fs (Do (stmt line k) ∷ rest) d.r d.top g.after p.judged.ty g.v g.gives x p.entry p.there p.at p.not_lent b in
    let f' : Frame = record d.f { locals = set_in x g.v g.gives.locals } in
    let frames : (put_local x g.after g.v).frames ≡ f' ∷ d.fs = rw (g.gives.frames) refl in
    let run : Running t f' d.fs s.windows rest = running-advance t d.f f' d.fs s.windows line k rest d.r d.top.right refl refl
    (λ last at out judged ends.
    let stays = judge_assign-stays t.classes d.r.spot.env out x [] r d.top.spot.distinct
    (at_line-ok at (judge_assign t.classes d.r.spot.env x [] r) out judged) in
    stands-stays d.f f' (length d.fs) d.r.own d.r.spot out d.r.more d.r.stands stays ends
    (Named-set_in x g.v d.r.spot.env.entries g.gives.locals g.gives.named)) in
    rw g.state (record {
      fit = data-fit t (put_local x g.after g.v)
          (let Q : List Frame → Type 0 = λ q. FramesFit t q (g.after.windows) (g.after.items) in
          subst Q (sym frames) (rw (g.gives.windows, g.gives.items) (inl run)))
          (let Q : List Frame → Type 0 = λ q. Data t.classes g.after.store q g.after.windows (length g.after.managers) g.after.windows_made in
          subst Q (sym frames) (rw (g.gives.windows, g.gives.made) fits))
          (let B : List Frame → Type 0 = λ q. BridgesFit t.classes g.after.store q g.after.windows in
          subst B (sym frames) (rw (g.gives.windows) (bridges-top t.classes s.store g.after.store d.f f' d.fs s.windows g.gives.classes
          (named-types d.r.spot.env.entries d.f.locals (set_in x g.v g.gives.locals) d.r.stands.named
          (Named-set_in x g.v d.r.spot.env.entries g.gives.locals g.gives.named)) d.bridged)));
      allowed = active-allowed s (put_local x g.after g.v) (stmt line k) rest is
          (allowed-over s0 s g.after (put_local x g.after g.v) refl refl refl g.gives.allowed);
    })

pub value-below : (e : Expr) → RightBelow (value e)
value-below e classes env wanted j h = judge_expr-below classes env wanted e j h

pub read-below : RightBelow read
read-below classes env wanted j h = against-below wanted Int env j h

pub more-below : RightBelow more
more-below classes env wanted j h = against-below wanted Bool env j h
