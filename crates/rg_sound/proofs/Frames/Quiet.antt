-- Steps that change nothing but what is to do and what was printed keep the invariant: `collect` and `print`.
use Rattle.std.proofs.Common.{◌≡◌, refl, sym, ◌∙◌, ap, subst, inl, inr, ℕ, true, false, List, [], ◌∷◌, ◌++◌, length, Option, None, Ok, slice_get}
use Rattle.std.proofs.Common.{arith}
use Rattle.std.proofs.Common.{option_map}
use Rattle.rg_base.specs.declared.ty.Ty.{Ty}
use Rattle.rg_base.specs.declared.ty.Ty.TheVariants.{Int, Bool as BoolTy, Ref}
use Rattle.rg_base.specs.declared.object.Seen.{Seen}
use Rattle.rg_tree.specs.Tree.{Tree, Stmt, stmt, StmtKind, collect, print, Expr, Class}
use Rattle.rg_rules.specs.Acceptance.{Accepted}
use Rattle.rg_rules.specs.Capabilities.{is_iso, printable}
use Rattle.rg_rules.specs.Environment.{Env}
use Rattle.rg_rules.specs.Expressions.{Judged, judge_expr}
use Rattle.rg_rules.specs.Statements.{judge_kind, judge_print}
use Rattle.rg_rules.specs.Evaluation.{uses, computed}
use Rattle.rg_rules.proofs.Answers.{bind-ok, test-then, at_line-ok}
use Rattle.rg_rules.proofs.Expression.{judge_expr-env}
use Rattle.rg_rules.proofs.Uses.{judge_expr-uses}
use Rattle.rg_rules.proofs.Point.{spot-advance}
use Rattle.rg_rules.proofs.Step.{stepped-went, computed-ok}
use Rattle.rg_rules.specs.Items.{Item, Do, EndAt, LeaveAt, LeaveGiving, Back}
use Rattle.rg_rules.specs.State.{Frame, Window, State, top_locals, with_top}
use Rattle.rg_rules.specs.Steps.{Went, step_kind}
use Rattle.rg_sound.specs.Frames.{FramesFit, Running}
use Rattle.rg_sound.specs.Fit.{Fit}
use Rattle.rg_sound.specs.Writes.{fields_at, Written, WritesActive, AllowedBy, Allowed}
use Rattle.rg_sound.specs.Laws.{CollectKeeps, PrintKeeps}
use Rattle.rg_sound.proofs.Frames.Body.{body-right}
use Rattle.rg_sound.proofs.Frames.Advance.{running-first, running-advance, stands_on}
use Rattle.rg_sound.proofs.Frames.Named.{Named-iso}

-- a state with the same store writes nothing
nothing-written : (s u : State) → u.store ≡ s.store → (a : ℕ) → Written s u a → ⊥
nothing-written s u e a w = w.differ (ap (λ q. fields_at q a) e ∙ ap (option_map (λ (o : Seen). o.fields)) w.there)

pub writes-same : (s u : State) → u.store ≡ s.store → WritesActive s u
writes-same s u e a w = absurd (nothing-written s u e a w)

pub allowed-same : (s u : State) → u.store ≡ s.store → Allowed s u
allowed-same s u e = by s.items
  where
    by : (items : List Item) → AllowedBy items s u
    by [] = writes-same s u e
    by (Do t ∷ rest) = writes-same s u e
    by (EndAt k ∷ rest) = writes-same s u e
    by (LeaveAt k ∷ rest) = writes-same s u e
    by (LeaveGiving line k w ∷ rest) = λ a w. absurd (nothing-written s u e a w)
    by (Back ∷ rest) = writes-same s u e

-- a statement writes what is active
pub active-allowed : (s u : State) (t : Stmt) (rest : List Item) → s.items ≡ Do t ∷ rest → WritesActive s u → Allowed s u
active-allowed s u t rest is h = let P : List Item → Type 0 = λ q. AllowedBy q s u in subst P (sym is) h

-- what is to do where a statement stands: its frame runs
pub running-do : (t : Tree) (f : Frame) (fs : List Frame) (ws : List Window) (line : ℕ) (k : StmtKind) (later : List Item) →
    FramesFit t (f ∷ fs) ws (Do (stmt line k) ∷ later) → Running t f fs ws (Do (stmt line k) ∷ later)
running-do t f fs ws line k later (inl r) = r
running-do t f fs ws line k later (inr e) = let no : Do (stmt line k) ∷ later ≡ [] = e.no_item in grind arith

collect_runs : (t : Tree) → Accepted t → (frames : List Frame) (ws : List Window) (line : ℕ) (later : List Item) →
    FramesFit t frames ws (Do (stmt line collect) ∷ later) → FramesFit t frames ws later
collect_runs t a [] ws line later h = absurd h
collect_runs t a (f ∷ fs) ws line later h =
    let r = running-do t f fs ws line collect later h in
    let right = body-right t a fs r.under r.rest r.body f.target r.beneath in
    inl (running-advance t f f fs ws line collect later r right refl refl
    (λ last at out j ends. stands_on f (length fs) r.own r.spot out r.more (let e : r.spot.env ≡ out = grind arith in sym e) ends r.stands))

-- nothing but the items changes, so that all other parts are those of the old state
collect_fits : (t : Tree) → Accepted t → (s : State) (line : ℕ) (later : List Item) → s.items ≡ Do (stmt line collect) ∷ later →
    Fit t s → Fit t (record s { items = later })
collect_fits t a s line later e f = record {
  frames = collect_runs t a s.frames s.windows line later (rw e at f.frames);
  values = f.values;
  objects = f.objects;
  opened = f.opened;
  bridges = f.bridges;
  forest = f.forest;
  numbers = f.numbers;
}

pub went_is : (s u : State) → Went s ≡ Went u → s ≡ u
went_is s u e = grind arith

pub collect-keeps : CollectKeeps
collect-keeps line t s u rest a f e went =
    let now : Went (record s { items = rest }) ≡ Went u = rw e at went in
    let is = went_is (record s { items = rest }) u now in
    rw (← is) (record { fit = collect_fits t a s line rest e f; allowed = allowed-same s (record s { items = rest }) refl })

-- two states with the same store, frames and windows, and the same numbers given
pub record SameData (s u : State) : Type 0 where
  pub store : u.store ≡ s.store
  pub frames : u.frames ≡ s.frames
  pub windows : u.windows ≡ s.windows
  pub managers : u.managers ≡ s.managers
  pub made : u.windows_made ≡ s.windows_made

pub quiet-fits : (t : Tree) (s u : State) → Fit t s → SameData s u → FramesFit t s.frames s.windows u.items → Fit t u
quiet-fits t s u f e h = record {
  frames = rw (e.frames, e.windows) h;
  values = rw (e.store, e.frames, e.windows) f.values;
  objects = rw (e.store, e.windows) f.objects;
  opened = rw (e.store, e.frames, e.windows) f.opened;
  bridges = rw (e.store, e.frames, e.windows) f.bridges;
  forest = rw (e.store, e.frames) f.forest;
  numbers = rw (e.store, e.windows, e.managers, e.made) f.numbers;
}

-- the variables of the topmost frame put back
pub with_top-same : (fs : List Frame) → with_top (top_locals fs) fs ≡ fs
with_top-same [] = refl
with_top-same (f ∷ fs) = refl

printable-not_iso : (t : Ty) → printable t ≡ true → is_iso t ≡ false
printable-not_iso Int h = refl
printable-not_iso BoolTy h = refl
printable-not_iso (Ref k c) h = grind arith

-- a printed expression leaves the environment, and uses no variable up
record Printed (classes : List Class) (env : Env) (e : Expr) (out : Env) : Type 0 where
  pub judged : Judged
  pub typed : judge_expr classes env None e ≡ Ok judged
  pub not_iso : is_iso judged.ty ≡ false
  pub same : out ≡ env

printed : (classes : List Class) (env : Env) (last : Option Ty) (line : ℕ) (e : Expr) (out : Env) →
    judge_kind classes last line env (print e) ≡ Ok out →
    Printed classes env e out
printed classes env last line e out h =
    let r = at_line-ok line (judge_print classes env e) out h in
    let p = bind-ok (judge_expr classes env None e) _ out r in
    let q = test-then (printable p.0.ty) _ _ out p.2 in
    let same : p.0.env ≡ out = grind arith in
    let n = printable-not_iso p.0.ty q.0 in
    record { judged = p.0; typed = p.1; not_iso = n; same = sym same ∙ judge_expr-env classes env None e p.0 p.1 n }

-- the frame that prints goes on, and its variables stay
record Prints (t : Tree) (frames : List Frame) (ws : List Window) (later : List Item) (e : Expr) : Type 0 where
  pub fit : FramesFit t frames ws later
  pub none : uses (top_locals frames) e ≡ []

print_runs : (t : Tree) → Accepted t → (frames : List Frame) (ws : List Window) (line : ℕ) (e : Expr) (later : List Item) →
    FramesFit t frames ws (Do (stmt line (print e)) ∷ later) → Prints t frames ws later e
print_runs t a [] ws line e later h = absurd h
print_runs t a (f ∷ fs) ws line e later h =
    let r = running-do t f fs ws line (print e) later h in
    let right = body-right t a fs r.under r.rest r.body f.target r.beneath in
    let is = running-first t f fs ws (Do (stmt line (print e))) later r in
    let n = spot-advance t.classes r.body.result r.body.front right.out r.body.block r.body.after [] r.point r.spot (stmt line (print e))
    r.more right.free right.judged r.spot_is is.0 in
    let p = printed t.classes r.spot.env n.last line e n.out n.right in
    record {
      fit = inl (running-advance t f f fs ws line (print e) later r right refl refl
          (λ last at out j ends. stands_on f (length fs) r.own r.spot out r.more (printed t.classes r.spot.env last at e out j).same ends r.stands));
      none = judge_expr-uses t.classes r.spot.env f.locals (Named-iso r.spot.env f.locals r.stands.named) None e p.judged p.typed p.not_iso;
    }

pub print-keeps : PrintKeeps
print-keeps e line t s u rest a f is went =
    let h = print_runs t a s.frames s.windows line e rest (rw is at f.frames) in
    let now = stepped-went line (step_kind t.classes (record s { items = rest }) line (print e)) u (rw is at went) in
    let c = bind-ok (computed t.classes (record s { items = rest }) e) _ u now in
    let w = computed-ok t.classes (record s { items = rest }) e c.0 c.1 in
    let same : record (c.0.0) { output = s.output ++ c.0.1 ∷ [] } ≡ u = grind arith in
    let state : c.0.0 ≡ record s { items = rest } = w.state ∙ rw (h.none, with_top-same s.frames) refl in
    let all : record s { items = rest; output = s.output ++ c.0.1 ∷ [] } ≡ u =
    ap (λ (q : State). record q { output = s.output ++ c.0.1 ∷ [] }) (sym state) ∙ same in
    rw (← all) (record {
      fit = quiet-fits t s (record s { items = rest; output = s.output ++ c.0.1 ∷ [] }) f
          (record { store = refl; frames = refl; windows = refl; managers = refl; made = refl }) h.fit;
      allowed = allowed-same s (record s { items = rest; output = s.output ++ c.0.1 ∷ [] }) refl;
    })

-- what is allowed speaks of the two stores and of the windows alone
pub allowed-over : (s s' u u' : State) → s'.store ≡ s.store → s'.windows ≡ s.windows → u'.store ≡ u.store → WritesActive s u →
    WritesActive s' u'
allowed-over s s' u u' a b c h x w =
    let v : Written s u x = record {
      object = w.object;
      there = ap (λ q. slice_get q x) (sym a) ∙ w.there;
      differ = λ e. w.differ (ap (λ q. fields_at q x) c ∙ e);
    } in
    rw b (h x v)
