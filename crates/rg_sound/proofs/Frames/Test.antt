-- `if` and `while` keep the invariant.
use Rattle.std.proofs.Common.{◌≡◌, refl, sym, ◌∙◌, ap, subst, inl, ℕ, Bool as Truth, true, false, if◌then◌else◌, List, [], ◌∷◌, ◌++◌, length, Option}
use Rattle.std.proofs.Common.{Some, None, Ok, arith}
use Rattle.std.proofs.lemmas.List.{append-nil}
use Rattle.rg_base.specs.declared.ty.Ty.{Ty}
use Rattle.rg_base.specs.declared.ty.Ty.TheVariants.{Bool}
use Rattle.rg_base.specs.declared.fault.Code.TheVariants.{Loop}
use Rattle.rg_base.specs.declared.value.Val.{Val}
use Rattle.rg_tree.specs.Tree.{Tree, Class, Block, Else, no_else, otherwise, Expr, StmtKind, stmt, branch, while}
use Rattle.rg_rules.specs.Answers.{at_line, test}
use Rattle.rg_rules.specs.Environment.{Env, covers}
use Rattle.rg_rules.specs.Expressions.{judge_expr}
use Rattle.rg_rules.specs.Statements.{judge_kind, judge_test, judge_block}
use Rattle.rg_rules.specs.Items.{Item, Do, EndAt, items_of}
use Rattle.rg_rules.specs.Points.{Side, first, second, inner_block, block_end, entered_path}
use Rattle.rg_rules.specs.State.{Local, Frame, State, locals_of, top_locals, with_locals, with_top}
use Rattle.rg_rules.specs.Values.{as_bool}
use Rattle.rg_rules.specs.Evaluation.{computed, uses, cleared}
use Rattle.rg_rules.specs.Steps.{step_kind, begin_block, begin_else}
use Rattle.rg_rules.proofs.Answers.{bind-ok, then-ok, at_line-ok}
use Rattle.rg_rules.proofs.Expression.{judge_expr-below, below-not_iso}
use Rattle.rg_rules.proofs.Uses.{judge_expr-uses}
use Rattle.rg_rules.proofs.Step.{stepped-went, computed-ok}
use Rattle.rg_sound.specs.Frames.{leaves, Named, FramesFit, Running}
use Rattle.rg_sound.specs.Fit.{Fit}
use Rattle.rg_sound.specs.Laws.{StaysFit, BranchKeeps, WhileKeeps}
use Rattle.rg_sound.proofs.Frames.Advance.{running-first, running-advance}
use Rattle.rg_sound.proofs.Frames.Quiet.{allowed-same, quiet-fits}
use Rattle.rg_sound.proofs.Frames.Body.{Begins, items_of-begins}
use Rattle.rg_sound.proofs.Frames.Named.{Named-iso, Named-length}
use Rattle.rg_sound.proofs.Frames.Entry.{Stays, Stays-same}
use Rattle.rg_sound.proofs.Frames.Judge.{judge_test-stays}
use Rattle.rg_sound.proofs.Frames.Spot.{leaves-items_of, deepen, spot-inside}
use Rattle.rg_sound.proofs.Frames.SpotEnd.{branch-parts, branch-stays}
use Rattle.rg_sound.proofs.Frames.Stands.{stands-stays}
use Rattle.rg_sound.proofs.Values.Assign.{Doing, doing, doing-judges}
use Rattle.rg_sound.proofs.Owners.Entrance.{items_of-append}

-- the items at a block's end leave no window but those that are open already
record Tested (k : StmtKind) (line : ℕ) : Type 0 where
  pub no_path : entered_path k ≡ []
  pub leaves_none : (n : ℕ) (rest : List Item) → leaves (block_end n line k ++ rest) ≡ leaves rest
  pub begins : (n : ℕ) (rest : List Item) → Begins (block_end n line k ++ rest)

-- the topmost frame goes into a block of an `if` or a `while`
inside-runs : (t : Tree) (s : State) (line : ℕ) (k : StmtKind) (rest : List Item) (d : Doing t s line k rest) → Tested k line →
    (side : Side) (env : Env) (b : Block) →
    inner_block t.classes d.r.spot.env k side ≡ Some (record { env = env; block = b }) → Stays d.r.spot.env env →
    Running t d.f d.fs s.windows (items_of b (block_end (length d.f.locals) line k ++ rest))
inside-runs t s line k rest d tested side env b opens stays =
    let r = d.r in
    let is = running-first t d.f d.fs s.windows (Do (stmt line k)) rest r in
    let inside = spot-inside t.classes r.body.result r.body.front r.body.block r.body.after [] r.point r.spot line k r.more side
    (record { env = env; block = b })
    d.top.right.free r.spot_is is.0 opens in
    let count = Named-length r.spot.env.entries d.f.locals r.stands.named in
    let mine : List Item = items_of b (block_end (length r.spot.env.entries) line k ++ r.more) in
    let ends : leaves r.spot.items ≡ leaves mine = ap leaves is.0
    ∙ sym (leaves-items_of b (block_end (length r.spot.env.entries) line k ++ r.more) ∙ tested.leaves_none (length r.spot.env.entries) r.more) in
    let n = items_of-begins b (block_end (length r.spot.env.entries) line k ++ r.more) (tested.begins (length r.spot.env.entries) r.more) in
    let enters : r.spot.enters ++ entered_path k ≡ r.spot.enters = ap (λ q. r.spot.enters ++ q) tested.no_path ∙ append-nil r.spot.enters in
    record {
      body = r.body;
      own = r.own;
      under = r.under;
      windows_are = r.windows_are;
      point = deepen side r.point;
      spot = record { env = env; items = mine; enters = r.spot.enters };
      spot_is = inside ∙ ap (λ q. Some (record { env = env; items = mine; enters = q })) enters;
      stands = stands-stays d.f d.f (length d.fs) r.own r.spot env mine r.stands stays ends r.stands.named;
      first = n.first;
      more = n.more;
      begins = n.is;
      rest = r.rest;
      items_are = ap (λ q. items_of b (block_end (length d.f.locals) line k ++ q)) is.1
          ∙ ap (λ q. items_of b (block_end q line k ++ (r.more ++ r.rest))) (sym count)
          ∙ ap (items_of b) (sym (append-assoc (block_end (length r.spot.env.entries) line k) r.more r.rest))
          ∙ items_of-append b (block_end (length r.spot.env.entries) line k ++ r.more) r.rest
          ∙ ap (λ q. q ++ r.rest) n.is;
      beneath = r.beneath;
    }
  where
    append-assoc : (a b c : List Item) → (a ++ b) ++ c ≡ a ++ (b ++ c)
    append-assoc [] b c = refl
    append-assoc (x ∷ a) b c = ap (λ q. x ∷ q) (append-assoc a b c)

-- a test uses nothing up
test-uses : (classes : List Class) (env out : Env) (e : Expr) (locals : List Local) → judge_test classes env e ≡ Ok out → Named env.entries locals →
    uses locals e ≡ []
test-uses classes env out e locals h named =
    let j = bind-ok (judge_expr classes env (Some Bool) e) _ out h in
    let n = below-not_iso j.0.ty Bool refl (judge_expr-below classes env Bool e j.0 j.1) in
    judge_expr-uses classes env locals (Named-iso env locals named) (Some Bool) e j.0 j.1 n

-- and leaves the state
test-state : (t : Tree) (s : State) (line : ℕ) (k : StmtKind) (rest : List Item) (d : Doing t s line k rest) (e : Expr) (out : Env) →
    judge_test t.classes d.r.spot.env e ≡ Ok out →
    (p : State × Val) → computed t.classes (record s { items = rest }) e ≡ Ok p → p.0 ≡ record s { items = rest }
test-state t s line k rest d e out h p c =
    let w = computed-ok t.classes (record s { items = rest }) e p c in
    let none_used = test-uses t.classes d.r.spot.env out e d.f.locals h d.r.stands.named in
    let locals : locals_of (record s { items = rest }) ≡ d.f.locals = ap top_locals d.frames in
    let P : List Local → Type 0 = λ q. uses q e ≡ [] in
    let u : uses (locals_of (record s { items = rest })) e ≡ [] = subst P (sym locals) none_used in
    w.state ∙ ap (λ q. with_locals (record s { items = rest }) (cleared q (locals_of (record s { items = rest })))) u
    ∙ ap (λ (q : List Frame). record s { items = rest; frames = q }) (same s.frames)
  where
    same : (fs : List Frame) → with_top (top_locals fs) fs ≡ fs
    same [] = refl
    same (f ∷ fs) = refl

-- only what is to do changes
items-kept : (t : Tree) (s : State) (line : ℕ) (k : StmtKind) (rest : List Item) (d : Doing t s line k rest) → Fit t s → (items : List Item) →
    FramesFit t (d.f ∷ d.fs) s.windows items →
    StaysFit t s (record s { items = items })
items-kept t s line k rest d fit items h =
    let P : List Frame → Type 0 = λ q. FramesFit t q s.windows items in
    record {
      fit = quiet-fits t s (record s { items = items }) fit
          (record { store = refl; frames = refl; windows = refl; managers = refl; made = refl }) (subst P (sym d.frames) h);
      allowed = allowed-same s (record s { items = items }) refl;
    }

branch-tested : (e : Expr) (a : Block) (other : Else) (line : ℕ) → Tested (branch e a other) line
branch-tested e a other line = record {
  no_path = refl;
  leaves_none = λ n rest. refl;
  begins =
      λ n rest. record { first = EndAt n; more = rest; is = refl };
}

while-tested : (e : Expr) (a : Block) (line : ℕ) → Tested (while e a) line
while-tested e a line = record {
  no_path = refl;
  leaves_none = λ n rest. refl;
  begins =
      λ n rest. record { first = EndAt n; more = Do (stmt line (while e a)) ∷ rest; is = refl };
}

pub branch-keeps : BranchKeeps
branch-keeps e a other line t s u rest acc f is went =
    let k : StmtKind = branch e a other in
    let d = doing t acc s line k rest is f in
    let s0 : State = record s { items = rest } in
    let h = stepped-went line (step_kind t.classes s0 line k) u (rw is at went) in
    let j = doing-judges t s line k rest d in
    let b = branch-parts t.classes j.last line d.r.spot.env j.out e a other j.judged in
    let c = bind-ok (computed t.classes s0 e) _ u h in
    let same : (if as_bool c.0.1 then begin_block c.0.0 a else begin_else c.0.0 other) ≡ u = grind arith in
    let state = test-state t s line k rest d e b.front b.tested c.0 c.1 in
    let now : (if as_bool c.0.1 then begin_block s0 a else begin_else s0 other) ≡ u =
    ap (λ (q : State). if as_bool c.0.1 then begin_block q a else begin_else q other) (sym state) ∙ same in
    let stays = judge_test-stays t.classes d.r.spot.env b.front e d.top.spot.distinct b.tested in
    let locals : length (locals_of s0) ≡ length d.f.locals = ap (λ q. length (top_locals q)) d.frames in
    let P : State → Type 0 = λ q. StaysFit t s q in
    subst P now (choose (as_bool c.0.1) d f locals b.front b.tested stays
    (branch-stays t.classes line d.r.spot.env j.out e a other d.top.spot.distinct b))
  where
    into : (x : Block) (d : Doing t s line (branch e a other) rest) → Fit t s → length (locals_of (record s { items = rest })) ≡ length d.f.locals →
        Running t d.f d.fs s.windows (items_of x (EndAt (length d.f.locals) ∷ rest)) → StaysFit t s (begin_block (record s { items = rest }) x)
    into x d fit locals run =
        let P : ℕ → Type 0 = λ n. StaysFit t s (record s { items = items_of x (EndAt n ∷ rest) }) in
        subst P (sym locals) (items-kept t s line (branch e a other) rest d fit (items_of x (EndAt (length d.f.locals) ∷ rest)) (inl run))

    other_block : (o : Else) → o ≡ other → (d : Doing t s line (branch e a other) rest) → Fit t s →
        length (locals_of (record s { items = rest })) ≡ length d.f.locals → (front : Env) →
        judge_test t.classes d.r.spot.env e ≡ Ok front → Stays d.r.spot.env front → StaysFit t s (begin_else (record s { items = rest }) o)
    other_block no_else same d fit locals front tested stays =
        items-kept t s line (branch e a other) rest d fit rest
        (inl (running-advance t d.f d.f d.fs s.windows line (branch e a other) rest d.r d.top.right refl refl
        (λ last at out judged ends. stands-stays d.f d.f (length d.fs) d.r.own d.r.spot out d.r.more d.r.stands
        (branch-stays t.classes at d.r.spot.env out e a other d.top.spot.distinct
        (branch-parts t.classes last at d.r.spot.env out e a other judged)) ends d.r.stands.named)))
    other_block (otherwise x) same d fit locals front tested stays =
        let opens : inner_block t.classes d.r.spot.env (branch e a (otherwise x)) second ≡ Some (record { env = front; block = x }) =
        rw tested refl in
        let P : Else → Type 0 = λ o. inner_block t.classes d.r.spot.env (branch e a o) second ≡ Some (record { env = front; block = x }) in
        into x d fit locals (inside-runs t s line (branch e a other) rest d (branch-tested e a other line) second front x (subst P same opens) stays)

    choose : (v : Truth) (d : Doing t s line (branch e a other) rest) → Fit t s →
        length (locals_of (record s { items = rest })) ≡ length d.f.locals → (front : Env) →
        judge_test t.classes d.r.spot.env e ≡ Ok front → Stays d.r.spot.env front → {out : Env} → Stays d.r.spot.env out →
        StaysFit t s (if v then begin_block (record s { items = rest }) a else begin_else (record s { items = rest }) other)
    choose true d fit locals front tested stays x =
        into a d fit locals (inside-runs t s line (branch e a other) rest d (branch-tested e a other line) first front a (rw tested refl) stays)
    choose false d fit locals front tested stays x = other_block other refl d fit locals front tested stays

pub while-keeps : WhileKeeps
while-keeps e a line t s u rest acc f is went =
    let k : StmtKind = while e a in
    let d = doing t acc s line k rest is f in
    let s0 : State = record s { items = rest } in
    let h = stepped-went line (step_kind t.classes s0 line k) u (rw is at went) in
    let j = doing-judges t s line k rest d in
    let b = bind-ok (at_line line (judge_test t.classes d.r.spot.env e)) _ j.out j.judged in
    let tested = at_line-ok line (judge_test t.classes d.r.spot.env e) b.0 b.1 in
    let c = bind-ok (computed t.classes s0 e) _ u h in
    let same : (if as_bool c.0.1 then begin_block (record (c.0.0) { items = Do (stmt line k) ∷ rest }) a else c.0.0) ≡ u = grind arith in
    let state = test-state t s line k rest d e b.0 tested c.0 c.1 in
    let now : (if as_bool c.0.1 then begin_block (record s { items = Do (stmt line k) ∷ rest }) a else s0) ≡ u =
    ap (λ (q : State). if as_bool c.0.1 then begin_block (record q { items = Do (stmt line k) ∷ rest }) a else q) (sym state) ∙ same in
    let stays = judge_test-stays t.classes d.r.spot.env b.0 e d.top.spot.distinct tested in
    let locals : length (locals_of s0) ≡ length d.f.locals = ap (λ q. length (top_locals q)) d.frames in
    let P : State → Type 0 = λ q. StaysFit t s q in
    subst P now (choose (as_bool c.0.1) d f locals b.0 tested stays)
  where
    choose : (v : Truth) (d : Doing t s line (while e a) rest) → Fit t s → length (locals_of (record s { items = rest })) ≡ length d.f.locals →
        (front : Env) →
        judge_test t.classes d.r.spot.env e ≡ Ok front → Stays d.r.spot.env front →
        StaysFit t s (if v then begin_block (record s { items = Do (stmt line (while e a)) ∷ rest }) a else record s { items = rest })
    choose true d fit locals front tested stays =
        let run = inside-runs t s line (while e a) rest d (while-tested e a line) first front a (rw tested refl) stays in
        let P : ℕ → Type 0 = λ n. StaysFit t s (record s { items = items_of a (EndAt n ∷ Do (stmt line (while e a)) ∷ rest) }) in
        subst P (sym locals) (items-kept t s line (while e a) rest d fit
        (items_of a (EndAt (length d.f.locals) ∷ Do (stmt line (while e a)) ∷ rest)) (inl run))
    choose false d fit locals front tested stays =
        items-kept t s line (while e a) rest d fit rest (inl (running-advance t d.f d.f d.fs s.windows line (while e a) rest d.r d.top.right refl refl
        (λ last at out judged ends. stands-stays d.f d.f (length d.fs) d.r.own d.r.spot out d.r.more d.r.stands
        (while-stays last at d.r.spot.env out judged) ends d.r.stands.named)))
      where
        while-stays : (last : Option Ty) (at : ℕ) (env out : Env) → judge_kind t.classes last at env (while e a) ≡ Ok out → Stays env out
        while-stays last at env out h =
            let f = bind-ok (at_line at (judge_test t.classes env e)) _ out h in
            let x = bind-ok (judge_block t.classes None f.0 a) _ out f.2 in
            let c = then-ok (at_line at (test (covers env x.0) Loop)) _ out x.2 in
            let o : env ≡ out = grind arith in rw (← o) (Stays-same env)
