-- A statement of an accepted program: its step of the stack machine is one of the machine that never frees.
use Rattle.std.proofs.Common.{◌≡◌, ◌+◌, ℕ, suc, true, false, List, [], ◌∷◌, length, map, Option, Some, None, option_map}
use Rattle.std.proofs.Common.{ok_or, Ok, refl, sym, ap, ◌∙◌, arith, subst}
use Rattle.std.specs.Prelude.{not, nat_lt, ◌||◌, ◌&&◌}
use Rattle.std.proofs.Common.{◌≤◌}
use Rattle.std.proofs.lemmas.Option.{none-some, same_Some}
use Rattle.std.proofs.lemmas.List.{length-map, length-reverse}
use Rattle.std.proofs.lemmas.Bool.{and_from, not-true, not_from_false}
use Rattle.rg_base.specs.declared.ty.Ty.{Ty}
use Rattle.rg_base.specs.declared.ty.Ty.TheVariants.{Int, Bool}
use Rattle.rg_base.specs.declared.value.Val.{Val}
use Rattle.rg_base.specs.declared.object.Seen.{Seen}
use Rattle.rg_base.specs.declared.object.Label.TheVariants.{Frozen}
use Rattle.rg_base.specs.declared.words.Manager.{Manager}
use Rattle.rg_base.specs.declared.fault.Code.TheVariants.{Unknown, Mismatch, Return}
use Rattle.rg_tree.specs.Tree.{Name, Ty as Written, Variable, Path, Expr, Call, Right, value, new, new_tmp, new_iso, freeze, merge, read, more}
use Rattle.rg_tree.specs.Tree.{result_of, stmt, StmtKind, declare, assign, assign_element, call, swap, branch, while, enter, print, collect, return}
use Rattle.rg_tree.specs.Tree.{Else, no_else}
use Rattle.rg_tree.specs.Tree.{otherwise, Block, Method, Tree}
use Rattle.rg_rules.specs.Answers.{at_line}
use Rattle.rg_rules.specs.Acceptance.{Accepted}
use Rattle.rg_rules.specs.Capabilities.{is_iso, iso_class, below, same_type, may_write, stays_at_depth, printable}
use Rattle.rg_rules.specs.Types.{type_of, good_type, method_named, method_result, param_types}
use Rattle.rg_rules.specs.Environment.{Env, entry_of, visible, at_depth, is_ready, is_lent}
use Rattle.rg_rules.specs.Paths.{walk_receiver, writable_field, all_but_last, last_field}
use Rattle.rg_rules.specs.Items.{Item, Do}
use Rattle.rg_rules.specs.Bodies.{gives_result, method_body}
use Rattle.rg_rules.specs.Expressions.{Judged, judge_expr}
use Rattle.rg_rules.specs.Rights.{Called as CallJudged, judge_call, judge_right, right_call}
use Rattle.rg_rules.specs.Statements.{judge_test, judge_block, judge_kind, is_call, judge_assign, judge_swap, judge_enter, swapped_field}
use Rattle.rg_rules.specs.State.{Local, Target, Declares, Assigns, Drops, place_in}
use Rattle.rg_rules.specs.Evaluation.{object_at, path_value, value_of, uses, cleared}
use Rattle.rg_rules.specs.Steps.{next}
use Rattle.rg_rules.proofs.Answers.{bind-ok, test-then, ok_or-ok, at_line-ok}
use Rattle.rg_rules.proofs.Acceptance.{Accepted-method}
use Rattle.rg_rules.proofs.Expression.{judge_expr-below, judge_expr-env, number-not_iso}
use Rattle.rg_sound.specs.Values.{Meets, FrameMeets}
use Rattle.rg_sound.specs.Objects.{ObjectsFit}
use Rattle.rg_sound.proofs.Owners.Data.{Data}
use Rattle.rg_sound.proofs.Values.Right.{OwnsFreshAs, below-iso, ready-not_lent}
use Rattle.rg_sound.proofs.Values.Value.{value-meets, Sees, array-at, below-meets}
use Rattle.rg_sound.proofs.Frames.Judge.{judge_assign-element}
use Rattle.rg_sound.proofs.Values.Local.{fresh-as}
use Rattle.rg_sound.specs.Frames.{Named, Running, with_target, assigned_call, call_of}
use Rattle.rg_code.specs.Code.{Code}
use Rattle.rg_code.specs.Lowering.{slot_of, type_in, type_along, used_slots, held_number, lowered, target_class}
use Rattle.rg_code.specs.Places.{scope_of}
use Rattle.rg_stack.specs.Machine.{Frame, slots_below, slot_at}
use Rattle.rg_stack.specs.Needs.{is_closed, owned_once, owns_or_nil, loose}
use Rattle.rg_stack.specs.Given.{given_step as step}
use Rattle.rg_stack.proofs.Mirrors.{Mirrors}
use Rattle.rg_stack.specs.Shows.{ShowsFrames, ShowsWindows, sizes_of}
use Rattle.rg_stack.proofs.Mirrors.{SameMove}
use Rattle.rg_stack.proofs.Walks.Walk.{Agrees, IsTruth, is_shut}
use Rattle.rg_stack.proofs.Walks.Place.{GoesOn, AllGoOn}
use Rattle.rg_stack.proofs.Callers.Frame.{OpenedBelow}
use Rattle.rg_stack.proofs.Walks.Slot.{Has, cleared_slots, slot_place}
use Rattle.rg_stack.proofs.Walks.End.{Round, work, state, UsesUp, middle_whole, keeps_same}
use Rattle.rg_stack.proofs.Needs.Closed.{not_iso-closed, behind-closed}
use Rattle.rg_stack.proofs.Needs.Keep.{base-by}
use Rattle.rg_stack.proofs.Callers.Once.{owned_once-fits, loose-fits}
use Rattle.rg_stack.proofs.Statements.Right.{RightOwes, RightNeeds}
use Rattle.rg_stack.proofs.Statements.Assign.{declare-mirrors, assign-mirrors, put-mirrors, element-mirrors}
use Rattle.rg_stack.proofs.Statements.Block.{branch-mirrors, branch-else-mirrors, while-mirrors, print-mirrors, collect-mirrors}
use Rattle.rg_stack.proofs.Statements.Window.{swap-mirrors, enter-mirrors, enter-field-mirrors}
use Rattle.rg_stack.proofs.Statements.Return.{TargetHas, TargetNeeds, above, return-mirrors}
use Rattle.rg_stack.proofs.Statements.Call.{BodyFits, CallOwes, call-mirrors, declare-call-mirrors, assign-call-mirrors}
use Rattle.rg_stack.proofs.Judgements.Follow.{class_is}
use Rattle.rg_stack.proofs.Judgements.Judge.{Facts, array-agrees, expr-agrees, expr-truth, holder-follows, holder-owes, holder-type}
use Rattle.rg_stack.proofs.Judgements.Judge.{block-goes_on}
use Rattle.rg_stack.proofs.Judgements.Judge.{block-gives}
use Rattle.rg_stack.specs.Effects.{begins_by}
use Rattle.rg_stack.proofs.Callers.Base.{as_many}
use Rattle.rg_stack.proofs.Judgements.Base.{top-begins}
use Rattle.rg_stack.proofs.Judgements.Fit.{facts_of, variable-in_region, variable-there, field-in_region, running-below}
use Rattle.rg_stack.proofs.Judgements.Owes.{call-gives, right-owes, callee_of, class_in, iso_type}
use Rattle.rg_stack.proofs.Judgements.Use.{uses-up, args-up}
use Rattle.rg_stack.proofs.Judgements.Middle.{sees_here, Begun, begun_of, running, shows_fit, right-below, fit_here, right-comes, value-comes}
use Rattle.rg_stack.proofs.Judgements.Middle.{owner-needs, right-needs}
use Rattle.rg_stack.proofs.Judgements.Middle.{receives, receiver-open, shown-room, printed-open, swap-needs, enter_field-needs}
use Rattle.rg_stack.proofs.Judgements.Middle.{variable-needs, field-needs, element-needs}
use Rattle.rg_stack.proofs.Basics.{and-left}

-- a method's body fits its result
fits_by : (t : Tree) (result : Option Written) (m : Method) (env out : Env)
    → judge_block t.classes (option_map (type_of t.classes) result) env m.body ≡ Ok out → gives_result result m.body ≡ true → BodyFits result m.body
fits_by t None m env out h gives = block-goes_on t.classes m.body env out h
fits_by t (Some u) m env out h gives = block-gives t.classes (Some (type_of t.classes u)) m.body env out h gives

pub body-fits : (t : Tree) → Accepted t → (d : ℕ) (x : Name) (m : Method) → method_named t.classes d x ≡ Some m → BodyFits m.result m.body
body-fits t accepted d x m named =
    let p = Accepted-method t accepted d x m named in
    fits_by t m.result m (method_body t.classes d m).front p.out p.body p.gives

module _ (t : Tree) (accepted : Accepted t) (r : Round) (store : List Seen) (slots : List Val) (locals : List Local) (managers : List Manager)
    (input : List ℕ) (line : ℕ) (j : Item) (rest : List Item) (env : Env) where
  abbrev code : Code
  code = lowered t

  -- an object that has a field which may be written isn't frozen
  abbrev pub Live : Type 0
  Live = (x : Variable) (f : Name) (fs : List Name) (ty : Ty) (u : Val) (o : Seen) → writable_field t.classes env x f fs ≡ Ok ty
      → path_value t.classes store locals (record { base = x; fields = all_but_last f fs }) ≡ Ok u → object_at store u ≡ Ok o → o.label ≡ Frozen → ⊥

  -- what the invariant gives where a statement begins: the variables are those of the environment, values meet types, objects fit,
  -- and windows opened in the frames that are there
  pub record Fits : Type 0 where
    pub named : Named env.entries locals
    pub meets : FrameMeets store r.opened (length r.bodies) locals
    pub objects : ObjectsFit t.classes store r.opened
    pub live : Live
    pub below : OpenedBelow (length (sizes_of (record { slots = slots; back = r.back } ∷ r.frames))) r.opened
    pub begins : begins_by r.windows (slots_below r.frames + length locals) ≡ true
    pub begun : Begun t r store slots locals managers env

  abbrev Showing : StmtKind → Type 0
  Showing k = Mirrors t.classes (lowered t) (work r store slots managers input).machine
      (state r store locals managers input (Do (stmt line k) ∷ j ∷ rest))

  abbrev Simulated : StmtKind → Type 0
  Simulated k = SameMove t.classes (lowered t) r.output (next t.classes (state r store locals managers input (Do (stmt line k) ∷ j ∷ rest)))
      (step (lowered t) (work r store slots managers input))

  shut : Fits → (ty : Ty) (v : Val) → Meets store r.opened ty v → is_iso ty ≡ false → is_shut store r.windows v ≡ false
  shut f ty v meets iso = not_iso-closed t.classes (work r store slots managers input).machine (running r locals ∷ r.bodies) r.opened r.opened
      (fit_here t r store slots locals managers input env f.begun) (λ l o. o) ty v meets iso

  sees : Fits → Sees store r.opened (length r.bodies) env locals
  sees f = sees_here t r store slots locals managers input env f.begun

  facts : Fits → Facts t.classes env store r.windows locals
  facts f = facts_of t.classes env store r.windows r.opened (length r.bodies) locals f.objects (shut f) (sees f)

  -- what an expression uses up
  up : Fits → (w : Option Ty) (e : Expr) (j : Judged) → judge_expr t.classes env w e ≡ Ok j
      → UsesUp t.classes store slots locals (scope_of locals) e []
  up f w e j judged = uses-up t.classes store slots locals f.begun.shows env w e j [] f.named judged

  once : Fits → owned_once (work r store slots managers input).machine ≡ true
  once f = owned_once-fits t.classes (work r store slots managers input).machine (running r locals ∷ r.bodies) r.opened
      (fit_here t r store slots locals managers input env f.begun)

  -- `print e;`
  pub print-judged : (e : Expr) (out : Env) → Fits → Showing (print e) → judge_kind t.classes None line env (print e) ≡ Ok out → Simulated (print e)
  print-judged e out f h judged =
      let q = at_line-ok line _ out judged in
      let p = bind-ok (judge_expr t.classes env None e) _ out q in
      let k = test-then (printable p.0.ty) _ _ out p.2 in
      print-mirrors t.classes code r store slots locals managers input line e j rest h
      (expr-agrees t.classes env store r.windows locals (facts f) None e p.0 p.1) (once f) (up f None e p.0 p.1)
      (λ v got. printed-open (work r store (cleared_slots (used_slots (scope_of locals) e) slots) managers input).machine store r.opened p.0.ty v k.0
      (value-comes t r store slots locals managers input env f.begun None e p.0 v p.1 got).meets)

  pub collect-judged : Showing collect → Simulated collect
  collect-judged h = collect-mirrors t.classes code r store slots locals managers input line j rest h

  test-agrees : (e : Expr) (front : Env) → Fits → at_line line (judge_test t.classes env e) ≡ Ok front
      → Agrees t.classes store r.windows locals (scope_of locals) e
  test-agrees e front f judged =
      let q = at_line-ok line _ front judged in
      let p = bind-ok (judge_expr t.classes env (Some Bool) e) _ front q in
      expr-agrees t.classes env store r.windows locals (facts f) (Some Bool) e p.0 p.1

  test-up : (e : Expr) (front : Env) → Fits → at_line line (judge_test t.classes env e) ≡ Ok front
      → UsesUp t.classes store slots locals (scope_of locals) e []
  test-up e front f judged =
      let q = at_line-ok line _ front judged in
      let p = bind-ok (judge_expr t.classes env (Some Bool) e) _ front q in
      up f (Some Bool) e p.0 p.1

  test-truth : (e : Expr) (front : Env) → Fits → at_line line (judge_test t.classes env e) ≡ Ok front → IsTruth (value_of t.classes store locals e)
  test-truth e front f judged =
      let q = at_line-ok line _ front judged in
      let p = bind-ok (judge_expr t.classes env (Some Bool) e) _ front q in
      expr-truth t.classes env store r.windows locals (facts f) e p.0 p.1

  -- `while e { .. }`
  pub while-judged : (e : Expr) (b : Block) (out : Env) → Fits → Showing (while e b) → judge_kind t.classes None line env (while e b) ≡ Ok out
      → Simulated (while e b)
  while-judged e b out f h judged =
      let p = bind-ok (at_line line (judge_test t.classes env e)) _ out judged in
      let q = bind-ok (judge_block t.classes None p.0 b) _ out p.2 in
      while-mirrors t.classes code r store slots locals managers input line e b j rest h (test-agrees e p.0 f p.1)
      (once f) (test-up e p.0 f p.1) (test-truth e p.0 f p.1)
      (block-goes_on t.classes b p.0 q.0 q.1)

  -- `if e { .. }`, with and without `else`
  pub branch-judged : (e : Expr) (b : Block) (other : Else) (out : Env) → Fits → Showing (branch e b other)
      → judge_kind t.classes None line env (branch e b other) ≡ Ok out → Simulated (branch e b other)
  branch-judged e b no_else out f h judged =
      let p = bind-ok (at_line line (judge_test t.classes env e)) _ out judged in
      let q = bind-ok (judge_block t.classes None p.0 b) _ out p.2 in
      branch-mirrors t.classes code r store slots locals managers input line e b j rest h (test-agrees e p.0 f p.1)
      (once f) (test-up e p.0 f p.1) (test-truth e p.0 f p.1)
      (block-goes_on t.classes b p.0 q.0 q.1)
  branch-judged e b (otherwise c) out f h judged =
      let p = bind-ok (at_line line (judge_test t.classes env e)) _ out judged in
      let q = bind-ok (judge_block t.classes None p.0 b) _ out p.2 in
      let s = bind-ok (judge_block t.classes None p.0 c) _ out q.2 in
      branch-else-mirrors t.classes code r store slots locals managers input line e b c j rest h (test-agrees e p.0 f p.1)
      (once f) (test-up e p.0 f p.1) (test-truth e p.0 f p.1)
      (block-goes_on t.classes b p.0 q.0 q.1) (block-goes_on t.classes c p.0 s.0 s.1)

  -- what a judged call owes, with its method's entry
  call-owes : (c : Call) (out : CallJudged) → Fits → judge_call t.classes env c ≡ Ok out → (m : Method) × (e : _)
      × CallOwes t.classes (lowered t) j rest r store slots locals c (target_class t.classes (scope_of locals) c) m e
      × (out.result ≡ method_result t.classes m)
  call-owes c out f judged =
      let g = call-gives t.classes store r.windows r.opened (length r.bodies) locals f.objects (shut f) env c out (sees f) judged in
      let d = target_class t.classes (scope_of locals) c in
      let k = callee_of t j rest d c.method g.method g.named (body-fits t accepted d c.method g.method g.named) in (
        g.method,
        k.0,
        record {
          follows = g.follows;
          agrees = g.agrees;
          uses = args-up t.classes store slots locals f.begun.shows (param_types t.classes g.method) c.args env g.out f.named g.judged g.many;
          entry = k.1;
          callee = k.2;
          below = f.below;
          arity = g.arity;
          named = g.named;
          class = g.class;
        },
        g.result,
      )

  -- `call q.m(a, b);`
  pub call-judged : (c : Call) (out : Env) → Fits → Showing (call c) → judge_kind t.classes None line env (call c) ≡ Ok out → Simulated (call c)
  call-judged c out f h judged =
      let q = at_line-ok line _ out judged in
      let p = bind-ok (judge_call t.classes env c) _ out q in
      let o = call-owes c p.0 f p.1 in
      call-mirrors t.classes code j rest r store slots locals managers input line c o.0 o.1 h o.2 (once f)

  owes-right : (ty : Ty) (right : Right) (out : _) → Fits → judge_right t.classes env ty right ≡ Ok out → is_call right ≡ false
      → RightOwes t.classes store r.windows locals (scope_of locals) right
  owes-right ty right out f judged i =
      right-owes t.classes store r.windows r.opened (length r.bodies) locals f.objects (shut f) env ty right out (sees f) judged i

  needs-right : (ty : Ty) (right : Right) (out : _) → Fits → judge_right t.classes env ty right ≡ Ok out
      → RightNeeds t.classes code r (scope_of locals) store slots locals managers input [] right
  needs-right ty right out f judged = right-needs t r store slots locals managers input env f.begun code ty right out [] refl judged

  result_by : (o : Option Written) (u : Ty) → option_map (type_of t.classes) o ≡ Some u → (w : Written) × (o ≡ Some w)
  result_by None u h = absurd (none-some u h)
  result_by (Some w) u h = (w, refl)

  -- `let x: T = r;`
  declare_plain : (x : Name) (ty : Written) (right : Right) (out : Env) → Fits → Showing (declare x ty right)
      → judge_kind t.classes None line env (declare x ty right) ≡ Ok out → is_call right ≡ false → Simulated (declare x ty right)
  declare_plain x ty right out f h judged i =
      let q = at_line-ok line _ out judged in
      let v = test-then (not (visible env (Some x))) _ _ out q in
      let d = bind-ok (good_type t.classes ty) _ out v.1 in
      let p = bind-ok (judge_right t.classes env d.0 right) _ out d.2 in
      declare-mirrors t.classes code r store slots locals managers input line j rest x ty right h refl (owes-right d.0 right p.0 f p.1 i)
      (needs-right d.0 right p.0 f p.1) (base-by r.windows (slots_below r.frames + length locals) f.begins)

  declare_call : (x : Name) (ty : Written) (c : Call) (out : Env) → Fits → Showing (declare x ty (result_of c))
      → judge_kind t.classes None line env (declare x ty (result_of c)) ≡ Ok out → Simulated (declare x ty (result_of c))
  declare_call x ty c out f h judged =
      let q = at_line-ok line _ out judged in
      let v = test-then (not (visible env (Some x))) _ _ out q in
      let d = bind-ok (good_type t.classes ty) _ out v.1 in
      let p = bind-ok (judge_right t.classes env d.0 (result_of c)) _ out d.2 in
      let k = bind-ok (judge_call t.classes env c) _ p.0 p.1 in
      let u = bind-ok (ok_or k.0.result Mismatch) _ p.0 k.2 in
      let o = call-owes c k.0 f k.1 in
      let w = result_by o.0.result u.0 (sym o.3 ∙ ok_or-ok k.0.result Mismatch u.0 u.1) in
      declare-call-mirrors t.classes code j rest r store slots locals managers input line c o.0 o.1 x ty w.0 h o.2 (once f) w.1

  pub declare-judged : (x : Name) (ty : Written) (right : Right) (out : Env) → Fits → Showing (declare x ty right)
      → judge_kind t.classes None line env (declare x ty right) ≡ Ok out → Simulated (declare x ty right)
  declare-judged x ty (value e) out f h judged = declare_plain x ty (value e) out f h judged refl
  declare-judged x ty (new k many) out f h judged = declare_plain x ty (new k many) out f h judged refl
  declare-judged x ty (new_tmp k many) out f h judged = declare_plain x ty (new_tmp k many) out f h judged refl
  declare-judged x ty (new_iso k many m) out f h judged = declare_plain x ty (new_iso k many m) out f h judged refl
  declare-judged x ty (freeze y) out f h judged = declare_plain x ty (freeze y) out f h judged refl
  declare-judged x ty (merge y) out f h judged = declare_plain x ty (merge y) out f h judged refl
  declare-judged x ty read out f h judged = declare_plain x ty read out f h judged refl
  declare-judged x ty more out f h judged = declare_plain x ty more out f h judged refl
  declare-judged x ty (result_of c) out f h judged = declare_call x ty c out f h judged

  -- `x = r;`
  set_plain : (x : Variable) (right : Right) (out : Env) → Fits → Showing (assign (record { base = x; fields = [] }) right)
      → judge_assign t.classes env x [] right ≡ Ok out → is_call right ≡ false → Simulated (assign (record { base = x; fields = [] }) right)
  set_plain x right out f h judged i =
      let e = bind-ok (ok_or (entry_of env x) Unknown) _ out judged in
      let a = test-then (e.0.assignable) _ _ out e.2 in
      let b = test-then (at_depth env e.0 || not (stays_at_depth e.0.ty)) _ _ out a.1 in
      let c = test-then (not (is_lent e.0.readiness)) _ _ out b.1 in
      let p = bind-ok (judge_right t.classes env e.0.ty right) _ out c.1 in
      assign-mirrors t.classes code r store slots locals managers input line j rest x right h refl (owes-right e.0.ty right p.0 f p.1 i)
      (variable-there env locals x e.0 f.named (ok_or-ok (entry_of env x) Unknown e.0 e.1))
      (needs-right e.0.ty right p.0 f p.1)
      (λ now after_slots after made left v m gave.
      let there = ok_or-ok (entry_of env x) Unknown e.0 e.1 in
      let k = right-comes t r store slots locals managers input env f.begun (Assigns x) right e.0.ty p.0 (j ∷ rest) p.1 i now after made
      left v gave in
      variable-needs t r store slots locals managers input env f.begun code x e.0 there (not-true (is_lent e.0.readiness) c.0)
      ((facts f).declared x e.0 there) b.0 p.0.ty (right-below right i t.classes env e.0.ty p.0 p.1) now after_slots after made left v m.shows
      m.scope_is k)

  set_call : (x : Variable) (c : Call) (out : Env) → Fits → Showing (assign (record { base = x; fields = [] }) (result_of c))
      → judge_assign t.classes env x [] (result_of c) ≡ Ok out → Simulated (assign (record { base = x; fields = [] }) (result_of c))
  set_call x c out f h judged =
      let e = bind-ok (ok_or (entry_of env x) Unknown) _ out judged in
      let a = test-then (e.0.assignable) _ _ out e.2 in
      let b = test-then (at_depth env e.0 || not (stays_at_depth e.0.ty)) _ _ out a.1 in
      let l = test-then (not (is_lent e.0.readiness)) _ _ out b.1 in
      let p = bind-ok (judge_right t.classes env e.0.ty (result_of c)) _ out l.1 in
      let k = bind-ok (judge_call t.classes env c) _ p.0 p.1 in
      let u = bind-ok (ok_or k.0.result Mismatch) _ p.0 k.2 in
      let o = call-owes c k.0 f k.1 in
      let w = result_by o.0.result u.0 (sym o.3 ∙ ok_or-ok k.0.result Mismatch u.0 u.1) in
      assign-call-mirrors t.classes code j rest r store slots locals managers input line c o.0 o.1 x w.0 h o.2 (once f) w.1

  set-judged : (x : Variable) (right : Right) (out : Env) → Fits → Showing (assign (record { base = x; fields = [] }) right)
      → judge_assign t.classes env x [] right ≡ Ok out → Simulated (assign (record { base = x; fields = [] }) right)
  set-judged x (value e) out f h judged = set_plain x (value e) out f h judged refl
  set-judged x (new k many) out f h judged = set_plain x (new k many) out f h judged refl
  set-judged x (new_tmp k many) out f h judged = set_plain x (new_tmp k many) out f h judged refl
  set-judged x (new_iso k many m) out f h judged = set_plain x (new_iso k many m) out f h judged refl
  set-judged x (freeze y) out f h judged = set_plain x (freeze y) out f h judged refl
  set-judged x (merge y) out f h judged = set_plain x (merge y) out f h judged refl
  set-judged x read out f h judged = set_plain x read out f h judged refl
  set-judged x more out f h judged = set_plain x more out f h judged refl
  set-judged x (result_of c) out f h judged = set_call x c out f h judged

  -- `q.f = r;`
  put-judged : (x : Variable) (g : Name) (gs : List Name) (right : Right) (out : Env) → Fits
      → Showing (assign (record { base = x; fields = g ∷ gs }) right) → judge_assign t.classes env x (g ∷ gs) right ≡ Ok out
      → Simulated (assign (record { base = x; fields = g ∷ gs }) right)
  put-judged x g gs right out f h judged =
      let w = bind-ok (writable_field t.classes env x g gs) _ out judged in
      let a = test-then (not (is_iso w.0)) _ _ out w.2 in
      let b = test-then (not (is_call right)) _ _ out a.1 in
      let p = bind-ok (judge_right t.classes env w.0 right) _ out b.1 in
      let k = bind-ok (walk_receiver t.classes env x g gs) _ w.0 w.1 in
      put-mirrors t.classes code r store slots locals managers input line j rest x g gs right h refl
      (owes-right w.0 right p.0 f p.1 (not-true (is_call right) b.0))
      (holder-follows t.classes env store r.windows locals (facts f) x g gs k.0 k.1)
      (holder-owes t.classes env store r.windows locals (facts f) x g gs k.0 k.1)
      (λ u o led there.
      let h = receives t r store slots locals managers input env f.begun x g gs w.0 u o w.1 led there in (
        right-needs t r store slots locals managers input env f.begun code w.0 right p.0 (u ∷ [])
            (receiver-open t r store slots locals managers input env f.begun (last_field g gs) w.0 u o h) p.1,
        λ now after_slots after made left v m gave.
            let c = right-comes t r store slots locals managers input env f.begun Drops right w.0 p.0 (j ∷ rest) p.1 (not-true (is_call right) b.0)
            now after made left v gave in
            field-needs t r store slots locals managers input env f.begun accepted code x g gs w.0 p.0.ty (not-true (is_iso w.0) a.0)
            (right-below right (not-true (is_call right) b.0) t.classes env w.0 p.0 p.1)
            (held_number t.classes (scope_of locals) x g gs) u o h
            (holder-owes t.classes env store r.windows locals (facts f) x g gs k.0 k.1 u o led there) now after_slots after made left v m.shows c,
      ))

  assign_by : (x : Variable) (fs : List Name) (right : Right) (out : Env) → Fits → Showing (assign (record { base = x; fields = fs }) right)
      → judge_assign t.classes env x fs right ≡ Ok out → Simulated (assign (record { base = x; fields = fs }) right)
  assign_by x [] right out f h judged = set-judged x right out f h judged
  assign_by x (g ∷ gs) right out f h judged = put-judged x g gs right out f h judged

  pub assign-judged : (p : Path) (right : Right) (out : Env) → Fits → Showing (assign p right) → judge_kind t.classes None line env (assign p right)
      ≡ Ok out → Simulated (assign p right)
  assign-judged p right out f h judged = assign_by p.base p.fields right out f h (at_line-ok line _ out judged)

  -- `q[e] = r;`
  pub element-judged : (q : Path) (e : Expr) (right : Right) (out : Env) → Fits → Showing (assign_element q e right)
      → judge_kind t.classes None line env (assign_element q e right) ≡ Ok out → Simulated (assign_element q e right)
  element-judged q e right out f h judged =
      let p = judge_assign-element t.classes env out q.base q.fields e right (at_line-ok line _ out judged) in
      let same : p.index.env ≡ env =
      judge_expr-env t.classes env (Some Int) e p.index p.index_typed (number-not_iso t.classes env e p.index p.index_typed) in
      let typed = subst (λ m. judge_right t.classes m p.array.ty right ≡ Ok p.judged) same p.typed in
      let known = facts f in
      let array = array-agrees t.classes env store r.windows locals known q.base q.fields p.array p.walked in
      let m = (work r store slots managers input).machine in
      element-mirrors t.classes code r store slots locals managers input line j rest q e right h refl
      (owes-right p.array.ty right p.judged f typed p.not_call) array.0
      (expr-agrees t.classes env store r.windows locals known (Some Int) e p.index p.index_typed)
      (λ u x o k led there got place.
      let a = array-at t.classes store r.opened (length r.bodies) env locals f.objects (sees f) q.base q.fields p.array u o p.walked led there in
      let number = below-meets store r.opened p.index.ty Int x (judge_expr-below t.classes env Int e p.index p.index_typed)
      (value-meets t.classes store r.opened (length r.bodies) env locals f.objects (sees f) (Some Int) e p.index x p.index_typed got) in (
        right-needs t r store slots locals managers input env f.begun code p.array.ty right p.judged (x ∷ u ∷ [])
            (ap (λ b. b || (is_closed m u || false)) (printed-open m store r.opened Int x refl number) ∙ ap (λ b. b || false) (array.1 u led)) typed,
        λ now after_slots after made left v s gave.
            let c = right-comes t r store slots locals managers input env f.begun Drops right p.array.ty p.judged (j ∷ rest) typed p.not_call now after
            made left v gave in
            element-needs t r store slots locals managers input env f.begun accepted code p.array p.judged.ty
            (right-below right p.not_call t.classes env p.array.ty p.judged typed) u x o k a p.writes place number now after_slots after made left v
            s.shows c,
      ))

  -- `swap y, q.f;`
  swap_by : (y : Name) (x : Variable) (fs : List Name) (out : Env) → Fits → Showing (swap y (record { base = x; fields = fs }))
      → judge_swap t.classes env y (record { base = x; fields = fs }) ≡ Ok out → Simulated (swap y (record { base = x; fields = fs }))
  swap_by y x fs out f h judged =
      let e = bind-ok (ok_or (entry_of env (Some y)) Unknown) _ out judged in
      let a = test-then (is_iso e.0.ty) _ _ out e.2 in
      let b = test-then (is_ready e.0.readiness) _ _ out a.1 in
      let w = bind-ok (swapped_field t.classes env x fs) _ out b.1 in
      let same = test-then (same_type w.0 e.0.ty) _ _ out w.2 in
      let there = ok_or-ok (entry_of env (Some y)) Unknown e.0 e.1 in
      swap_fields y x fs w.0 f h w.1 (variable-there env locals (Some y) e.0 f.named there)
      (below-iso w.0 e.0.ty (and-left (below w.0 e.0.ty) (below e.0.ty w.0) same.0) ∙ a.0)
      (owner-needs t r store slots locals managers input env f.begun (Some y) e.0 there a.0 (ready-not_lent e.0.readiness b.0))
    where
      swap_fields : (y : Name) (x : Variable) (fs : List Name) (ty : Ty) → Fits → Showing (swap y (record { base = x; fields = fs }))
          → swapped_field t.classes env x fs ≡ Ok ty → Has locals (Some y) → is_iso ty ≡ true
          → (let m = (work r store slots managers input).machine in owns_or_nil m (slot_at m (slot_of (scope_of locals) (Some y))) ≡ true)
          → Simulated (swap y (record { base = x; fields = fs }))
      swap_fields y x [] ty f h judged has iso slot = grind arith
      swap_fields y x (g ∷ gs) ty f h judged has iso slot =
          let k = bind-ok (walk_receiver t.classes env x g gs) _ ty judged in
          swap-mirrors t.classes code r store slots locals managers input line j rest y x g gs h has
          (holder-follows t.classes env store r.windows locals (facts f) x g gs k.0 k.1)
          (holder-owes t.classes env store r.windows locals (facts f) x g gs k.0 k.1)
          (λ u led. swap-needs t.classes code (work r store slots managers input).machine (running r locals) r.bodies r.opened
          (fit_here t r store slots locals managers input env f.begun) (slot_of (scope_of locals) (Some y))
          (held_number t.classes (scope_of locals) x g gs) u (last_field g gs) ty iso
          (subst (λ n. nat_lt n (length slots) ≡ true) (sym (slot_place locals (Some y)))
          (shown-room slots locals (place_in locals (Some y)) f.begun.shows has))
          (λ o there. let h = receives t r store slots locals managers input env f.begun x g gs ty u o judged led there in (
            h,
            same_Some h.field.place (held_number t.classes (scope_of locals) x g gs)
                (sym h.field.place_is ∙ holder-owes t.classes env store r.windows locals (facts f) x g gs k.0 k.1 u o led there),
          )) slot)

  pub swap-judged : (y : Name) (p : Path) (out : Env) → Fits → Showing (swap y p) → judge_kind t.classes None line env (swap y p) ≡ Ok out
      → Simulated (swap y p)
  swap-judged y p out f h judged = swap_by y p.base p.fields out f h (at_line-ok line _ out judged)

  behind : length locals ≤ length (scope_of locals)
  behind =
      let e : length (scope_of locals) ≡ length locals = length-map locals (λ (l : Local). record { name = l.name; ty = l.ty }) in omega (arith, e)

  -- `enter x as z { .. }` and `enter q.f as z { .. }`
  enter_by : (x : Variable) (fs : List Name) (z : Name) (b : Block) (giving : Option Name) (front : Env) → Fits
      → Showing (enter (record { base = x; fields = fs }) z b giving)
      → judge_enter t.classes env x fs z ≡ Ok front → AllGoOn b → Simulated (enter (record { base = x; fields = fs }) z b giving)
  enter_by x [] z b giving front f h judged goes =
      let e = bind-ok (ok_or (entry_of env x) Unknown) _ front judged in
      let c = bind-ok (ok_or (iso_class e.0.ty) Mismatch) _ front e.2 in
      let there = ok_or-ok (entry_of env x) Unknown e.0 e.1 in
      let iso = iso_type e.0.ty c.0 (ok_or-ok (iso_class e.0.ty) Mismatch c.0 c.1) in
      enter-mirrors t.classes code r store slots locals managers input line j rest x z b giving h goes f.begins
      (λ o is. (
        variable-in_region env store r.opened (length r.bodies) locals x e.0 f.named f.meets there iso.0 o is,
        sym (class_in t.classes (type_in (scope_of locals) x) o.class
            (ap class_is ((facts f).declared x e.0 there) ∙ ((facts f).variables x e.0 there).0 o is)),
      ))
      (let m = (work r store slots managers input).machine in
      let s = slot_of (scope_of locals) x in
      let ready = test-then (is_ready e.0.readiness) _ _ front c.2 in
      and_from (owned_once m && owns_or_nil m (slot_at m s)) (not (is_closed m (slot_at m (length (scope_of locals)))))
      (and_from (owned_once m) (owns_or_nil m (slot_at m s)) (once f)
      (owner-needs t r store slots locals managers input env f.begun x e.0 there iso.0 (ready-not_lent e.0.readiness ready.0)))
      (not_from_false _ (behind-closed t.classes m (running r locals) r.bodies r.opened (fit_here t r store slots locals managers input env f.begun)
      (length (scope_of locals)) behind)))
  enter_by x (g ∷ gs) z b giving front f h judged goes =
      let w = bind-ok (writable_field t.classes env x g gs) _ front judged in
      let c = bind-ok (ok_or (iso_class w.0) Mismatch) _ front w.2 in
      let k = bind-ok (walk_receiver t.classes env x g gs) _ w.0 w.1 in
      let m = test-then (may_write k.0.receiver) _ _ w.0 k.2 in
      let same : k.0.ty ≡ w.0 = grind arith in
      let iso = iso_type w.0 c.0 (ok_or-ok (iso_class w.0) Mismatch c.0 c.1) in
      enter-field-mirrors t.classes code r store slots locals managers input line j rest x g gs z b giving h goes f.begins
      (holder-follows t.classes env store r.windows locals (facts f) x g gs k.0 k.1)
      (holder-owes t.classes env store r.windows locals (facts f) x g gs k.0 k.1)
      (λ u o led there q is.
      let d = holder-type t.classes env store r.windows locals (facts f) x g gs k.0 u o k.1 led there in (
        field-in_region t.classes store r.opened f.objects u o (last_field g gs) k.0.ty there (f.live x g gs w.0 u o w.1 led there) d.0
            (ap is_iso same ∙ iso.0) q is,
        sym (class_in t.classes (type_along t.classes (type_in (scope_of locals) x) (g ∷ gs)) q.class
            (ap class_is d.1 ∙ ((facts f).fields u o (last_field g gs) k.0.ty there d.0).0 q is)),
      ))
      (λ u led. enter_field-needs t.classes code (work r store slots managers input).machine (running r locals) r.bodies r.opened
      (fit_here t r store slots locals managers input env f.begun) (held_number t.classes (scope_of locals) x g gs) (length (scope_of locals)) u
      (last_field g gs) w.0 iso.0 behind
      (λ o there. let h = receives t r store slots locals managers input env f.begun x g gs w.0 u o w.1 led there in (
        h,
        same_Some h.field.place (held_number t.classes (scope_of locals) x g gs)
            (sym h.field.place_is ∙ holder-owes t.classes env store r.windows locals (facts f) x g gs k.0 k.1 u o led there),
      )))

  pub enter-judged : (p : Path) (z : Name) (b : Block) (giving : Option Name) (out : Env) → Fits → Showing (enter p z b giving)
      → judge_kind t.classes None line env (enter p z b giving) ≡ Ok out → Simulated (enter p z b giving)
  enter-judged p z b giving out f h judged =
      let e = bind-ok (at_line line (judge_enter t.classes env p.base p.fields z)) _ out judged in
      let q = bind-ok (judge_block t.classes None e.0 b) _ out e.2 in
      enter_by p.base p.fields z b giving e.0 f h (at_line-ok line _ e.0 e.1) (block-goes_on t.classes b e.0 q.0 q.1)

  -- each statement but `return`, which may be the last one of its body
  pub statement-judged : (last : Option Ty) (k : StmtKind) (out : Env) → GoesOn k → Fits → Showing k → judge_kind t.classes last line env k ≡ Ok out
      → Simulated k
  statement-judged last (declare x ty right) out goes f h judged = declare-judged x ty right out f h judged
  statement-judged last (assign p right) out goes f h judged = assign-judged p right out f h judged
  statement-judged last (assign_element q e right) out goes f h judged = element-judged q e right out f h judged
  statement-judged last (call c) out goes f h judged = call-judged c out f h judged
  statement-judged last (swap y p) out goes f h judged = swap-judged y p out f h judged
  statement-judged last (branch e b other) out goes f h judged = branch-judged e b other out f h judged
  statement-judged last (while e b) out goes f h judged = while-judged e b out f h judged
  statement-judged last (enter p z b giving) out goes f h judged = enter-judged p z b giving out f h judged
  statement-judged last (print e) out goes f h judged = print-judged e out f h judged
  statement-judged last collect out goes f h judged = collect-judged h
  statement-judged last (return e) out goes f h judged = absurd goes

  -- what stands where a statement begins, from the invariant
  pub fits_of : ShowsFrames (record { slots = slots; back = r.back } ∷ r.frames) (record { locals = locals; target = r.target } ∷ r.bodies)
      → ShowsWindows (sizes_of (record { slots = slots; back = r.back } ∷ r.frames)) r.windows r.opened
      → (items : List Item) (h : Running t (record { locals = locals; target = r.target }) r.bodies r.opened items) → h.spot.env ≡ env
      → Data t.classes store (record { locals = locals; target = r.target } ∷ r.bodies) r.opened (length managers) r.made → Live → Fits
  fits_of shows windows items h is fits live =
      let f : Frame = record { slots = slots; back = r.back } in
      let sizes : suc (length r.bodies) ≡ length (sizes_of (f ∷ r.frames)) =
      ap suc (sym (as_many r.frames r.bodies shows.1)) ∙ sym
      (length-reverse (map (λ (f : Frame). length f.slots) (f ∷ r.frames)) ∙ length-map (f ∷ r.frames) (λ (f : Frame). length f.slots)) in
      record {
        named = subst (λ (e : Env). Named e.entries locals) is h.stands.named;
        meets = fits.values.0;
        objects = fits.objects;
        live = live;
        below = subst (λ n. OpenedBelow n r.opened) sizes (running-below t (record { locals = locals; target = r.target }) r.bodies r.opened items h);
        begins = top-begins t accepted f r.frames r.windows (record { locals = locals; target = r.target }) r.bodies r.opened items shows windows h;
        begun = begun_of t accepted r store slots locals managers env shows windows items h is fits;
      }

-- a target of a call that is judged is there

with_has : (locals : List Local) (o : Option Call) (first target : Target) (c : Call) → with_target first o ≡ Some (c, target)
    → TargetHas first locals → TargetHas target locals
with_has locals None first target c h has = absurd (none-some (c, target) h)
with_has locals (Some d) first target c h has = subst (λ k. TargetHas k locals) (ap (λ p. p.1) (same_Some (d, first) (c, target) h)) has

assigned_has : (t : Tree) (env out : Env) (locals : List Local) (x : Variable) (fs : List Name) (right : Right) (c : Call) (target : Target)
    → Named env.entries locals → judge_assign t.classes env x fs right ≡ Ok out → assigned_call x fs right ≡ Some (c, target)
    → TargetHas target locals
assigned_has t env out locals x [] right c target named judged h =
    let e = bind-ok (ok_or (entry_of env x) Unknown) _ out judged in
    with_has locals (right_call right) (Assigns x) target c h (variable-there env locals x e.0 named (ok_or-ok (entry_of env x) Unknown e.0 e.1))
assigned_has t env out locals x (g ∷ gs) right c target named judged h = absurd (none-some (c, target) h)

pub target-has : (t : Tree) (last : Option Ty) (line : ℕ) (env out : Env) (locals : List Local) (k : StmtKind) (c : Call) (target : Target)
    → Named env.entries locals → judge_kind t.classes last line env k ≡ Ok out → call_of t.classes k ≡ Some (c, target) → TargetHas target locals
target-has t last line env out locals (declare x ty right) c target named judged h = with_has locals (right_call right)
    (Declares x (type_of t.classes ty)) target c h tt
target-has t last line env out locals (assign p right) c target named judged h = assigned_has t env out locals p.base p.fields right c target named
    (at_line-ok line _ out judged) h
target-has t last line env out locals (call d) c target named judged h = with_has locals (Some d) Drops target c h tt
target-has t last line env out locals _ c target named judged h = absurd (none-some (c, target) h)

-- `return e;` of an accepted program; r is what stands round the frame that called
pub return-judged : (t : Tree) (r : Round) (slots under : List Val) (locals callers : List Local) (back : ℕ) (target : Target) (store : List Seen)
    (managers : List Manager) (input : List ℕ) (line : ℕ) (e : Expr) (j : Item) (rest : List Item) (env : Env) (last : Option Ty) (out : Env)
    → Named env.entries locals → FrameMeets store r.opened (suc (length r.bodies)) locals → ObjectsFit t.classes store r.opened
    → Mirrors t.classes (lowered t) (work (above r under callers back target) store slots managers input).machine
    (state (above r under callers back target) store locals managers input (Do (stmt line (return e)) ∷ j ∷ rest))
    → judge_kind t.classes last line env (return e) ≡ Ok out
    → OpenedBelow (length (sizes_of (record { slots = under; back = r.back } ∷ r.frames))) r.opened
    → begins_by r.windows (slots_below (record { slots = under; back = r.back } ∷ r.frames)) ≡ true
    → TargetHas target callers
    → Begun t (above r under callers back target) store slots locals managers env
    → ((v : Val) (ty : Ty) → last ≡ Some ty → Data t.classes store (record { locals = cleared (uses locals e) locals; target = target }
    ∷ record { locals = callers; target = r.target } ∷ r.bodies) r.opened (length managers) r.made → Meets store r.opened ty v
    → OwnsFreshAs t.classes store (record { locals = cleared (uses locals e) locals; target = target }
    ∷ record { locals = callers; target = r.target } ∷ r.bodies) ty v
    → TargetNeeds (lowered t) target callers v (work r store under managers input).machine)
    → SameMove t.classes (lowered t) r.output (next t.classes
    (state (above r under callers back target) store locals managers input (Do (stmt line (return e)) ∷ j ∷ rest)))
    (step (lowered t) (work (above r under callers back target) store slots managers input))
return-judged t r slots under locals callers back target store managers input line e j rest env last out named meets objects h judged lower begins
    has begun takes =
    let q = at_line-ok line _ out judged in
    let w = bind-ok (ok_or last Return) _ out q in
    let p = bind-ok (judge_expr t.classes env (Some w.0) e) _ out w.2 in
    let less = judge_expr-below t.classes env w.0 e p.0 p.1 in
    let a = above r under callers back target in
    let here = fit_here t a store slots locals managers input env begun in
    return-mirrors t.classes (lowered t) r slots under locals callers back target store managers input line e j rest h
    (expr-agrees t.classes env store r.windows locals (facts_of t.classes env store r.windows r.opened (suc (length r.bodies)) locals
    objects (λ ty v m iso. not_iso-closed t.classes (work a store slots managers input).machine (running a locals ∷ a.bodies) r.opened r.opened here
    (λ l o. o) ty v m iso) (sees_here t a store slots locals managers input env begun))
    (Some w.0) e p.0 p.1) lower begins has
    (owned_once-fits t.classes (work a store slots managers input).machine (running a locals ∷ a.bodies) r.opened here)
    (uses-up t.classes store slots locals h.slots.0 env (Some w.0) e p.0 [] named p.1)
    (λ v is.
    let c = value-comes t a store slots locals managers input env begun (Some w.0) e p.0 v p.1 is in
    let whole = middle_whole (scope_of locals) (length slots) store store e slots locals
    (record { shows = h.slots.0; size_is = refl; scope_is = refl; keeps = keeps_same store }) in
    let m = (work a store (cleared_slots (used_slots (scope_of locals) e) slots) managers input).machine in
    let d = shows_fit t a store slots locals managers input env begun store (cleared_slots (used_slots (scope_of locals) e) slots)
    (cleared (uses locals e) locals) managers input c.fits whole.shows in (
      and_from (owned_once m) (loose m v)
          (owned_once-fits t.classes m (running a (cleared (uses locals e) locals) ∷ a.bodies) r.opened d)
          (loose-fits t.classes m (running a (cleared (uses locals e) locals) ∷ a.bodies) r.opened r.opened d (λ l o. o) p.0.ty v c.meets c.fresh),
      takes v w.0 (ok_or-ok last Return w.0 w.1) c.fits (below-meets store r.opened p.0.ty w.0 v less c.meets)
          (fresh-as t.classes store (running a (cleared (uses locals e) locals) ∷ a.bodies) p.0.ty w.0 v (below-iso p.0.ty w.0 less) c.fresh),
    ))
