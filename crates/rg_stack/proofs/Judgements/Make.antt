-- A `new C` of an accepted program has a class that is there: whether a statement may collect is seen by its form.
use Rattle.std.proofs.Common.{◌≡◌, ℕ, List, [], ◌∷◌, Option, Some, Ok, not, is_some, ok_or, refl, ap, ◌||◌}
use Rattle.rg_base.specs.declared.fault.Code.TheVariants.{Unknown}
use Rattle.rg_base.specs.declared.ty.Ty.{Ty}
use Rattle.rg_base.specs.declared.words.Cap.TheVariants.{Mut}
use Rattle.rg_tree.specs.Tree.{Name, Variable, ref, Right, new}
use Rattle.rg_tree.specs.Tree.{StmtKind, declare, assign, assign_element, Class}
use Rattle.rg_rules.specs.Outside.Asks.{right_makes}
use Rattle.rg_rules.specs.Capabilities.{is_iso, stays_at_depth}
use Rattle.rg_rules.specs.Environment.{Env, at_depth, entry_of, is_lent, visible}
use Rattle.rg_rules.specs.Expressions.{Judged}
use Rattle.rg_rules.specs.Paths.{writable_field}
use Rattle.rg_rules.specs.Rights.{judge_right}
use Rattle.rg_rules.specs.Statements.{is_call, judge_assign, judge_kind}
use Rattle.rg_rules.specs.Types.{good_type}
use Rattle.rg_rules.proofs.Answers.{at_line-ok, bind-ok, test-then}
use Rattle.rg_sound.proofs.Frames.Judge.{judge_assign-element}
use Rattle.rg_stack.specs.Dues.{kind_due, paced}
use Rattle.rg_stack.proofs.Judgements.Owes.{named_class}
use Rattle.rg_stack.proofs.Refusals.Tell.{right_due, written_due}

right-written : (classes : List Class) (env : Env) (wanted : Ty) (r : Right) (j : Judged) → judge_right classes env wanted r ≡ Ok j
    → paced (right_makes classes r) ≡ right_due r
right-written classes env wanted (new x many) j h =
    let t = bind-ok (good_type classes (ref Mut x)) _ j h in
    let k = named_class classes Mut x t.0 t.1 in
    ap (λ o. paced (is_some o)) k.1
right-written classes env wanted _ j h = refl

assign-written : (classes : List Class) (env out : Env) (x : Variable) (fs : List Name) (r : Right) → judge_assign classes env x fs r ≡ Ok out
    → paced (right_makes classes r) ≡ right_due r
assign-written classes env out x [] r h =
    let e = bind-ok (ok_or (entry_of env x) Unknown) _ out h in
    let a = test-then (e.0.assignable) _ _ out e.2 in
    let d = test-then (at_depth env e.0 || not (stays_at_depth e.0.ty)) _ _ out a.1 in
    let l = test-then (not (is_lent e.0.readiness)) _ _ out d.1 in
    let j = bind-ok (judge_right classes env e.0.ty r) _ out l.1 in
    right-written classes env e.0.ty r j.0 j.1
assign-written classes env out x (f ∷ fs) r h =
    let t = bind-ok (writable_field classes env x f fs) _ out h in
    let i = test-then (not (is_iso t.0)) _ _ out t.2 in
    let c = test-then (not (is_call r)) _ _ out i.1 in
    let j = bind-ok (judge_right classes env t.0 r) _ out c.1 in
    right-written classes env t.0 r j.0 j.1

pub kind-written : (classes : List Class) (last : Option Ty) (line : ℕ) (env out : Env) (k : StmtKind) → judge_kind classes last line env k ≡ Ok out
    → kind_due classes k ≡ written_due k
kind-written classes last line env out (declare x t r) h =
    let v = test-then (not (visible env (Some x))) _ _ out (at_line-ok line _ out h) in
    let d = bind-ok (good_type classes t) _ out v.1 in
    let j = bind-ok (judge_right classes env d.0 r) _ out d.2 in
    right-written classes env d.0 r j.0 j.1
kind-written classes last line env out (assign p r) h = assign-written classes env out p.base p.fields r (at_line-ok line _ out h)
kind-written classes last line env out (assign_element q e r) h =
    let p = judge_assign-element classes env out q.base q.fields e r (at_line-ok line _ out h) in
    right-written classes p.index.env p.array.ty r p.judged p.typed
kind-written classes last line env out _ h = refl
