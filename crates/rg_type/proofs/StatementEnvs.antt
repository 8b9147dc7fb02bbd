-- Behind a statement there are the variables that were in front of it, and behind them at most as many more as it has names.
use Rattle.std.proofs.Common.{◌≡◌, ℕ, suc, ◌+◌, ◌≤◌, true, ◌||◌, not as negated, List, [], ◌∷◌, length, Option, Some, None, ok_or, Ok, arith}
use Rattle.rg_base.specs.declared.ty.Ty.{Ty}
use Rattle.rg_base.specs.declared.words.Cap.TheVariants.{Mut}
use Rattle.rg_base.specs.declared.ty.Ty.TheVariants.{Int, Bool, Ref}
use Rattle.rg_base.specs.declared.fault.Code.TheVariants.{Unknown, Mismatch, Loop, Return}
use Rattle.rg_tree.specs.Tree.{Name, Variable, Ty as Written, Path, Expr, Call, Right, Stmt, stmt, StmtKind, declare, assign, assign_element, call}
use Rattle.rg_tree.specs.Tree.{swap, branch, while, enter, print, collect, return, Else, no_else, otherwise, Block, empty as none, then as next}
use Rattle.rg_tree.specs.Tree.{Class}
use Rattle.rg_rules.specs.Answers.{test, at_line}
use Rattle.rg_rules.specs.Capabilities.{is_iso, iso_class, same_type, stays_at_depth, may_write, printable}
use Rattle.rg_rules.specs.Types.{good_type}
use Rattle.rg_rules.specs.Environment.{Env, entry_of, visible, at_depth, with_variable, marked, is_ready, is_lent, ready, lent, deeper, closed}
use Rattle.rg_rules.specs.Environment.{joined, covers}
use Rattle.rg_rules.specs.Paths.{walk_array, writable_field}
use Rattle.rg_rules.specs.Expressions.{judge_expr}
use Rattle.rg_rules.specs.Rights.{judge_call, judge_right}
use Rattle.rg_rules.specs.Statements.{judge_declare, is_call, judge_assign, judge_assign_element, judge_call_alone, swapped_field, judge_swap}
use Rattle.rg_rules.specs.Statements.{judge_test, judge_enter, judge_giving, left, judge_print, judge_return, last_of, judge_stmt, judge_kind}
use Rattle.rg_rules.specs.Statements.{judge_else, judge_block}
use Rattle.rg_rules.specs.Names.{stmt_names, kind_names, else_names, block_names}
use Rattle.rg_rules.proofs.Answers.{bind-ok, then-ok, test-then, at_line-ok}
use Rattle.rg_type.proofs.Alike.{Begin, Begin-same, Begin-trans, Grows, Grows-same, Grows-more, Grows-trans, Grows-marked, Grows-with_variable}
use Rattle.rg_type.proofs.Alike.{Grows-closed, Grows-joined}
use Rattle.rg_type.proofs.ExpressionEnvs.{judge_expr-grows, judge_call-grows, judge_right-grows}

judge_declare-grows : (classes : List Class) (env out : Env) (x : Name) (t : Written) (r : Right) → judge_declare classes env x t r ≡ Ok out →
    Grows 1 env out
judge_declare-grows classes env out x t r h =
    let a = test-then (negated (visible env (Some x))) _ _ out h in
    let d = bind-ok (good_type classes t) _ out a.1 in
    let j = bind-ok (judge_right classes env d.0 r) _ out d.2 in
    let e : with_variable j.0.env (Some x) d.0 true ≡ out = grind arith in
    rw (← e) (Grows-trans 0 1 env j.0.env _ (judge_right-grows classes env d.0 r j.0 j.1) (Grows-with_variable j.0.env (Some x) d.0 true))

judge_assign-grows : (classes : List Class) (env out : Env) (x : Variable) (fs : List Name) (r : Right) →
    judge_assign classes env x fs r ≡ Ok out → Grows 0 env out
judge_assign-grows classes env out x [] r h =
    let e = bind-ok (ok_or (entry_of env x) Unknown) _ out h in
    let a = test-then (e.0.assignable) _ _ out e.2 in
    let d = test-then (at_depth env e.0 || negated (stays_at_depth e.0.ty)) _ _ out a.1 in
    let l = test-then (negated (is_lent e.0.readiness)) _ _ out d.1 in
    let j = bind-ok (judge_right classes env e.0.ty r) _ out l.1 in
    let i : marked x ready j.0.env ≡ out = grind arith in
    rw (← i) (Grows-trans 0 0 env j.0.env _ (judge_right-grows classes env e.0.ty r j.0 j.1) (Grows-marked x ready j.0.env))
judge_assign-grows classes env out x (f ∷ fs) r h =
    let t = bind-ok (writable_field classes env x f fs) _ out h in
    let i = test-then (negated (is_iso t.0)) _ _ out t.2 in
    let c = test-then (negated (is_call r)) _ _ out i.1 in
    let j = bind-ok (judge_right classes env t.0 r) _ out c.1 in
    let e : j.0.env ≡ out = grind arith in rw (← e) (judge_right-grows classes env t.0 r j.0 j.1)

judge_assign_element-grows : (classes : List Class) (env out : Env) (x : Variable) (fs : List Name) (e : Expr) (r : Right) →
    judge_assign_element classes env x fs e r ≡ Ok out → Grows 0 env out
judge_assign_element-grows classes env out x fs e r h =
    let a = bind-ok (walk_array classes env x fs) _ out h in
    let w = test-then (may_write a.0.receiver) _ _ out a.2 in
    let c = test-then (negated (is_call r)) _ _ out w.1 in
    let i = bind-ok (judge_expr classes env (Some Int) e) _ out c.1 in
    let j = bind-ok (judge_right classes i.0.env a.0.ty r) _ out i.2 in
    let o : j.0.env ≡ out = grind arith in
    rw (← o) (Grows-trans 0 0 env i.0.env _ (judge_expr-grows classes env (Some Int) e i.0 i.1) (judge_right-grows classes i.0.env a.0.ty r j.0 j.1))

judge_call_alone-grows : (classes : List Class) (env out : Env) (c : Call) → judge_call_alone classes env c ≡ Ok out → Grows 0 env out
judge_call_alone-grows classes env out c h =
    let j = bind-ok (judge_call classes env c) _ out h in
    let e : j.0.env ≡ out = grind arith in rw (← e) (judge_call-grows classes env c j.0 j.1)

judge_swap-grows : (classes : List Class) (env out : Env) (y : Name) (p : Path) → judge_swap classes env y p ≡ Ok out → Grows 0 env out
judge_swap-grows classes env out y p h =
    let e = bind-ok (ok_or (entry_of env (Some y)) Unknown) _ out h in
    let i = test-then (is_iso e.0.ty) _ _ out e.2 in
    let r = test-then (is_ready e.0.readiness) _ _ out i.1 in
    let t = bind-ok (swapped_field classes env p.base p.fields) _ out r.1 in
    let s = test-then (same_type t.0 e.0.ty) _ _ out t.2 in
    let o : env ≡ out = grind arith in rw (← o) (Grows-same env)

pub judge_test-grows : (classes : List Class) (env out : Env) (e : Expr) → judge_test classes env e ≡ Ok out → Grows 0 env out
judge_test-grows classes env out e h =
    let j = bind-ok (judge_expr classes env (Some Bool) e) _ out h in
    let o : j.0.env ≡ out = grind arith in rw (← o) (judge_expr-grows classes env (Some Bool) e j.0 j.1)

-- in front of the block of an `enter` there is one more
pub record Entered (env out : Env) : Type 0 where
  pub begins : Begin env.entries out.entries
  pub most : length out.entries ≤ length env.entries + 1

Entered-grows : (env mid out : Env) → Grows 0 env mid → Grows 1 (deeper mid) out → Entered env out
Entered-grows env mid out g h = record {
  begins = Begin-trans env.entries mid.entries out.entries g.begins h.begins;
  most = omega (arith, g.most, h.most);
}

pub judge_enter-grows : (classes : List Class) (env out : Env) (x : Variable) (fs : List Name) (z : Name) →
    judge_enter classes env x fs z ≡ Ok out → Entered env out
judge_enter-grows classes env out x [] z h =
    let e = bind-ok (ok_or (entry_of env x) Unknown) _ out h in
    let c = bind-ok (ok_or (iso_class e.0.ty) Mismatch) _ out e.2 in
    let r = test-then (is_ready e.0.readiness) _ _ out c.2 in
    let v = test-then (negated (visible env (Some z))) _ _ out r.1 in
    let o : with_variable (deeper (marked x lent env)) (Some z) (Ref Mut c.0) true ≡ out = grind arith in
    rw (← o) (Entered-grows env (marked x lent env) _ (Grows-marked x lent env)
    (Grows-with_variable (deeper (marked x lent env)) (Some z) (Ref Mut c.0) true))
judge_enter-grows classes env out x (f ∷ fs) z h =
    let t = bind-ok (writable_field classes env x f fs) _ out h in
    let c = bind-ok (ok_or (iso_class t.0) Mismatch) _ out t.2 in
    let v = test-then (negated (visible env (Some z))) _ _ out c.2 in
    let o : with_variable (deeper env) (Some z) (Ref Mut c.0) true ≡ out = grind arith in
    rw (← o) (Entered-grows env env _ (Grows-same env) (Grows-with_variable (deeper env) (Some z) (Ref Mut c.0) true))

left-grows : (x : Variable) (fs : List Name) (env : Env) → Grows 0 env (left x fs env)
left-grows x [] env = Grows-marked x ready env
left-grows x (f ∷ fs) env = Grows-same env

judge_print-grows : (classes : List Class) (env out : Env) (e : Expr) → judge_print classes env e ≡ Ok out → Grows 0 env out
judge_print-grows classes env out e h =
    let j = bind-ok (judge_expr classes env None e) _ out h in
    let t = test-then (printable j.0.ty) _ _ out j.2 in
    let o : j.0.env ≡ out = grind arith in rw (← o) (judge_expr-grows classes env None e j.0 j.1)

judge_return-grows : (classes : List Class) (last : Option Ty) (env out : Env) (e : Expr) → judge_return classes last env e ≡ Ok out → Grows 0 env out
judge_return-grows classes last env out e h =
    let t = bind-ok (ok_or last Return) _ out h in
    let j = bind-ok (judge_expr classes env (Some t.0) e) _ out t.2 in
    let o : j.0.env ≡ out = grind arith in rw (← o) (judge_expr-grows classes env (Some t.0) e j.0 j.1)

mutual
  pub judge_stmt-grows : (classes : List Class) (last : Option Ty) (env out : Env) (s : Stmt) → judge_stmt classes last env s ≡ Ok out →
      Grows (stmt_names s) env out
  judge_stmt-grows classes last env out (stmt line k) h = judge_kind-grows classes last line env out k h

  pub judge_kind-grows : (classes : List Class) (last : Option Ty) (line : ℕ) (env out : Env) (k : StmtKind) →
      judge_kind classes last line env k ≡ Ok out → Grows (kind_names k) env out
  judge_kind-grows classes last line env out (declare x t r) h = judge_declare-grows classes env out x t r (at_line-ok line _ out h)
  judge_kind-grows classes last line env out (assign p r) h = judge_assign-grows classes env out p.base p.fields r (at_line-ok line _ out h)
  judge_kind-grows classes last line env out (assign_element p e r) h =
      judge_assign_element-grows classes env out p.base p.fields e r (at_line-ok line _ out h)
  judge_kind-grows classes last line env out (call c) h = judge_call_alone-grows classes env out c (at_line-ok line _ out h)
  judge_kind-grows classes last line env out (swap y p) h = judge_swap-grows classes env out y p (at_line-ok line _ out h)
  judge_kind-grows classes last line env out (branch e first other) h =
      let f = bind-ok (at_line line (judge_test classes env e)) _ out h in
      let a = bind-ok (judge_block classes None f.0 first) _ out f.2 in
      let b = bind-ok (judge_else classes f.0 other) _ out a.2 in
      let o : joined (closed f.0 a.0) (closed f.0 b.0) ≡ out = grind arith in
      let t = judge_test-grows classes env f.0 e (at_line-ok line _ f.0 f.1) in
      let g = judge_block-grows classes None f.0 a.0 first a.1 in
      let h = judge_else-grows classes f.0 b.0 other b.1 in
      let c = Grows-closed (block_names first) f.0 f.0 a.0 (Begin-same f.0.entries) g in
      let d = Grows-closed (else_names other) f.0 f.0 b.0 (Begin-same f.0.entries) h in
      let j = Grows-joined f.0 (closed f.0 a.0) (closed f.0 b.0) c d in
      rw (← o) (Grows-more 0 (block_names first + else_names other) env _ (omega arith) (Grows-trans 0 0 env f.0 _ t j))
  judge_kind-grows classes last line env out (while e body) h =
      let f = bind-ok (at_line line (judge_test classes env e)) _ out h in
      let a = bind-ok (judge_block classes None f.0 body) _ out f.2 in
      let c = then-ok (at_line line (test (covers env a.0) Loop)) _ out a.2 in
      let o : env ≡ out = grind arith in rw (← o) (Grows-more 0 (block_names body) env env (omega arith) (Grows-same env))
  judge_kind-grows classes last line env out (enter p z body giving) h =
      let f = bind-ok (at_line line (judge_enter classes env p.base p.fields z)) _ out h in
      let a = bind-ok (judge_block classes None f.0 body) _ out f.2 in
      let k = then-ok (at_line line (judge_giving a.0 z giving)) _ out a.2 in
      let o : left p.base p.fields (closed env a.0) ≡ out = grind arith in
      let n = judge_enter-grows classes env f.0 p.base p.fields z (at_line-ok line _ f.0 f.1) in
      let g = judge_block-grows classes None f.0 a.0 body a.1 in
      let c = Grows-closed (block_names body) env f.0 a.0 n.begins g in
      let l = left-grows p.base p.fields (closed env a.0) in
      rw (← o) (Grows-more 0 (suc (block_names body)) env _ (omega arith) (Grows-trans 0 0 env (closed env a.0) _ c l))
  judge_kind-grows classes last line env out (print e) h = judge_print-grows classes env out e (at_line-ok line _ out h)
  judge_kind-grows classes last line env out collect h = let o : env ≡ out = grind arith in rw (← o) (Grows-same env)
  judge_kind-grows classes last line env out (return e) h = judge_return-grows classes last env out e (at_line-ok line _ out h)

  pub judge_else-grows : (classes : List Class) (env out : Env) (other : Else) → judge_else classes env other ≡ Ok out →
      Grows (else_names other) env out
  judge_else-grows classes env out no_else h = let o : env ≡ out = grind arith in rw (← o) (Grows-same env)
  judge_else-grows classes env out (otherwise b) h = judge_block-grows classes None env out b h

  pub judge_block-grows : (classes : List Class) (result : Option Ty) (env out : Env) (b : Block) → judge_block classes result env b ≡ Ok out →
      Grows (block_names b) env out
  judge_block-grows classes result env out none h = let o : env ≡ out = grind arith in rw (← o) (Grows-same env)
  judge_block-grows classes result env out (next s b) h =
      let m = bind-ok (judge_stmt classes (last_of result b) env s) _ out h in
      Grows-trans (stmt_names s) (block_names b) env m.0 out
      (judge_stmt-grows classes (last_of result b) env m.0 s m.1) (judge_block-grows classes result m.0 out b m.2)
