-- Behind an expression, a right side or a call there are the variables that were in front of it.
use Rattle.std.proofs.Common.{◌≡◌, ◌==◌, Bool as Truth, true, false, not as negated, if◌then◌else◌, List, [], ◌∷◌, length, Option, None, Some, ok_or}
use Rattle.std.proofs.Common.{Ok, arith}
use Rattle.rg_base.specs.declared.words.Cap.{Cap}
use Rattle.rg_base.specs.declared.words.Cap.TheVariants.{Mut, Tmp, Imm, Iso}
use Rattle.rg_base.specs.declared.ty.Ty.{Ty}
use Rattle.rg_base.specs.declared.ty.Ty.TheVariants.{Int, Bool, Ref}
use Rattle.rg_base.specs.declared.fault.Code.TheVariants.{Unknown, Mismatch}
use Rattle.rg_tree.specs.Tree.{Name, Variable, ref, Expr, number, boolean, nil, path, is_nil, neg, not, binary, size, element, Call, Right, value}
use Rattle.rg_tree.specs.Tree.{new, new_tmp, new_iso, freeze, merge, read, more, result_of, Class}
use Rattle.rg_rules.specs.Capabilities.{below, is_iso, iso_class}
use Rattle.rg_rules.specs.Types.{good_type, names_array, method_named, param_types}
use Rattle.rg_rules.specs.Environment.{Entry, Env, entry_of, seen_type, available, is_ready, marked, used, gone}
use Rattle.rg_rules.specs.Paths.{read_through, walk, walk_array, follow}
use Rattle.rg_rules.specs.Expressions.{Judged, against, nil_type, judge_path, judge_is_nil, among, operand_type, result_type, judge_expr}
use Rattle.rg_rules.specs.Rights.{Called, judge_args, judge_call, judge_size, judge_new, judge_consumed, judge_right}
use Rattle.rg_rules.proofs.Answers.{bind-ok, then-ok, test-then}
use Rattle.rg_rules.proofs.Expression.{against-ok, binary-ok}
use Rattle.rg_type.proofs.Alike.{Grows, Grows-same, Grows-trans, Grows-marked}

used-grows : (x : Variable) (e : Entry) (env : Env) → Grows 0 env (used x e env)
used-grows x e env = by_test (is_iso e.ty)
  where
    by_test : (b : Truth) → Grows 0 env (if b then marked x gone env else env)
    by_test true = Grows-marked x gone env
    by_test false = Grows-same env

against-grows : (w : Option Ty) (t : Ty) (env mid : Env) (j : Judged) → Grows 0 env mid → against w t mid ≡ Ok j → Grows 0 env j.env
against-grows w t env mid j g h = rw ((against-ok w t mid j h).env_is) g

judge_path-grows : (classes : List Class) (env : Env) (x : Variable) (fs : List Name) (j : Judged) →
    judge_path classes env x fs ≡ Ok j → Grows 0 env j.env
judge_path-grows classes env x [] j h =
    let p = bind-ok (ok_or (entry_of env x) Unknown) _ j h in
    let q = test-then (available p.0) _ _ j p.2 in
    let e : record { ty = seen_type env p.0; env = used x p.0 env } ≡ j = grind arith in rw (← e) (used-grows x p.0 env)
judge_path-grows classes env x (f ∷ fs) j h =
    let p = bind-ok (walk classes env x (f ∷ fs)) _ j h in
    let q = test-then (negated (is_iso p.0)) _ _ j p.2 in
    let e : record { ty = p.0; env = env } ≡ j = grind arith in rw (← e) (Grows-same env)

pub judge_expr-grows : (classes : List Class) (env : Env) (w : Option Ty) (e : Expr) (j : Judged) →
    judge_expr classes env w e ≡ Ok j → Grows 0 env j.env
judge_expr-grows classes env w (number z) j h = against-grows w Int env env j (Grows-same env) h
judge_expr-grows classes env w (boolean b) j h = against-grows w Bool env env j (Grows-same env) h
judge_expr-grows classes env w nil j h =
    let p = bind-ok (nil_type w) _ j h in against-grows w p.0 env env j (Grows-same env) p.2
judge_expr-grows classes env w (path q) j h =
    let p = bind-ok (judge_path classes env q.base q.fields) _ j h in
    against-grows w p.0.ty env p.0.env j (judge_path-grows classes env q.base q.fields p.0 p.1) p.2
judge_expr-grows classes env w (is_nil q) j h =
    let p = then-ok (judge_is_nil classes env q.base q.fields) _ j h in against-grows w Bool env env j (Grows-same env) p.2
judge_expr-grows classes env w (neg a) j h =
    let p = bind-ok (judge_expr classes env (Some Int) a) _ j h in
    against-grows w Int env p.0.env j (judge_expr-grows classes env (Some Int) a p.0 p.1) p.2
judge_expr-grows classes env w (not a) j h =
    let p = bind-ok (judge_expr classes env (Some Bool) a) _ j h in
    against-grows w Bool env p.0.env j (judge_expr-grows classes env (Some Bool) a p.0 p.1) p.2
judge_expr-grows classes env w (binary op a b) j h =
    let p = binary-ok classes env w (among op) a b j h in
    let g = judge_expr-grows classes env (operand_type (among op)) a p.l p.operands.left in
    let k = judge_expr-grows classes p.l.env (operand_type (among op)) b p.r p.operands.right in
    against-grows w (result_type (among op)) env p.r.env j (Grows-trans 0 0 env p.l.env p.r.env g k) p.last
judge_expr-grows classes env w (size q) j h =
    let p = then-ok (walk_array classes env q.base q.fields) _ j h in against-grows w Int env env j (Grows-same env) p.2
judge_expr-grows classes env w (element q e) j h =
    let a = bind-ok (walk_array classes env q.base q.fields) _ j h in
    let t = bind-ok (read_through a.0.receiver a.0.ty) _ j a.2 in
    let i = bind-ok (judge_expr classes env (Some Int) e) _ j t.2 in
    against-grows w t.0 env i.0.env j (judge_expr-grows classes env (Some Int) e i.0 i.1) i.2

judge_args-grows : (classes : List Class) (env out : Env) (ts : List Ty) (args : List Expr) → judge_args classes env ts args ≡ Ok out →
    Grows 0 env out
judge_args-grows classes env out (t ∷ ts) (a ∷ others) h =
    let p = bind-ok (judge_expr classes env (Some t) a) _ out h in
    Grows-trans 0 0 env p.0.env out (judge_expr-grows classes env (Some t) a p.0 p.1) (judge_args-grows classes p.0.env out ts others p.2)
judge_args-grows classes env out (t ∷ ts) [] h = let e : env ≡ out = grind arith in rw (← e) (Grows-same env)
judge_args-grows classes env out [] others h = let e : env ≡ out = grind arith in rw (← e) (Grows-same env)

pub judge_call-grows : (classes : List Class) (env : Env) (c : Call) (j : Called) → judge_call classes env c ≡ Ok j → Grows 0 env j.env
judge_call-grows classes env c j h =
    let t = bind-ok (walk classes env c.target.base c.target.fields) _ j h in
    let r = bind-ok (follow t.0) _ j t.2 in
    let m = bind-ok (ok_or (method_named classes r.0.class c.method) Unknown) _ j r.2 in
    let b = test-then (below t.0 (Ref m.0.receiver r.0.class)) _ _ j m.2 in
    let n = test-then (length c.args == length m.0.params) _ _ j b.1 in
    let a = bind-ok (judge_args classes env (param_types classes m.0) c.args) _ j n.1 in
    let e : a.0 ≡ j.env = grind arith in rw (← e) (judge_args-grows classes env a.0 _ c.args a.1)

judge_size-grows : (classes : List Class) (env out : Env) (x : Name) (o : Option Expr) → judge_size classes env x o ≡ Ok out → Grows 0 env out
judge_size-grows classes env out x None h =
    let t = test-then (negated (names_array classes x)) _ _ out h in
    let e : env ≡ out = grind arith in rw (← e) (Grows-same env)
judge_size-grows classes env out x (Some e) h =
    let t = test-then (names_array classes x) _ _ out h in
    let j = bind-ok (judge_expr classes env (Some Int) e) _ out t.1 in
    let o : j.0.env ≡ out = grind arith in rw (← o) (judge_expr-grows classes env (Some Int) e j.0 j.1)

judge_new-grows : (classes : List Class) (env : Env) (w : Ty) (cap : Cap) (x : Name) (o : Option Expr) (j : Judged) →
    judge_new classes env w cap x o ≡ Ok j → Grows 0 env j.env
judge_new-grows classes env w cap x o j h =
    let p = bind-ok (good_type classes (ref cap x)) _ j h in
    let s = bind-ok (judge_size classes env x o) _ j p.2 in
    against-grows (Some w) p.0 env s.0 j (judge_size-grows classes env s.0 x o s.1) s.2

judge_consumed-grows : (env : Env) (w : Ty) (cap : Cap) (y : Name) (j : Judged) → judge_consumed env w cap y ≡ Ok j → Grows 0 env j.env
judge_consumed-grows env w cap y j h =
    let e = bind-ok (ok_or (entry_of env (Some y)) Unknown) _ j h in
    let c = bind-ok (ok_or (iso_class e.0.ty) Mismatch) _ j e.2 in
    let t = test-then (is_ready e.0.readiness) _ _ j c.2 in
    against-grows (Some w) (Ref cap c.0) env (marked (Some y) gone env) j (Grows-marked (Some y) gone env) t.1

pub judge_right-grows : (classes : List Class) (env : Env) (w : Ty) (r : Right) (j : Judged) → judge_right classes env w r ≡ Ok j → Grows 0 env j.env
judge_right-grows classes env w (value e) j h = judge_expr-grows classes env (Some w) e j h
judge_right-grows classes env w (new x o) j h = judge_new-grows classes env w Mut x o j h
judge_right-grows classes env w (new_tmp x o) j h = judge_new-grows classes env w Tmp x o j h
judge_right-grows classes env w (new_iso x o m) j h = judge_new-grows classes env w Iso x o j h
judge_right-grows classes env w (freeze y) j h = judge_consumed-grows env w Imm y j h
judge_right-grows classes env w (merge y) j h = judge_consumed-grows env w Mut y j h
judge_right-grows classes env w read j h = against-grows (Some w) Int env env j (Grows-same env) h
judge_right-grows classes env w more j h = against-grows (Some w) Bool env env j (Grows-same env) h
judge_right-grows classes env w (result_of c) j h =
    let p = bind-ok (judge_call classes env c) _ j h in
    let t = bind-ok (ok_or p.0.result Mismatch) _ j p.2 in
    against-grows (Some w) t.0 env p.0.env j (judge_call-grows classes env c p.0 p.1) t.2
