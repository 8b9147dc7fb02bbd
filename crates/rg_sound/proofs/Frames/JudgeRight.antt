-- Behind an expression, a call or a right side there are the variables that were in front of it.
use Rattle.std.proofs.Common.{◌≡◌, refl, subst, ◌==◌, Bool as Truth, true, false, ◌||◌, not as negated, if◌then◌else◌, List, [], ◌∷◌, length}
use Rattle.std.proofs.Common.{Option, None}
use Rattle.std.proofs.Common.{Some, ok_or, Ok, arith}
use Rattle.rg_base.specs.declared.ty.Ty.{Ty}
use Rattle.rg_base.specs.declared.ty.Ty.TheVariants.{Int, Bool, Ref}
use Rattle.rg_base.specs.declared.words.Cap.{Cap}
use Rattle.rg_base.specs.declared.words.Cap.TheVariants.{Mut, Tmp, Imm, Iso}
use Rattle.rg_base.specs.declared.fault.Code.TheVariants.{Unknown, Mismatch}
use Rattle.rg_tree.specs.Tree.{Name, Variable, ref, Expr, number, boolean, nil, path, is_nil, neg, not, binary, size, element, Call, Right}
use Rattle.rg_tree.specs.Tree.{value, new, new_tmp, new_iso, freeze, merge, read, more, result_of, Class}
use Rattle.rg_rules.specs.Capabilities.{below, is_iso, iso_class}
use Rattle.rg_rules.specs.Types.{good_type, names_array, method_named, param_types}
use Rattle.rg_rules.specs.Environment.{Readiness, Env, Entry, entry_of, seen_type, available, used, gone, marked, is_ready, ready, lent}
use Rattle.rg_rules.specs.Paths.{walk, walk_array, follow}
use Rattle.rg_rules.specs.Expressions.{Judged, against, nil_type, judge_path, judge_is_nil, among, operand_type, result_type, judge_expr}
use Rattle.rg_rules.specs.Rights.{Called, judge_args, judge_call, judge_size, judge_new, judge_consumed, judge_right}
use Rattle.rg_rules.proofs.Answers.{bind-ok, then-ok, test-then, ok_or-ok}
use Rattle.rg_rules.proofs.Expression.{against-ok, binary-ok, element-ok}
use Rattle.rg_sound.proofs.Frames.Entry.{Distinct, settled_readiness, Stays, Stays-same, Stays-trans, Stays-distinct, Stays-marked}

-- Expressions

pub ready-settled : (r : Readiness) → is_ready r ≡ true → settled_readiness ready ≡ settled_readiness r
ready-settled ready h = refl
ready-settled gone h = refl
ready-settled lent h = grind arith

used-stays : (x : Variable) (e : Entry) (env : Env) → Distinct env.entries → entry_of env x ≡ Some e → available e ≡ true → Stays env (used x e env)
used-stays x e env d g a = by_iso (is_iso e.ty) a
  where
    by_iso : (b : Truth) → (negated b || is_ready e.readiness) ≡ true → Stays env (if b then marked x gone env else env)
    by_iso true h = Stays-marked x gone env e g (ready-settled e.readiness h) d
    by_iso false h = Stays-same env

against-stays : (w : Option Ty) (t : Ty) (env mid : Env) (j : Judged) → Stays env mid → against w t mid ≡ Ok j → Stays env j.env
against-stays w t env mid j g h = rw ((against-ok w t mid j h).env_is) g

judge_path-stays : (classes : List Class) (env : Env) (x : Variable) (fs : List Name) (j : Judged) → Distinct env.entries →
    judge_path classes env x fs ≡ Ok j → Stays env j.env
judge_path-stays classes env x [] j d h =
    let p = bind-ok (ok_or (entry_of env x) Unknown) _ j h in
    let q = test-then (available p.0) _ _ j p.2 in
    let e : record { ty = seen_type env p.0; env = used x p.0 env } ≡ j = grind arith in
    let there = ok_or-ok (entry_of env x) Unknown p.0 p.1 in
    let P : Judged → Type 0 = λ k. Stays env k.env in subst P e (used-stays x p.0 env d there q.0)
judge_path-stays classes env x (f ∷ fs) j d h =
    let p = bind-ok (walk classes env x (f ∷ fs)) _ j h in
    let q = test-then (negated (is_iso p.0)) _ _ j p.2 in
    let e : record { ty = p.0; env = env } ≡ j = grind arith in
    let P : Judged → Type 0 = λ k. Stays env k.env in subst P e (Stays-same env)

pub judge_expr-stays : (classes : List Class) (env : Env) (w : Option Ty) (e : Expr) (j : Judged) → Distinct env.entries →
    judge_expr classes env w e ≡ Ok j → Stays env j.env
judge_expr-stays classes env w (number z) j d h = against-stays w Int env env j (Stays-same env) h
judge_expr-stays classes env w (boolean b) j d h = against-stays w Bool env env j (Stays-same env) h
judge_expr-stays classes env w nil j d h =
    let p = bind-ok (nil_type w) _ j h in against-stays w p.0 env env j (Stays-same env) p.2
judge_expr-stays classes env w (path q) j d h =
    let p = bind-ok (judge_path classes env q.base q.fields) _ j h in
    against-stays w p.0.ty env p.0.env j (judge_path-stays classes env q.base q.fields p.0 d p.1) p.2
judge_expr-stays classes env w (is_nil q) j d h =
    let p = then-ok (judge_is_nil classes env q.base q.fields) _ j h in against-stays w Bool env env j (Stays-same env) p.2
judge_expr-stays classes env w (neg a) j d h =
    let p = bind-ok (judge_expr classes env (Some Int) a) _ j h in
    against-stays w Int env p.0.env j (judge_expr-stays classes env (Some Int) a p.0 d p.1) p.2
judge_expr-stays classes env w (not a) j d h =
    let p = bind-ok (judge_expr classes env (Some Bool) a) _ j h in
    against-stays w Bool env p.0.env j (judge_expr-stays classes env (Some Bool) a p.0 d p.1) p.2
judge_expr-stays classes env w (binary op a b) j d h =
    let p = binary-ok classes env w (among op) a b j h in
    let g = judge_expr-stays classes env (operand_type (among op)) a p.l d p.operands.left in
    let k = judge_expr-stays classes p.l.env (operand_type (among op)) b p.r (Stays-distinct env p.l.env d g) p.operands.right in
    against-stays w (result_type (among op)) env p.r.env j (Stays-trans env p.l.env p.r.env g k) p.last
judge_expr-stays classes env w (size q) j d h =
    let p = then-ok (walk_array classes env q.base q.fields) _ j h in against-stays w Int env env j (Stays-same env) p.2
judge_expr-stays classes env w (element q e) j d h =
    let p = element-ok classes env w q e j h in
    against-stays w p.ty env p.index.env j (judge_expr-stays classes env (Some Int) e p.index d p.judged) p.last

pub judge_args-stays : (classes : List Class) (env out : Env) (ts : List Ty) (args : List Expr) → Distinct env.entries →
    judge_args classes env ts args ≡ Ok out → Stays env out
judge_args-stays classes env out (t ∷ ts) (a ∷ others) d h =
    let p = bind-ok (judge_expr classes env (Some t) a) _ out h in
    let g = judge_expr-stays classes env (Some t) a p.0 d p.1 in
    Stays-trans env p.0.env out g (judge_args-stays classes p.0.env out ts others (Stays-distinct env p.0.env d g) p.2)
judge_args-stays classes env out (t ∷ ts) [] d h = let e : env ≡ out = grind arith in rw (← e) (Stays-same env)
judge_args-stays classes env out [] others d h = let e : env ≡ out = grind arith in rw (← e) (Stays-same env)

pub judge_call-stays : (classes : List Class) (env : Env) (c : Call) (j : Called) → Distinct env.entries → judge_call classes env c ≡ Ok j →
    Stays env j.env
judge_call-stays classes env c j d h =
    let t = bind-ok (walk classes env c.target.base c.target.fields) _ j h in
    let r = bind-ok (follow t.0) _ j t.2 in
    let m = bind-ok (ok_or (method_named classes r.0.class c.method) Unknown) _ j r.2 in
    let b = test-then (below t.0 (Ref m.0.receiver r.0.class)) _ _ j m.2 in
    let n = test-then (length c.args == length m.0.params) _ _ j b.1 in
    let a = bind-ok (judge_args classes env (param_types classes m.0) c.args) _ j n.1 in
    let e : a.0 ≡ j.env = grind arith in rw (← e) (judge_args-stays classes env a.0 _ c.args d a.1)

judge_size-stays : (classes : List Class) (env out : Env) (x : Name) (many : Option Expr) → Distinct env.entries →
    judge_size classes env x many ≡ Ok out → Stays env out
judge_size-stays classes env out x None d h =
    let p = test-then (negated (names_array classes x)) _ _ out h in
    let e : env ≡ out = let q = p.1 in grind arith in rw (← e) (Stays-same env)
judge_size-stays classes env out x (Some e) d h =
    let p = test-then (names_array classes x) _ _ out h in
    let j = bind-ok (judge_expr classes env (Some Int) e) _ out p.1 in
    let o : j.0.env ≡ out = let q = j.2 in grind arith in rw (← o) (judge_expr-stays classes env (Some Int) e j.0 d j.1)

judge_new-stays : (classes : List Class) (env : Env) (w : Ty) (cap : Cap) (x : Name) (many : Option Expr) (j : Judged) → Distinct env.entries →
    judge_new classes env w cap x many ≡ Ok j → Stays env j.env
judge_new-stays classes env w cap x many j d h =
    let p = bind-ok (good_type classes (ref cap x)) _ j h in
    let q = bind-ok (judge_size classes env x many) _ j p.2 in
    against-stays (Some w) p.0 env q.0 j (judge_size-stays classes env q.0 x many d q.1) q.2

judge_consumed-stays : (env : Env) (w : Ty) (cap : Cap) (y : Name) (j : Judged) → Distinct env.entries → judge_consumed env w cap y ≡ Ok j →
    Stays env j.env
judge_consumed-stays env w cap y j d h =
    let e = bind-ok (ok_or (entry_of env (Some y)) Unknown) _ j h in
    let c = bind-ok (ok_or (iso_class e.0.ty) Mismatch) _ j e.2 in
    let t = test-then (is_ready e.0.readiness) _ _ j c.2 in
    let there = ok_or-ok (entry_of env (Some y)) Unknown e.0 e.1 in
    against-stays (Some w) (Ref cap c.0) env (marked (Some y) gone env) j
    (Stays-marked (Some y) gone env e.0 there (ready-settled e.0.readiness t.0) d) t.1

pub judge_right-stays : (classes : List Class) (env : Env) (w : Ty) (r : Right) (j : Judged) → Distinct env.entries →
    judge_right classes env w r ≡ Ok j →
    Stays env j.env
judge_right-stays classes env w (value e) j d h = judge_expr-stays classes env (Some w) e j d h
judge_right-stays classes env w (new x n) j d h = judge_new-stays classes env w Mut x n j d h
judge_right-stays classes env w (new_tmp x n) j d h = judge_new-stays classes env w Tmp x n j d h
judge_right-stays classes env w (new_iso x n m) j d h = judge_new-stays classes env w Iso x n j d h
judge_right-stays classes env w (freeze y) j d h = judge_consumed-stays env w Imm y j d h
judge_right-stays classes env w (merge y) j d h = judge_consumed-stays env w Mut y j d h
judge_right-stays classes env w read j d h = against-stays (Some w) Int env env j (Stays-same env) h
judge_right-stays classes env w more j d h = against-stays (Some w) Bool env env j (Stays-same env) h
judge_right-stays classes env w (result_of c) j d h =
    let p = bind-ok (judge_call classes env c) _ j h in
    let t = bind-ok (ok_or p.0.result Mismatch) _ j p.2 in
    against-stays (Some w) t.0 env p.0.env j (judge_call-stays classes env c p.0 d p.1) t.2
