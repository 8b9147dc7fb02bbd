-- Right sides and calls, step by step.
use Rattle.std.proofs.Common.{◌≡◌, refl, sym, ap, ap₂, subst, ◌∙◌, ℕ, suc, ◌+◌, ◌<◌, ◌≤◌, ◌==◌, Bool as Truth, true, false, List, map, length, drop}
use Rattle.std.proofs.Common.{drop-cons, get_or, Option}
use Rattle.std.proofs.Common.{Some, ok_or, Result, Ok, Err, OnOk, add-one, arith}
use Rattle.std.proofs.lemmas.Bool.{eq-eqb}
use Rattle.std.proofs.lemmas.List.{drop_all, length-map}
use Rattle.rg_base.specs.declared.words.Cap.{Cap}
use Rattle.rg_base.specs.declared.words.Cap.TheVariants.{Mut, Tmp, Paused, Imm, Iso}
use Rattle.rg_base.specs.declared.ty.Ty.{Ty}
use Rattle.rg_base.specs.declared.ty.Ty.TheVariants.{Int, Bool, Ref}
use Rattle.rg_base.specs.declared.fault.Code.{Code}
use Rattle.rg_base.specs.declared.fault.Code.TheVariants.{Unknown, Mismatch, Capability, Arity}
use Rattle.rg_tree.specs.Tree.{Name, ref, Expr, Call, Method, Class}
use Rattle.rg_tree.specs.Rows.Tables.{Tables, name_at, numbers_in}
use Rattle.rg_tree.specs.Rows.RowTrees.{call_of, classes_of, param_at, expr_at}
use Rattle.rg_tree.specs.declared.rows.CallRow.{CallRow}
use Rattle.rg_rules.specs.Answers.{◌>>=◌, ◌>>◌, test, Answer}
use Rattle.rg_rules.specs.Capabilities.{below, iso_class}
use Rattle.rg_rules.specs.Types.{type_of, good_type, method_named, method_result, param_types}
use Rattle.rg_rules.specs.Environment.{Entry, Env, entry_of, is_ready, marked, gone}
use Rattle.rg_rules.specs.Paths.{Followed, follow, walk}
use Rattle.rg_rules.specs.Expressions.{Judged, against, judge_expr}
use Rattle.rg_rules.specs.Rights.{Called, judge_args, judge_call, judge_size, judge_new, judge_consumed}
use Rattle.rg_names.specs.declared.entry.Sig.{Sig}
use Rattle.rg_names.specs.TreeAnswers.{IsKnown, MethodIs, HasGoodParams}
use Rattle.rg_flow.specs.Scope.{Scope, env_of}
use Rattle.rg_flow.specs.States.{IsReadable}
use Rattle.rg_expressions.specs.Judging.{TypedAs}
use Rattle.rg_type.specs.Inner.Calls.{LeadsAs, method_behind, param_type, SigAs}

-- `new C` and the like: the class is good, and its size is
pub TypedAs-new : (classes : List Class) (env new : Env) (wanted ty : Ty) (cap : Cap) (x : Name) (size : Option Expr) (r : Result Ty Code) →
    Ok ty ≡ good_type classes (ref cap x) → judge_size classes env x size ≡ Ok new → TypedAs (against (Some wanted) ty new) new r →
    TypedAs (judge_new classes env wanted cap x size) new r
TypedAs-new classes env new wanted ty cap x size r e s h =
    subst (λ (g : Answer Ty). TypedAs (◌>>=◌ g (λ t. ◌>>=◌ (judge_size classes env x size) (λ out. against (Some wanted) t out))) new r) e
    (subst (λ (o : Answer Env). TypedAs (◌>>=◌ o (λ out. against (Some wanted) ty out)) new r) (sym s) h)

-- what holds behind a right side holds where its type was the wanted one
pub OnOk-where : {A : Type 0} (P : Type 0) (r : Result A Code) → P → OnOk r P
OnOk-where P (Ok a) h = h
OnOk-where P (Err code) h = tt

-- `freeze y`, `merge y`: the variable is there, `iso` and ready
pub TypedAs-consumed : (env new : Env) (wanted : Ty) (cap : Cap) (y : Name) (e : Entry) (c : ℕ) (r : Result Ty Code) →
    ok_or (entry_of env (Some y)) Unknown ≡ Ok e → Some c ≡ iso_class e.ty → is_ready e.readiness ≡ true → new ≡ marked (Some y) gone env →
    TypedAs (against (Some wanted) (Ref cap c) new) new r → TypedAs (judge_consumed env wanted cap y) new r
TypedAs-consumed env new wanted cap y e c r found class ready is h =
    rw (found, sym class, ready, sym is) h

-- `call q.m(a, b)`: its method has a result
pub TypedAs-result : (called : Answer Called) (new : Env) (wanted ty : Ty) (o : Option Ty) (r : Result Ty Code) →
    called ≡ Ok (record { result = o; env = new }) → o ≡ Some ty → TypedAs (against (Some wanted) ty new) new r →
    TypedAs (◌>>=◌ called (λ j. ◌>>=◌ (ok_or j.result Mismatch) (λ t. against (Some wanted) t j.env))) new r
TypedAs-result called new wanted ty o r e is h = rw (e, is) h

-- What a receiver leads to.

follow-known : (classes : List Class) (receiver : Ty) (f : Followed) → IsKnown classes receiver → follow receiver ≡ Ok f → f.class < length classes
follow-known classes Int f k e = grind arith
follow-known classes Bool f k e = grind arith
follow-known classes (Ref Mut c) f k e = let same : c ≡ f.class = grind arith in rw (← same) k
follow-known classes (Ref Tmp c) f k e = let same : c ≡ f.class = grind arith in rw (← same) k
follow-known classes (Ref Paused c) f k e = let same : c ≡ f.class = grind arith in rw (← same) k
follow-known classes (Ref Imm c) f k e = let same : c ≡ f.class = grind arith in rw (← same) k
follow-known classes (Ref Iso c) f k e = grind arith

-- its class is one of the program
pub LeadsAs-class : (classes : List Class) (receiver : Ty) (class : ℕ) → IsKnown classes receiver → LeadsAs (follow receiver) (Ok class) →
    class < length classes
LeadsAs-class classes receiver class k (f, e, same) = subst (λ c. c < length classes) same (follow-known classes receiver f k e)

-- The method that is called.

pub SigAs-found : (t : Tables) (class name : ℕ) (s : Sig) → MethodIs t class name s → HasGoodParams t s → (receiver : Ty) →
    LeadsAs (follow receiver) (Ok class) → below receiver (Ref s.cap class) ≡ true →
    SigAs t (method_behind (classes_of t) receiver (name_at t name)) (Ok s)
SigAs-found t class name s m g receiver (f, e, same) b = (
  m.method,
  rw (e, same, m.named, m.cap, b) refl,
  record { span = m.rows; each = g; params = m.params; result = m.result; known = m.known },
)

-- The arguments.

-- the types of parameters
abbrev pub types_at : Tables → List ℕ → List Ty
types_at t ks = map (λ p. type_of (classes_of t) p.ty) (map (param_at t) ks)

-- the first i arguments were judged
pub record ArgsUpTo (t : Tables) (front : Scope) (params args : List ℕ) (i : ℕ) (here : Scope) : Type 0 where
  pub scope : IsReadable t here
  pub rest : judge_args (classes_of t) (env_of t here) (types_at t (drop i params)) (map (expr_at t) (drop i args))
      ≡ judge_args (classes_of t) (env_of t front) (types_at t params) (map (expr_at t) args)

-- the next argument has a fault
pub args-fail : (t : Tables) (front here : Scope) (params args : List ℕ) (i : ℕ) (code : Code) → i < length params → i < length args →
    ArgsUpTo t front params args i here →
    judge_expr (classes_of t) (env_of t here) (Some (param_type t (get_or params i 0))) (expr_at t (get_or args i 0)) ≡ Err code →
    judge_args (classes_of t) (env_of t front) (types_at t params) (map (expr_at t) args) ≡ Err code
args-fail t front here params args i code l m u h =
    let r = rw (drop-cons params i 0 l, drop-cons args i 0 m) at u.rest in
    sym r ∙ ap (λ (j : Answer Judged). ◌>>=◌ j (λ k. judge_args (classes_of t) k.env (types_at t (drop (suc i) params))
    (map (expr_at t) (drop (suc i) args)))) h

-- the next argument has none
pub args-step : (t : Tables) (front here out : Scope) (params args : List ℕ) (i : ℕ) (ty : Ty) → i < length params → i < length args →
    ArgsUpTo t front params args i here →
    judge_expr (classes_of t) (env_of t here) (Some (param_type t (get_or params i 0))) (expr_at t (get_or args i 0))
    ≡ Ok (record { ty = ty; env = env_of t out }) →
    IsReadable t out → ArgsUpTo t front params args (i + 1) out
args-step t front here out params args i ty l m u h w =
    let r = rw (drop-cons params i 0 l, drop-cons args i 0 m) at u.rest in
    let go = ap (λ (j : Answer Judged). ◌>>=◌ j (λ k. judge_args (classes_of t) k.env (types_at t (drop (suc i) params))
    (map (expr_at t) (drop (suc i) args)))) h in
    rw add-one (record { scope = w; rest = sym go ∙ r })

-- no argument is left
pub args-end : (t : Tables) (front here : Scope) (params args : List ℕ) (i : ℕ) → length params ≤ i → length args ≤ i →
    ArgsUpTo t front params args i here →
    judge_args (classes_of t) (env_of t front) (types_at t params) (map (expr_at t) args) ≡ Ok (env_of t here)
args-end t front here params args i l m u =
    sym u.rest
    ∙ ap₂ (λ ps qs. judge_args (classes_of t) (env_of t here) (types_at t ps) (map (expr_at t) qs)) (drop_all i params l) (drop_all i args m)

-- The call.

-- what is judged behind the method
abbrev pub call_of_method : List Class → Env → Call → Method → Answer Called
call_of_method classes env c m = do
  test (length c.args == length m.params) Arity
  out ← judge_args classes env (param_types classes m) c.args
  Ok (record { result = method_result classes m; env = out })

-- what follows a test may be moved behind it, and so for what was looked up and followed
test_first : {A B : Type 0} (b : Truth) (e : Code) (a : A) (go : A → Answer B) → ◌>>◌ (test b e) (go a) ≡ ◌>>=◌ (◌>>◌ (test b e) (Ok a)) go
test_first true e a go = refl
test_first false e a go = refl

look_first : {A B : Type 0} (o : Answer A) (holds : A → Truth) (e : Code) (go : A → Answer B) →
    ◌>>=◌ o (λ a. ◌>>◌ (test (holds a) e) (go a)) ≡ ◌>>=◌ (◌>>=◌ o (λ a. ◌>>◌ (test (holds a) e) (Ok a))) go
look_first (Ok a) holds e go = test_first (holds a) e a go
look_first (Err code) holds e go = refl

follow_first : {F A B : Type 0} (r : Answer F) (look : F → Answer A) (holds : F → A → Truth) (e : Code) (go : A → Answer B) →
    ◌>>=◌ r (λ f. ◌>>=◌ (look f) (λ a. ◌>>◌ (test (holds f a) e) (go a)))
    ≡ ◌>>=◌ (◌>>=◌ r (λ f. ◌>>=◌ (look f) (λ a. ◌>>◌ (test (holds f a) e) (Ok a)))) go
follow_first (Ok f) look holds e go = look_first (look f) (holds f) e go
follow_first (Err code) look holds e go = refl

module _ (classes : List Class) (env : Env) (c : Call) (t : Ty) (w : Ok t ≡ walk classes env c.target.base c.target.fields) where
  pub judge_call-method : judge_call classes env c ≡ ◌>>=◌ (method_behind classes t c.method) (call_of_method classes env c)
  judge_call-method =
      rw (sym w) (follow_first (follow t) (λ f. ok_or (method_named classes f.class c.method) Unknown)
      (λ f m. below t (Ref m.receiver f.class)) Capability
      (call_of_method classes env c))

  -- there is no such method
  pub call-no_method : (code : Code) → method_behind classes t c.method ≡ Err code → judge_call classes env c ≡ Err code
  call-no_method code e = judge_call-method ∙ ap (λ r. ◌>>=◌ r (call_of_method classes env c)) e

  module _ (m : Method) (e : method_behind classes t c.method ≡ Ok m) where
    call-found : judge_call classes env c ≡ call_of_method classes env c m
    call-found = judge_call-method ∙ ap (λ r. ◌>>=◌ r (call_of_method classes env c)) e

    call-args : (length c.args == length m.params) ≡ true → (r : Answer Env) → judge_args classes env (param_types classes m) c.args ≡ r →
        judge_call classes env c ≡ ◌>>=◌ r (λ out. Ok (record { result = method_result classes m; env = out }))
    call-args y r a = call-found ∙ rw (y, a) refl

-- the arguments are judged against the types of the parameters
pub call-judged : (t : Tables) (env : Env) (row : CallRow) (receiver : Ty) (s : Sig) (params args : List ℕ) (r : Answer Env) →
    Ok receiver ≡ walk (classes_of t) env (call_of t row).target.base (call_of t row).target.fields →
    SigAs t (method_behind (classes_of t) receiver (name_at t row.method)) (Ok s) →
    params ≡ numbers_in t s.params → args ≡ numbers_in t row.args → length args ≡ length params →
    judge_args (classes_of t) env (types_at t params) (map (expr_at t) args) ≡ r →
    judge_call (classes_of t) env (call_of t row) ≡ ◌>>=◌ r (λ out. Ok (record { result = s.result; env = out }))
call-judged t env row receiver s params args r w (m, e, is) ps qs l j =
    let typed : types_at t params ≡ param_types (classes_of t) m = ap (types_at t) ps ∙ ap (map (λ p. type_of (classes_of t) p.ty)) is.params in
    let given : length (call_of t row).args ≡ length args = length-map (numbers_in t row.args) (expr_at t) ∙ ap length (sym qs) in
    let taken : length params ≡ length m.params = ap length ps ∙ sym (length-map (numbers_in t s.params) (param_at t)) ∙ ap length is.params in
    let judged : judge_args (classes_of t) env (param_types (classes_of t) m) (call_of t row).args ≡ r =
    sym (ap₂ (judge_args (classes_of t) env) typed (ap (map (expr_at t)) qs)) ∙ j in
    call-args (classes_of t) env (call_of t row) receiver w m e (eq-eqb _ _ (given ∙ l ∙ taken)) r judged
    ∙ ap (λ (o : Option Ty). ◌>>=◌ r (λ out. Ok (record { result = o; env = out }))) is.result
