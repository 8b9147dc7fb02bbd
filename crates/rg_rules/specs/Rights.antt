-- Right sides: which statement has one, what it makes or calls, and its type with the environment after it, or the first code; calls likewise
-- (docs/language.md, "Judgements").
use Rattle.std.specs.Prelude.{◌==◌, not as negated, List, [], ◌∷◌, length, Option, Some, None, ok_or, Ok}
use Rattle.rg_base.specs.declared.words.Cap.{Cap}
use Rattle.rg_base.specs.declared.words.Cap.TheVariants.{Mut, Tmp, Imm, Iso}
use Rattle.rg_base.specs.declared.ty.Ty.{Ty}
use Rattle.rg_base.specs.declared.ty.Ty.TheVariants.{Int, Bool, Ref}
use Rattle.rg_base.specs.declared.fault.Code.TheVariants.{Unknown, BadType, Mismatch, Unavailable, Capability, Arity}
use Rattle.rg_tree.specs.Tree.{Name, ref, Expr, Call, Right, value, new, new_tmp, new_iso, freeze, merge, read, more, result_of, Class, StmtKind}
use Rattle.rg_tree.specs.Tree.{declare, assign, assign_element, call, swap, branch, while, enter, print, collect, return}
use Rattle.rg_rules.specs.Answers.{◌>>=◌, ◌>>◌, test, Answer}
use Rattle.rg_rules.specs.Capabilities.{below, iso_class}
use Rattle.rg_rules.specs.Types.{good_type, names_array, method_named, param_types, method_result}
use Rattle.rg_rules.specs.Environment.{Env, entry_of, is_ready, marked, gone}
use Rattle.rg_rules.specs.Paths.{walk, follow}
use Rattle.rg_rules.specs.Expressions.{Judged, against, judge_expr}

-- the right side of a statement
abbrev pub right_of : StmtKind → Option Right
right_of (declare x t r) = Some r
right_of (assign p r) = Some r
right_of (assign_element q e r) = Some r
right_of (call c) = None
right_of (swap y p) = None
right_of (branch e first other) = None
right_of (while e body) = None
right_of (enter p z body giving) = None
right_of (print e) = None
right_of collect = None
right_of (return e) = None

-- the class of which a right side makes an object by `new C` or `new C [e]`
abbrev pub right_made : Right → Option Name
right_made (value e) = None
right_made (new x size) = Some x
right_made (new_tmp x size) = None
right_made (new_iso x size m) = None
right_made (freeze y) = None
right_made (merge y) = None
right_made read = None
right_made more = None
right_made (result_of c) = None

-- the call that a right side makes
abbrev pub right_call : Right → Option Call
right_call (value e) = None
right_call (new x size) = None
right_call (new_tmp x size) = None
right_call (new_iso x size m) = None
right_call (freeze y) = None
right_call (merge y) = None
right_call read = None
right_call more = None
right_call (result_of c) = Some c

-- the type of a call's result, if its method has one, and the environment afterwards
pub record Called : Type 0 where
  pub result : Option Ty
  pub env : Env

-- arguments in order, each against its parameter's type; there are as many
abbrev pub judge_args : List Class → Env → List Ty → List Expr → Answer Env
judge_args classes env (t ∷ ts) (a ∷ others) = do
  j ← judge_expr classes env (Some t) a
  judge_args classes j.env ts others
judge_args classes env (t ∷ ts) [] = Ok env
judge_args classes env [] others = Ok env

-- `call q.m(a, b)`
abbrev pub judge_call : List Class → Env → Call → Answer Called
judge_call classes env c = do
  t ← walk classes env c.target.base c.target.fields
  r ← follow t
  m ← ok_or (method_named classes r.class c.method) Unknown
  test (below t (Ref m.receiver r.class)) Capability
  test (length c.args == length m.params) Arity
  out ← judge_args classes env (param_types classes m) c.args
  Ok (record { result = method_result classes m; env = out })

-- the number of elements, which an array class has and no other class: the environment behind it
abbrev pub judge_size : List Class → Env → Name → (size : Option Expr) → Answer Env
judge_size classes env x None = do
  test (negated (names_array classes x)) BadType
  Ok env
judge_size classes env x (Some e) = do
  test (names_array classes x) BadType
  j ← judge_expr classes env (Some Int) e
  Ok j.env

-- `new C`, `new tmp C`, `new iso C in M`, and with `[e]` behind C: the class is known, and the capability goes with it
abbrev pub judge_new : List Class → Env → (wanted : Ty) → Cap → Name → (size : Option Expr) → Answer Judged
judge_new classes env wanted cap x size = do
  t ← good_type classes (ref cap x)
  out ← judge_size classes env x size
  against (Some wanted) t out

-- `freeze y`, `merge y`: an `iso` variable is used up, and its object gets the capability
abbrev pub judge_consumed : Env → (wanted : Ty) → Cap → Name → Answer Judged
judge_consumed env wanted cap y = do
  e ← ok_or (entry_of env (Some y)) Unknown
  c ← ok_or (iso_class e.ty) Mismatch
  test (is_ready e.readiness) Unavailable
  against (Some wanted) (Ref cap c) (marked (Some y) gone env)

-- a right side, of which a type is expected
abbrev pub judge_right : List Class → Env → (wanted : Ty) → Right → Answer Judged
judge_right classes env wanted (value e) = judge_expr classes env (Some wanted) e
judge_right classes env wanted (new x size) = judge_new classes env wanted Mut x size
judge_right classes env wanted (new_tmp x size) = judge_new classes env wanted Tmp x size
judge_right classes env wanted (new_iso x size m) = judge_new classes env wanted Iso x size
judge_right classes env wanted (freeze y) = judge_consumed env wanted Imm y
judge_right classes env wanted (merge y) = judge_consumed env wanted Mut y
judge_right classes env wanted read = against (Some wanted) Int env
judge_right classes env wanted more = against (Some wanted) Bool env
judge_right classes env wanted (result_of c) = do
  j ← judge_call classes env c
  t ← ok_or j.result Mismatch
  against (Some wanted) t j.env
