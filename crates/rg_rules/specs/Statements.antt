-- The environment behind a statement or a block, or the first fault (docs/language.md, "Judgements").
use Rattle.std.specs.Prelude.{ℕ, Bool as Truth, true, false, not as negated, ◌||◌, List, [], ◌∷◌, Option, Some, None, is_some, ok_or, Ok, Err}
use Rattle.rg_base.specs.declared.words.Cap.TheVariants.{Mut}
use Rattle.rg_base.specs.declared.ty.Ty.{Ty}
use Rattle.rg_base.specs.declared.ty.Ty.TheVariants.{Int, Bool, Ref}
use Rattle.rg_base.specs.declared.fault.Code.TheVariants.{Unknown, Duplicate, Mismatch, Unavailable, Capability, OutsideWindow, Loop, IsoField}
use Rattle.rg_base.specs.declared.fault.Code.TheVariants.{Return, CallTarget}
use Rattle.rg_tree.specs.Tree.{Name, Variable, Ty as Written, Path, Expr, Call, Right, Stmt, stmt, StmtKind, declare, assign, assign_element, call}
use Rattle.rg_tree.specs.Tree.{swap, branch, while, enter, print, collect, return, Else, no_else, otherwise, Block, empty as none, then as next}
use Rattle.rg_tree.specs.Tree.{Class}
use Rattle.rg_rules.specs.Answers.{◌>>=◌, ◌>>◌, test, Answer, Lined, Passed, at_line}
use Rattle.rg_rules.specs.Capabilities.{is_iso, iso_class, same_type, stays_at_depth, may_write, printable}
use Rattle.rg_rules.specs.Types.{good_type}
use Rattle.rg_rules.specs.Environment.{Env, entry_of, visible, at_depth, seen_type, with_variable, marked, is_ready, is_lent, ready, lent, deeper}
use Rattle.rg_rules.specs.Environment.{closed, joined, covers}
use Rattle.rg_rules.specs.Paths.{walk_array, writable_field}
use Rattle.rg_rules.specs.Expressions.{judge_expr}
use Rattle.rg_rules.specs.Rights.{judge_call, judge_right, right_call}

-- `let x: T = r;`
abbrev pub judge_declare : List Class → Env → Name → Written → Right → Answer Env
judge_declare classes env x t r = do
  test (negated (visible env (Some x))) Duplicate
  declared ← good_type classes t
  j ← judge_right classes env declared r
  Ok (with_variable j.env (Some x) declared true)

-- whether a right side is a call
abbrev pub is_call : Right → Truth
is_call r = is_some (right_call r)

-- `x = r;` and `q.f = r;`
abbrev pub judge_assign : List Class → Env → Variable → List Name → Right → Answer Env
judge_assign classes env x [] r = do
  e ← ok_or (entry_of env x) Unknown
  test e.assignable OutsideWindow
  test (at_depth env e || negated (stays_at_depth e.ty)) OutsideWindow
  test (negated (is_lent e.readiness)) Unavailable
  j ← judge_right classes env e.ty r
  Ok (marked x ready j.env)
judge_assign classes env x (f ∷ fs) r = do
  t ← writable_field classes env x f fs
  test (negated (is_iso t)) IsoField
  test (negated (is_call r)) CallTarget
  j ← judge_right classes env t r
  Ok j.env

-- `q[e] = r;`
abbrev pub judge_assign_element : List Class → Env → Variable → List Name → Expr → Right → Answer Env
judge_assign_element classes env x fields e r = do
  a ← walk_array classes env x fields
  test (may_write a.receiver) Capability
  test (negated (is_call r)) CallTarget
  i ← judge_expr classes env (Some Int) e
  j ← judge_right classes i.env a.ty r
  Ok j.env

-- `call q.m(a, b);`, of which nothing is expected
abbrev pub judge_call_alone : List Class → Env → Call → Answer Env
judge_call_alone classes env c = do
  j ← judge_call classes env c
  Ok j.env

-- the field of a `swap`: its path has one, which may be written
abbrev pub swapped_field : List Class → Env → Variable → List Name → Answer Ty
swapped_field classes env x [] = Err Mismatch
swapped_field classes env x (f ∷ fs) = writable_field classes env x f fs

-- `swap y, q.f;`
abbrev pub judge_swap : List Class → Env → Name → Path → Answer Env
judge_swap classes env y p = do
  e ← ok_or (entry_of env (Some y)) Unknown
  test (is_iso e.ty) Mismatch
  test (is_ready e.readiness) Unavailable
  t ← swapped_field classes env p.base p.fields
  test (same_type t e.ty) Mismatch
  Ok env

-- the test of an `if` or a `while`
abbrev pub judge_test : List Class → Env → Expr → Answer Env
judge_test classes env e = do
  j ← judge_expr classes env (Some Bool) e
  Ok j.env

-- the environment in front of the block of `enter x as z` and of `enter q.f as z`
abbrev pub judge_enter : List Class → Env → Variable → List Name → Name → Answer Env
judge_enter classes env x [] z = do
  e ← ok_or (entry_of env x) Unknown
  c ← ok_or (iso_class e.ty) Mismatch
  test (is_ready e.readiness) Unavailable
  test (negated (visible env (Some z))) Duplicate
  Ok (with_variable (deeper (marked x lent env)) (Some z) (Ref Mut c) true)
judge_enter classes env x (f ∷ fs) z = do
  t ← writable_field classes env x f fs
  c ← ok_or (iso_class t) Mismatch
  test (negated (visible env (Some z))) Duplicate
  Ok (with_variable (deeper env) (Some z) (Ref Mut c) true)

-- what `giving w` asks at the end of the block of an `enter`: w is seen as z is declared, which is the bridge
abbrev pub judge_giving : Env → (z : Name) → (giving : Option Name) → Answer Passed
judge_giving env z None = Ok tt
judge_giving env z (Some w) = do
  e ← ok_or (entry_of env (Some w)) Unknown
  bridge ← ok_or (entry_of env (Some z)) Unknown
  test (same_type (seen_type env e) bridge.ty) Mismatch

-- the environment behind an `enter`: the variable that was entered is ready again
abbrev pub left : Variable → List Name → Env → Env
left x [] env = marked x ready env
left x (f ∷ fs) env = env

-- `print e;`
abbrev pub judge_print : List Class → Env → Expr → Answer Env
judge_print classes env e = do
  j ← judge_expr classes env None e
  test (printable j.ty) Mismatch
  Ok j.env

-- `return e;`, where a result may be given
abbrev pub judge_return : List Class → (last : Option Ty) → Env → Expr → Answer Env
judge_return classes last env e = do
  t ← ok_or last Return
  j ← judge_expr classes env (Some t) e
  Ok j.env

-- the result that a statement may give which stands in front of these: only the last one of a body may give it
abbrev pub last_of : (result : Option Ty) → Block → Option Ty
last_of result none = result
last_of result (next s b) = None

abbrev mutual
  -- a statement, which may give a result if it is the last one of a body with a result; its faults have its line
  pub judge_stmt : List Class → (last : Option Ty) → Env → Stmt → Lined Env
  judge_stmt classes last env (stmt line k) = judge_kind classes last line env k

  -- what a statement says
  pub judge_kind : List Class → (last : Option Ty) → (line : ℕ) → Env → StmtKind → Lined Env
  judge_kind classes last line env (declare x t r) = at_line line (judge_declare classes env x t r)
  judge_kind classes last line env (assign p r) = at_line line (judge_assign classes env p.base p.fields r)
  judge_kind classes last line env (assign_element q e r) = at_line line (judge_assign_element classes env q.base q.fields e r)
  judge_kind classes last line env (call c) = at_line line (judge_call_alone classes env c)
  judge_kind classes last line env (swap y p) = at_line line (judge_swap classes env y p)
  judge_kind classes last line env (branch e first other) = do
    front ← at_line line (judge_test classes env e)
    out ← judge_block classes None front first
    out' ← judge_else classes front other
    Ok (joined (closed front out) (closed front out'))
  judge_kind classes last line env (while e body) = do
    front ← at_line line (judge_test classes env e)
    out ← judge_block classes None front body
    at_line line (test (covers env out) Loop)
    Ok env
  judge_kind classes last line env (enter p z body giving) = do
    front ← at_line line (judge_enter classes env p.base p.fields z)
    out ← judge_block classes None front body
    at_line line (judge_giving out z giving)
    Ok (left p.base p.fields (closed env out))
  judge_kind classes last line env (print e) = at_line line (judge_print classes env e)
  judge_kind classes last line env collect = Ok env
  judge_kind classes last line env (return e) = at_line line (judge_return classes last env e)

  -- what stands behind the first block of an `if`
  pub judge_else : List Class → Env → Else → Lined Env
  judge_else classes env no_else = Ok env
  judge_else classes env (otherwise b) = judge_block classes None env b

  -- the statements of a block, whose own variables are still there at its end
  pub judge_block : List Class → (result : Option Ty) → Env → Block → Lined Env
  judge_block classes result env none = Ok env
  judge_block classes result env (next s b) = do
    mid ← judge_stmt classes (last_of result b) env s
    judge_block classes result mid b
