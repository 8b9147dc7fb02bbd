-- The statements of a block, one by one.
use Rattle.std.proofs.Common.{◌≡◌, refl, ◌∙◌, sym, ℕ, suc, ◌+◌, ◌<◌, ◌≤◌, List, length, get_or, drop, drop-cons, None, Option, Ok, Err, Result, OnOk}
use Rattle.std.proofs.Common.{arith}
use Rattle.std.proofs.lemmas.List.{length-map}
use Rattle.rg_base.specs.declared.limits.TheConstants.{BODY_NAMES}
use Rattle.rg_base.specs.declared.ty.Ty.{Ty}
use Rattle.rg_base.specs.declared.fault.Code.{Code}
use Rattle.rg_base.specs.declared.fault.Stop.{Stop}
use Rattle.rg_tree.specs.declared.rows.Span.{Span}
use Rattle.rg_tree.specs.Rows.Tables.{Tables}
use Rattle.rg_tree.specs.Tree.{Class, Right, Stmt, Block, empty as none, then as next}
use Rattle.rg_tree.specs.Rows.RowTrees.{block_of, block_over, stmt_at, program_of}
use Rattle.rg_rules.specs.Answers.{◌>>=◌, Lined}
use Rattle.rg_rules.specs.Names.{block_names, stmt_names}
use Rattle.rg_rules.specs.Environment.{Env}
use Rattle.rg_rules.specs.Rights.{judge_right}
use Rattle.rg_rules.specs.Statements.{judge_block, judge_stmt, last_of}
use Rattle.rg_names.specs.Judged.{FailsAs}
use Rattle.rg_names.proofs.Fails.{FailsAs-bind}
use Rattle.rg_flow.specs.Scope.{Scope, env_of, entry_of}
use Rattle.rg_flow.specs.States.{IsReadable}
use Rattle.rg_type.proofs.ExpressionEnvs.{judge_right-grows}
use Rattle.rg_type.proofs.StatementEnvs.{judge_stmt-grows}

FailsAs-same : {A : Type 0} (a b : Lined A) (s : Stop) → b ≡ a → FailsAs a s → FailsAs b s
FailsAs-same a b s e h = rw e h

-- what holds where the inner call passed holds where the outer one did
pub OnOk-inner : (A : Type 0) (r : Result (Unit {0}) Stop) (d : Result (Unit {0}) Code) → OnOk r (d ≡ Ok tt) → OnOk d A → OnOk r A
OnOk-inner A (Ok u) d h k = rw h at k
OnOk-inner A (Err s) d h k = tt

-- as many variables as the rules see
pub length-entries : (t : Tables) (scope : Scope) → length (env_of t scope).entries ≡ length scope.slots
length-entries t scope = length-map scope.slots (entry_of t)

-- what the statements that are left say of the variables here is what the block says of those in front of it
pub record BlockUpTo (t : Tables) (span : Span) (front here : Scope) (left : List ℕ) : Type 0 where
  pub rest : judge_block (program_of t).classes None (env_of t here) (block_over (stmt_at t) left)
      ≡ judge_block (program_of t).classes None (env_of t front) (block_of t span)
  pub scope : IsReadable t here
  pub room : length here.slots + block_names (block_over (stmt_at t) left) ≤ BODY_NAMES

-- in a block of a statement no statement may give a result
last_of-none : (b : Block) → last_of None b ≡ None
last_of-none none = refl
last_of-none (next s b) = refl

first_of_block : (classes : List Class) (env : Env) (s : Stmt) (b : Block) →
    judge_block classes None env (next s b) ≡ ◌>>=◌ (judge_stmt classes None env s) (λ mid. judge_block classes None mid b)
first_of_block classes env s b = rw (last_of-none b) refl

-- behind a statement there are at most as many variables more as it has names
pub stmt-room : (t : Tables) (last : Option Ty) (here out : Scope) (s : Stmt) →
    judge_stmt (program_of t).classes last (env_of t here) s ≡ Ok (env_of t out) → length out.slots ≤ length here.slots + stmt_names s
stmt-room t last here out s h =
    let g = judge_stmt-grows (program_of t).classes last (env_of t here) (env_of t out) s h in
    omega (arith, g.most, length-entries t here, length-entries t out)

-- behind a right side there are no more than before
pub right-room : (t : Tables) (here out : Scope) (w : Ty) (r : Right) (ty : Ty) →
    judge_right (program_of t).classes (env_of t here) w r ≡ Ok (record { ty = ty; env = env_of t out }) → length out.slots ≤ length here.slots
right-room t here out w r ty h =
    let g = judge_right-grows (program_of t).classes (env_of t here) w r (record { ty = ty; env = env_of t out }) h in
    omega (arith, g.most, length-entries t here, length-entries t out)

module _ (t : Tables) (span : Span) (front : Scope) where
  -- there is room for the names of the next statement
  pub block-room : (here : Scope) (ks : List ℕ) (i : ℕ) → i < length ks → BlockUpTo t span front here (drop i ks) →
      length here.slots + stmt_names (stmt_at t (get_or ks i 0)) ≤ BODY_NAMES
  block-room here ks i l u = let r = rw (drop-cons ks i 0 l) at u.room in omega arith

  -- the next statement has a fault
  pub block-fails : (here : Scope) (ks : List ℕ) (i : ℕ) (s : Stop) → i < length ks → BlockUpTo t span front here (drop i ks) →
      FailsAs (judge_stmt (program_of t).classes None (env_of t here) (stmt_at t (get_or ks i 0))) s →
      FailsAs (judge_block (program_of t).classes None (env_of t front) (block_of t span)) s
  block-fails here ks i s l u h =
      let b = block_over (stmt_at t) (drop (suc i) ks) in
      let k = stmt_at t (get_or ks i 0) in
      let r = rw (drop-cons ks i 0 l) at u.rest in
      let e = first_of_block (program_of t).classes (env_of t here) k b in
      let f = FailsAs-bind (judge_stmt (program_of t).classes None (env_of t here) k) (λ mid. judge_block (program_of t).classes None mid b) s h in
      FailsAs-same _ _ s (sym r ∙ e) f

  -- the next statement has none
  pub block-step : (here out : Scope) (ks : List ℕ) (i : ℕ) → i < length ks → BlockUpTo t span front here (drop i ks) →
      judge_stmt (program_of t).classes None (env_of t here) (stmt_at t (get_or ks i 0)) ≡ Ok (env_of t out) →
      IsReadable t out → BlockUpTo t span front out (drop (i + 1) ks)
  block-step here out ks i l u h w =
      let b = block_over (stmt_at t) (drop (suc i) ks) in
      let k = stmt_at t (get_or ks i 0) in
      let s : i + 1 ≡ suc i = omega arith in
      let r = rw (drop-cons ks i 0 l) at u.rest in
      let m = rw (drop-cons ks i 0 l) at u.room in
      let e = first_of_block (program_of t).classes (env_of t here) k b in
      let n = stmt-room t None here out k h in
      let go : ◌>>=◌ (judge_stmt (program_of t).classes None (env_of t here) k) (λ mid. judge_block (program_of t).classes None mid b)
      ≡ judge_block (program_of t).classes None (env_of t out) b = rw h refl in
      rw s (record { rest = sym go ∙ sym e ∙ r; scope = w; room = omega arith })
