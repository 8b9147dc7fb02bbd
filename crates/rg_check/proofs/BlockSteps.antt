-- The statements of a body, judged one after another.
use Rattle.std.proofs.Common.{◌≡◌, ℕ, ◌+◌, ◌-◌, ◌≤◌, ◌<◌, List, [], ◌∷◌, length, take, drop, get_or, Option, None, Ok, All, refl, sym, ap, ◌∙◌, arith}
use Rattle.std.proofs.lemmas.List.Elements.{All-head, All-tail}
use Rattle.rg_base.specs.declared.ty.Ty.{Ty}
use Rattle.rg_base.specs.declared.fault.Stop.{Stop}
use Rattle.rg_base.specs.declared.limits.TheConstants.{BODY_NAMES}
use Rattle.rg_tree.specs.Tree.{Stmt, stmt, StmtKind, Block, then as next}
use Rattle.rg_tree.specs.Rows.Tables.{Tables}
use Rattle.rg_tree.specs.Rows.RowTrees.{classes_of, stmt_at, block_over}
use Rattle.rg_rules.specs.Answers.{◌>>=◌, Lined}
use Rattle.rg_rules.specs.Environment.{Env}
use Rattle.rg_rules.specs.Names.{stmt_names, block_names}
use Rattle.rg_rules.specs.Statements.{judge_stmt, judge_block, last_of}
use Rattle.rg_rules.specs.Bodies.{is_return, last_is_return, ends_in_return}
use Rattle.rg_names.specs.Judged.{FailsAs}
use Rattle.rg_flow.specs.Scope.{Scope, env_of, IsScopeIn}
use Rattle.rg_names.proofs.Fails.{FailsAs-bind, FailsAs-same}

-- the statements in front of these have no fault, and lead to these variables
pub record BlockUpTo (t : Tables) (result : Option Ty) (front : Scope) (these : List ℕ) (env : Scope) (rest : List ℕ) : Type 0 where
  pub rows : All (λ k. k < length t.stmts) rest
  pub scope : IsScopeIn t env
  pub room : length env.slots + block_names (block_over (stmt_at t) rest) ≤ BODY_NAMES
  pub judged : judge_block (classes_of t) result (env_of t env) (block_over (stmt_at t) rest)
      ≡ judge_block (classes_of t) result (env_of t front) (block_over (stmt_at t) these)

module _ (t : Tables) (result : Option Ty) (front : Scope) (these : List ℕ) (env : Scope) (rest : List ℕ) (k : ℕ) (others : List ℕ)
    (h : BlockUpTo t result front these env rest) (is : rest ≡ k ∷ others) where
  -- the judgement of the next statement
  abbrev pub one : Lined Env
  one = judge_stmt (classes_of t) (last_of result (block_over (stmt_at t) others)) (env_of t env) (stmt_at t k)

  pub block-row : k < length t.stmts
  block-row = All-head (λ n. n < length t.stmts) k others (rw is at h.rows)

  block-names : length env.slots + (stmt_names (stmt_at t k) + block_names (block_over (stmt_at t) others)) ≤ BODY_NAMES
  block-names = rw is at h.room

  pub block-room : length env.slots + stmt_names (stmt_at t k) ≤ BODY_NAMES
  block-room = omega (arith, block-names)

  block-next : judge_block (classes_of t) result (env_of t front) (block_over (stmt_at t) these)
      ≡ ◌>>=◌ one (λ mid. judge_block (classes_of t) result mid (block_over (stmt_at t) others))
  block-next = sym h.judged ∙ ap (λ ks. judge_block (classes_of t) result (env_of t env) (block_over (stmt_at t) ks)) is

  pub block-fault : (s : Stop) → FailsAs one s → FailsAs (judge_block (classes_of t) result (env_of t front) (block_over (stmt_at t) these)) s
  block-fault s f = FailsAs-same _ _ s block-next (FailsAs-bind one _ s f)

  pub block-step : (mid : Scope) → one ≡ Ok (env_of t mid) → IsScopeIn t mid → length mid.slots ≤ length env.slots + stmt_names (stmt_at t k) →
      BlockUpTo t result front these mid others
  block-step mid e scope room = record {
    rows = All-tail (λ n. n < length t.stmts) k others (rw is at h.rows);
    scope = scope;
    room = omega (arith, block-names);
    judged = sym (block-next ∙ ap (λ r. ◌>>=◌ r (λ m. judge_block (classes_of t) result m (block_over (stmt_at t) others))) e);
  }

take-whole : (xs : List ℕ) → take (length xs) xs ≡ xs
take-whole [] = refl
take-whole (x ∷ xs) = ap (λ (ys : List ℕ). x ∷ ys) (take-whole xs)

-- the next statement, and the others
pub next-and-others : (rest : List ℕ) → 1 ≤ length rest → rest ≡ get_or rest 0 0 ∷ take (length rest - 1) (drop 1 rest)
next-and-others [] l = absurd (omega arith)
next-and-others (k ∷ ks) l =
    let e : length (k ∷ ks) - 1 ≡ length ks = omega arith in
    rw e (ap (λ (xs : List ℕ). k ∷ xs) (sym (take-whole ks)))

-- What ends in `return`.

-- what a statement says
abbrev pub kind_of : Stmt → StmtKind
kind_of (stmt line k) = k

ends-next : (s : Stmt) (b : Block) → ends_in_return (next s b) ≡ last_is_return (kind_of s) b
ends-next (stmt line k) b = refl

last-next : (k : StmtKind) (s : Stmt) (b : Block) → last_is_return k (next s b) ≡ last_is_return (kind_of s) b
last-next k (stmt line other) b = refl

last_is_return-last : (at : ℕ → Stmt) (k : ℕ) (ks : List ℕ) →
    last_is_return (kind_of (at k)) (block_over at ks) ≡ is_return (kind_of (at (get_or (k ∷ ks) (length ks) 0)))
last_is_return-last at k [] = refl
last_is_return-last at k (j ∷ js) = last-next (kind_of (at k)) (at j) (block_over at js) ∙ last_is_return-last at j js

pub ends_in_return-last : (at : ℕ → Stmt) (ks : List ℕ) → 1 ≤ length ks →
    ends_in_return (block_over at ks) ≡ is_return (kind_of (at (get_or ks (length ks - 1) 0)))
ends_in_return-last at [] l = absurd (omega arith)
ends_in_return-last at (k ∷ ks) l =
    let e : length (k ∷ ks) - 1 ≡ length ks = omega arith in
    rw e (ends-next (at k) (block_over at ks) ∙ last_is_return-last at k ks)

-- What a statement may give in front of others.

pub last_of-more : (result : Option Ty) (at : ℕ → Stmt) (ks : List ℕ) → 1 ≤ length ks → None ≡ last_of result (block_over at ks)
last_of-more result at [] l = absurd (omega arith)
last_of-more result at (k ∷ ks) l = refl
