-- The rules of `if`, `while` and `enter` over rows, from what each call in turn leaves of the variables that are kept in place.
use Rattle.std.proofs.Common.{◌≡◌, sym, ap, ◌∙◌, ℕ, ◌+◌, ◌≤◌, Bool, false, length, Option, None, option_map, Ok, IsTrue, arith}
use Rattle.rg_base.specs.declared.fault.Code.TheVariants.{Loop}
use Rattle.rg_base.specs.declared.fault.Stop.{Stop}
use Rattle.rg_base.specs.declared.fault.Stop.TheVariants as stop
use Rattle.rg_tree.specs.declared.rows.Span.{Span}
use Rattle.rg_tree.specs.Rows.Tables.{Tables, name_at}
use Rattle.rg_tree.specs.Tree.{Else, StmtKind, branch, while, enter}
use Rattle.rg_tree.specs.Rows.RowTrees.{path_of, expr_at, stmt_at, else_over, block_of, program_of}
use Rattle.rg_rules.specs.Answers.{Answer, Passed as Checked, at_line}
use Rattle.rg_rules.specs.Names.{block_names, else_names}
use Rattle.rg_rules.specs.Environment.{Env}
use Rattle.rg_rules.specs.Statements.{judge_test, judge_enter, judge_giving, left, judge_kind, judge_block, judge_else}
use Rattle.rg_names.specs.Judged.{FailsAs}
use Rattle.rg_flow.specs.Scope.{Scope, closed_at, env_of}
use Rattle.rg_flow.specs.States.{IsSaved, restated, joined_with, CoversStates}
use Rattle.rg_flow.specs.declared.env.saved.Saved.{Saved}
use Rattle.rg_type.specs.declared.statements.enter.Entrance.{Entrance}
use Rattle.rg_type.proofs.Branches.{behind-test, behind-block, behind-else, behind-enter, behind-both, Closed, close-block, Restored, restore-front}
use Rattle.rg_type.proofs.Branches.{choice-env, branch-judged, branch-fails-test, branch-fails-first, branch-fails-other, repeat-uncovered}
use Rattle.rg_type.proofs.Branches.{repeat-covered, while-judged, while-fails-test, while-fails-body, while-fails, enter-judged, enter-fails}
use Rattle.rg_type.proofs.Branches.{enter-fails-body, enter-fails-giving}

-- what each call gives: the test, a block, what stands behind the first block of an `if`, and the head of an `enter`
abbrev pub Tested : Tables → (line e : ℕ) → (front out : Scope) → Type 0
Tested p line e front out = at_line line (judge_test (program_of p).classes (env_of p front) (expr_at p e)) ≡ Ok (env_of p out)

abbrev pub Passed : Tables → Span → (front out : Scope) → Type 0
Passed p span front out = judge_block (program_of p).classes None (env_of p front) (block_of p span) ≡ Ok (env_of p out)

abbrev pub else_of : Tables → Option Span → Else
else_of p other_span = else_over p (stmt_at p) other_span

abbrev pub PassedElse : Tables → Option Span → (front out : Scope) → Type 0
PassedElse p other_span front out = judge_else (program_of p).classes (env_of p front) (else_of p other_span) ≡ Ok (env_of p out)

abbrev pub Entered : Tables → (line : ℕ) → Entrance → (front out : Scope) → Type 0
Entered p line e front out =
    at_line line (judge_enter (program_of p).classes (env_of p front) (path_of p e.path).base (path_of p e.path).fields (name_at p e.name))
    ≡ Ok (env_of p out)

-- what `giving` asks of the variables at the end of a block
abbrev pub giving_of : Tables → Entrance → Scope → Answer Checked
giving_of p e out = judge_giving (env_of p out) (name_at p e.name) (option_map (name_at p) e.giving)

-- a statement with blocks has a fault
abbrev pub Fails : Tables → (line : ℕ) → Scope → StmtKind → Stop → Type 0
Fails p line env k s = FailsAs (judge_kind (program_of p).classes None line (env_of p env) k) s

-- it has none
abbrev pub Leaves : Tables → (line : ℕ) → Scope → StmtKind → Scope → Type 0
Leaves p line env k out = judge_kind (program_of p).classes None line (env_of p env) k ≡ Ok (env_of p out)

-- the statements of rows
abbrev pub if_of : Tables → (e : ℕ) → Span → Option Span → StmtKind
if_of p e first_span other_span = branch (expr_at p e) (block_of p first_span) (else_of p other_span)

abbrev pub while_of : Tables → (e : ℕ) → Span → StmtKind
while_of p e body = while (expr_at p e) (block_of p body)

abbrev pub enter_of : Tables → Entrance → Span → StmtKind
enter_of p e body = enter (path_of p e.path) (name_at p e.name) (block_of p body) (option_map (name_at p) e.giving)

module _ (p : Tables) where
  -- how many variables there are
  pub tested-room : (line e : ℕ) (front out : Scope) → Tested p line e front out → length out.slots ≤ length front.slots
  tested-room line e front out h =
      let b = behind-test p (program_of p).classes line front out (expr_at p e) h in omega (arith, b.most)

  pub entered-room : (line : ℕ) (e : Entrance) (front out : Scope) → Entered p line e front out → length out.slots ≤ length front.slots + 1
  entered-room line e front out h =
      (behind-enter p (program_of p).classes line front out (path_of p e.path).base (path_of p e.path).fields (name_at p e.name) h).most

  pub block-within : (span : Span) (front out : Scope) → Passed p span front out → length front.slots ≤ length out.slots
  block-within span front out h = (behind-block p (program_of p).classes None front out (block_of p span) h).within

  pub else-within : (other_span : Option Span) (front out : Scope) → PassedElse p other_span front out → length front.slots ≤ length out.slots
  else-within other_span front out h = (behind-else p (program_of p).classes front out (else_of p other_span) h).within

  -- the variables behind a block, and those in front of it again
  pub block-closed : (span : Span) (saved : Saved) (front out here : Scope) → IsSaved saved front → Passed p span front out →
      here ≡ closed_at saved.depth saved.len out → Closed p front out here
  block-closed span saved front out here s h e =
      close-block p saved.depth saved.len (block_names (block_of p span)) front out here s.depth s.len
      (behind-block p (program_of p).classes None front out (block_of p span) h) e

  pub block-again : (span : Span) (saved : Saved) (front out here new : Scope) → IsSaved saved front → Passed p span front out →
      here ≡ closed_at saved.depth saved.len out → new ≡ restated saved.flow here → Restored p front new
  block-again span saved front out here new s h e r = restore-front p saved front out here new s (block-closed span saved front out here s h e) r

  else-closed : (other_span : Option Span) (saved : Saved) (front again out here : Scope) → IsSaved saved front → Restored p front again →
      PassedElse p other_span again out → here ≡ closed_at saved.depth saved.len out → Closed p again out here
  else-closed other_span saved front again out here s r h e =
      close-block p saved.depth saved.len (else_names (else_of p other_span)) again out here
      (s.depth ∙ sym (ap (λ (v : Env). v.depth) r.env_is)) (s.len ∙ sym r.len)
      (behind-else p (program_of p).classes again out (else_of p other_span) h) e

  -- `if`
  pub if-fails-test : (line e : ℕ) (first_span : Span) (other_span : Option Span) (env : Scope) (s : Stop) →
      FailsAs (at_line line (judge_test (program_of p).classes (env_of p env) (expr_at p e))) s → Fails p line env (if_of p e first_span other_span) s
  if-fails-test line e first_span other_span env s h =
      branch-fails-test (program_of p).classes line (env_of p env) (expr_at p e) (block_of p first_span) (else_of p other_span) s h

  pub if-fails-first : (line e : ℕ) (first_span : Span) (other_span : Option Span) (env front : Scope) (s : Stop) → Tested p line e env front →
      FailsAs (judge_block (program_of p).classes None (env_of p front) (block_of p first_span)) s → Fails p line env (if_of p e first_span
      other_span) s
  if-fails-first line e first_span other_span env front s t h =
      branch-fails-first (program_of p).classes line (env_of p env) (env_of p front) (expr_at p e) (block_of p first_span) (else_of p other_span) s
      t h

  pub if-fails-other : (line e : ℕ) (first_span : Span) (other_span : Option Span) (env front out again : Scope) (s : Stop) →
      Tested p line e env front →
      Passed p first_span front out → Restored p front again → FailsAs (judge_else (program_of p).classes (env_of p again) (else_of p other_span)) s →
      Fails p line env (if_of p e first_span other_span) s
  if-fails-other line e first_span other_span env front out again s t h r f =
      let g : FailsAs (judge_else (program_of p).classes (env_of p front) (else_of p other_span)) s = rw r.env_is at f in
      branch-fails-other (program_of p).classes line (env_of p env) (env_of p front) (env_of p out) (expr_at p e) (block_of p first_span) (else_of
      p other_span) s t h g

  -- both blocks of an `if`, with the variables behind each and those in front of the second
  pub record BothDone (first_span : Span) (other_span : Option Span) (front out here again other last new : Scope) (saved first : Saved) : Type 0
    where
      pub saved_is : IsSaved saved front
      pub out_is : Passed p first_span front out
      pub here_is : here ≡ closed_at saved.depth saved.len out
      pub first_is : IsSaved first here
      pub again_is : again ≡ restated saved.flow here
      pub other_is : PassedElse p other_span again other
      pub last_is : last ≡ closed_at saved.depth saved.len other
      pub new_is : new ≡ joined_with first.flow last

  pub if-leaves : (line e : ℕ) (first_span : Span) (other_span : Option Span) (env front out here again other last new : Scope) (saved first :
      Saved) →
      Tested p line e env front → BothDone first_span other_span front out here again other last new saved first → Leaves p line env (if_of p e
      first_span other_span) new
  if-leaves line e first_span other_span env front out here again other last new saved first t d =
      let k = block-closed first_span saved front out here d.saved_is d.out_is d.here_is in
      let r = restore-front p saved front out here again d.saved_is k d.again_is in
      let m = else-closed other_span saved front again other last d.saved_is r d.other_is d.last_is in
      let i = choice-env p front out here again other last new saved first
      (record { saved_is = d.saved_is; closed_is = k; first_is = d.first_is; again_is = r; last_is = m; new_is = d.new_is }) in
      let o : PassedElse p other_span front other = rw r.env_is at d.other_is in
      branch-judged (program_of p).classes line (env_of p env) (env_of p front) (env_of p out) (env_of p other) (env_of p new)
      (expr_at p e) (block_of p first_span) (else_of p other_span) t d.out_is o i

  -- `while`
  pub while-fails-at-test : (line e : ℕ) (body : Span) (env : Scope) (s : Stop) →
      FailsAs (at_line line (judge_test (program_of p).classes (env_of p env) (expr_at p e))) s → Fails p line env (while_of p e body) s
  while-fails-at-test line e body env s h = while-fails-test (program_of p).classes line (env_of p env) (expr_at p e) (block_of p body) s h

  pub while-fails-within : (line e : ℕ) (body : Span) (env front : Scope) (s : Stop) → Tested p line e env front →
      FailsAs (judge_block (program_of p).classes None (env_of p front) (block_of p body)) s → Fails p line env (while_of p e body) s
  while-fails-within line e body env front s t h =
      while-fails-body (program_of p).classes line (env_of p env) (env_of p front) (expr_at p e) (block_of p body) s t h

  -- the body of a loop, and the variables behind it
  pub record LoopDone (line e : ℕ) (body : Span) (head front out here : Scope) (saved : Saved) : Type 0 where
    pub saved_is : IsSaved saved head
    pub front_is : Tested p line e head front
    pub out_is : Passed p body front out
    pub here_is : here ≡ closed_at saved.depth saved.len out

  pub loop-within : (line e : ℕ) (body : Span) (head front out : Scope) → Tested p line e head front → Passed p body front out →
      length head.slots ≤ length out.slots
  loop-within line e body head front out t h =
      let g = behind-test p (program_of p).classes line head front (expr_at p e) t in
      omega (arith, g.within, block-within body front out h)

  pub loop-closed : (line e : ℕ) (body : Span) (head front out here : Scope) (saved : Saved) → LoopDone line e body head front out here saved →
      Closed p head out here
  loop-closed line e body head front out here saved d =
      let g = behind-test p (program_of p).classes line head front (expr_at p e) d.front_is in
      let h = behind-block p (program_of p).classes None front out (block_of p body) d.out_is in
      close-block p saved.depth saved.len (0 + block_names (block_of p body)) head out here d.saved_is.depth d.saved_is.len
      (behind-both p 0 (block_names (block_of p body)) head front out g h) d.here_is

  pub while-uncovered : (line e : ℕ) (body : Span) (head front out here : Scope) (saved : Saved) (covered : Bool) (s : Stop) →
      LoopDone line e body head front out here saved → (CoversStates saved.flow here.slots → IsTrue covered) → covered ≡ false →
      s ≡ stop.Fault (record { code = Loop; line = line }) → Fails p line head (while_of p e body) s
  while-uncovered line e body head front out here saved covered s d c n f =
      while-fails (program_of p).classes line (env_of p head) (env_of p front) (env_of p out) (expr_at p e) (block_of p body) s
      d.front_is d.out_is (repeat-uncovered p saved head out here covered d.saved_is d.here_is c n) f

  pub while-leaves : (line e : ℕ) (body : Span) (head front out here new : Scope) (saved : Saved) → LoopDone line e body head front out here saved →
      CoversStates saved.flow here.slots → new ≡ restated saved.flow here → Leaves p line head (while_of p e body) new
  while-leaves line e body head front out here new saved d c r =
      let k = restore-front p saved head out here new d.saved_is (loop-closed line e body head front out here saved d) r in
      while-judged (program_of p).classes line (env_of p head) (env_of p front) (env_of p out) (env_of p new) (expr_at p e) (block_of p body)
      d.front_is d.out_is (repeat-covered p saved head out here d.saved_is d.here_is c) k.env_is

  -- `enter`
  pub enter-fails-at-head : (line : ℕ) (e : Entrance) (body : Span) (env : Scope) (s : Stop) →
      FailsAs (at_line line (judge_enter (program_of p).classes (env_of p env) (path_of p e.path).base (path_of p e.path).fields (name_at p e.name)))
      s → Fails p line env (enter_of p e body) s
  enter-fails-at-head line e body env s h =
      enter-fails (program_of p).classes line (env_of p env) (path_of p e.path) (name_at p e.name) (block_of p body) (option_map (name_at p) e.giving)
      s h

  pub enter-fails-within : (line : ℕ) (e : Entrance) (body : Span) (env front : Scope) (s : Stop) → Entered p line e env front →
      FailsAs (judge_block (program_of p).classes None (env_of p front) (block_of p body)) s → Fails p line env (enter_of p e body) s
  enter-fails-within line e body env front s t h =
      enter-fails-body (program_of p).classes line (env_of p env) (env_of p front) (path_of p e.path) (name_at p e.name) (block_of p body)
      (option_map (name_at p) e.giving) s t h

  pub enter-fails-at-end : (line : ℕ) (e : Entrance) (body : Span) (env front out : Scope) (s : Stop) → Entered p line e env front →
      Passed p body front out → FailsAs (at_line line (giving_of p e out)) s → Fails p line env (enter_of p e body) s
  enter-fails-at-end line e body env front out s t h g =
      enter-fails-giving (program_of p).classes line (env_of p env) (env_of p front) (env_of p out) (path_of p e.path) (name_at p e.name)
      (block_of p body) (option_map (name_at p) e.giving) s t h g

  pub window-within : (line : ℕ) (e : Entrance) (body : Span) (env front out : Scope) → Entered p line e env front →
      Passed p body front out → length env.slots ≤ length out.slots
  window-within line e body env front out t h =
      let g = behind-enter p (program_of p).classes line env front (path_of p e.path).base (path_of p e.path).fields (name_at p e.name) t in
      omega (arith, g.within, block-within body front out h)

  pub enter-leaves : (line : ℕ) (e : Entrance) (body : Span) (env front out here new : Scope) (saved : Saved) → IsSaved saved env →
      Entered p line e env front → Passed p body front out → at_line line (giving_of p e out) ≡ Ok tt → here ≡ closed_at saved.depth saved.len out →
      env_of p new ≡ left (path_of p e.path).base (path_of p e.path).fields (env_of p here) → Leaves p line env (enter_of p e body) new
  enter-leaves line e body env front out here new saved s t h v i l =
      let g = behind-enter p (program_of p).classes line env front (path_of p e.path).base (path_of p e.path).fields (name_at p e.name) t in
      let b = behind-block p (program_of p).classes None front out (block_of p body) h in
      let k = close-block p saved.depth saved.len (1 + block_names (block_of p body)) env out here s.depth s.len
      (behind-both p 1 (block_names (block_of p body)) env front out g b) i in
      enter-judged (program_of p).classes line (env_of p env) (env_of p front) (env_of p out) (env_of p new) (path_of p e.path) (name_at p e.name)
      (block_of p body) (option_map (name_at p) e.giving) t h v (l ∙ ap (left (path_of p e.path).base (path_of p e.path).fields) k.env_is)
