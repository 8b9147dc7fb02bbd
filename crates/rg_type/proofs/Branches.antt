-- What `if`, `while` and `enter` do to the variables that are kept in place: closed behind a block, restored, joined.
use Rattle.std.proofs.Common.{◌≡◌, refl, sym, ap, ◌∙◌, ℕ, zero, suc, ◌+◌, ◌≤◌, Bool, true, false, subst, List, [], ◌∷◌, length, Option, None, Ok}
use Rattle.std.proofs.Common.{IsTrue, arith}
use Rattle.rg_base.specs.declared.ty.Ty.{Ty}
use Rattle.rg_base.specs.declared.fault.Code.TheVariants.{Loop}
use Rattle.rg_base.specs.declared.fault.Stop.{Stop}
use Rattle.rg_base.specs.declared.fault.Stop.TheVariants as stop
use Rattle.rg_tree.specs.Rows.Tables.{Tables}
use Rattle.rg_tree.specs.Tree.{Name, Variable, Path, Class, Expr, branch, while, enter, Block, Else}
use Rattle.rg_rules.specs.Answers.{at_line}
use Rattle.rg_rules.specs.Names.{block_names, else_names}
use Rattle.rg_rules.specs.Environment.{gone, Entry, Env, closed, joined, covers}
use Rattle.rg_rules.specs.Statements.{judge_test, judge_enter, judge_giving, left, judge_kind, judge_block, judge_else}
use Rattle.rg_rules.proofs.Answers.{at_line-ok}
use Rattle.rg_flow.specs.Flows.{state_of}
use Rattle.rg_names.specs.Judged.{FailsAs}
use Rattle.rg_names.proofs.Fails.{FailsAs-first, FailsAs-bind}
use Rattle.rg_flow.specs.Scope.{Slot, Scope, closed_at, env_of}
use Rattle.rg_flow.specs.States.{state_at, IsSaved, restated, joined_with, CoversStates}
use Rattle.rg_flow.specs.declared.env.saved.Saved.{Saved}
use Rattle.rg_type.proofs.Alike.{Begin, Begin-trans, Begin-take, length-Begin}
use Rattle.rg_type.proofs.StatementEnvs.{judge_test-grows, judge_enter-grows, judge_block-grows, judge_else-grows}
use Rattle.rg_type.proofs.ScopeSteps.{BeginSlots, Begin-sym, env_of-closed, length-closed_at, env_of-restated, length-restated_from}
use Rattle.rg_type.proofs.ScopeSteps.{env_of-joined_with, covers-true, covers-states}
use Rattle.rg_type.proofs.BlockSteps.{length-entries}

-- the variables in front of a block come first at its end, and there are at most n more
pub record Behind (t : Tables) (n : ℕ) (front out : Scope) : Type 0 where
  pub begins : BeginSlots t front.slots out.slots
  pub within : length front.slots ≤ length out.slots
  pub most : length out.slots ≤ length front.slots + n

module _ (t : Tables) where
  Behind-grows : (n : ℕ) (front out : Scope) → Begin (env_of t front).entries (env_of t out).entries →
      length (env_of t out).entries ≤ length (env_of t front).entries + n → Behind t n front out
  Behind-grows n front out b m =
      let l = length-Begin (env_of t front).entries (env_of t out).entries b in
      record {
        begins = b;
        within = omega (arith, l, length-entries t front, length-entries t out);
        most = omega (arith, m, length-entries t front, length-entries t out);
      }

  pub behind-block : (classes : List Class) (result : Option Ty) (front out : Scope) (b : Block) →
      judge_block classes result (env_of t front) b ≡ Ok (env_of t out) → Behind t (block_names b) front out
  behind-block classes result front out b h =
      let g = judge_block-grows classes result (env_of t front) (env_of t out) b h in Behind-grows (block_names b) front out g.begins g.most

  pub behind-else : (classes : List Class) (front out : Scope) (b : Else) →
      judge_else classes (env_of t front) b ≡ Ok (env_of t out) → Behind t (else_names b) front out
  behind-else classes front out b h =
      let g = judge_else-grows classes (env_of t front) (env_of t out) b h in Behind-grows (else_names b) front out g.begins g.most

  pub behind-test : (classes : List Class) (line : ℕ) (front out : Scope) (e : Expr) →
      at_line line (judge_test classes (env_of t front) e) ≡ Ok (env_of t out) → Behind t 0 front out
  behind-test classes line front out e h =
      let g = judge_test-grows classes (env_of t front) (env_of t out) e (at_line-ok line _ (env_of t out) h) in
      Behind-grows 0 front out g.begins g.most

  pub behind-enter : (classes : List Class) (line : ℕ) (front out : Scope) (x : Variable) (fs : List Name) (z : Name) →
      at_line line (judge_enter classes (env_of t front) x fs z) ≡ Ok (env_of t out) → Behind t 1 front out
  behind-enter classes line front out x fs z h =
      let g = judge_enter-grows classes (env_of t front) (env_of t out) x fs z (at_line-ok line _ (env_of t out) h) in
      Behind-grows 1 front out g.begins g.most

  pub behind-both : (n m : ℕ) (front mid out : Scope) → Behind t n front mid → Behind t m mid out → Behind t (n + m) front out
  behind-both n m front mid out a b = record {
    begins = Begin-trans _ _ _ a.begins b.begins;
    within = omega (arith, a.within, b.within);
    most = omega (arith, a.most, b.most);
  }

  -- the variables behind a block whose own are gone
  pub record Closed (front out here : Scope) : Type 0 where
    pub depth : here.depth ≡ front.depth
    pub len : length here.slots ≡ length front.slots
    pub begins : BeginSlots t front.slots here.slots
    pub env_is : env_of t here ≡ closed (env_of t front) (env_of t out)

  pub close-block : (d k n : ℕ) (front out here : Scope) → d ≡ front.depth → k ≡ length front.slots → Behind t n front out →
      here ≡ closed_at d k out → Closed front out here
  close-block d k n front out here e l b h =
      let i = env_of-closed t d k front out e l in
      let m = length-closed_at d k out (omega (arith, l, b.within)) in
      let c = Begin-take (env_of t front).entries (env_of t out).entries b.begins in
      let p : (env_of t (closed_at d k out)).entries ≡ (closed (env_of t front) (env_of t out)).entries = ap (λ (v : Env). v.entries) i in
      rw h (record { depth = e; len = m ∙ l; begins = rw p c; env_is = i })

  -- the states that were kept are those of no other variables
  state_at-past : (slots : List Slot) (k : ℕ) → length slots ≤ k → state_at slots k ≡ gone
  state_at-past [] k l = refl
  state_at-past (s ∷ ss) zero l = absurd (omega arith)
  state_at-past (s ∷ ss) (suc k) l = state_at-past ss k (omega arith)

  pub saved-past : (saved : Saved) (front here : Scope) → IsSaved saved front → length here.slots ≡ length front.slots →
      (k : ℕ) → length here.slots ≤ k → state_of saved.flow k ≡ gone
  saved-past saved front here s e k l = s.states k ∙ state_at-past front.slots k (omega arith)

  -- the variables in the states in front of the block
  pub record Restored (front new : Scope) : Type 0 where
    pub env_is : env_of t new ≡ env_of t front
    pub len : length new.slots ≡ length front.slots

  pub restore-front : (saved : Saved) (front out here new : Scope) → IsSaved saved front → Closed front out here →
      new ≡ restated saved.flow here → Restored front new
  restore-front saved front out here new s c e =
      let r = env_of-restated t saved.flow front here c.depth c.len c.begins s.states in
      rw e (record { env_is = r; len = length-restated_from saved.flow 0 here.slots ∙ c.len })

  -- both blocks of an `if` and what is made of the variables behind them
  pub record Choice (front out here again other last new : Scope) (saved first : Saved) : Type 0 where
    pub saved_is : IsSaved saved front
    pub closed_is : Closed front out here
    pub first_is : IsSaved first here
    pub again_is : Restored front again
    pub last_is : Closed again other last
    pub new_is : new ≡ joined_with first.flow last

  pub choice-env : (front out here again other last new : Scope) (saved first : Saved) → Choice front out here again other last new saved first →
      env_of t new ≡ joined (closed (env_of t front) (env_of t out)) (closed (env_of t front) (env_of t other))
  choice-env front out here again other last new saved first c =
      let d : again.depth ≡ front.depth = ap (λ (v : Env). v.depth) c.again_is.env_is in
      let n : (env_of t again).entries ≡ (env_of t front).entries = ap (λ (v : Env). v.entries) c.again_is.env_is in
      let l : length (env_of t here).entries ≡ length (env_of t front).entries =
      length-entries t here ∙ c.closed_is.len ∙ sym (length-entries t front) in
      let a : Begin (env_of t here).entries (env_of t front).entries =
      Begin-sym (env_of t front).entries (env_of t here).entries l c.closed_is.begins in
      let b : Begin (env_of t front).entries (env_of t last).entries =
      let P : List Entry → Type 0 = λ es. Begin es (env_of t last).entries in subst P n c.last_is.begins in
      let j = env_of-joined_with t first.flow here last (c.last_is.depth ∙ d ∙ sym c.closed_is.depth)
      (c.last_is.len ∙ c.again_is.len ∙ sym c.closed_is.len) (Begin-trans _ (env_of t front).entries _ a b) c.first_is.states in
      let e : env_of t last ≡ closed (env_of t front) (env_of t other) =
      c.last_is.env_is ∙ ap (λ v. closed v (env_of t other)) c.again_is.env_is in
      rw c.new_is (j ∙ ap (λ v. joined v (env_of t last)) c.closed_is.env_is ∙ ap (λ v. joined (closed (env_of t front) (env_of t out)) v) e)

-- the rule of `if` over what its parts gave
pub branch-judged : (classes : List Class) (line : ℕ) (env x y z n : Env) (e : Expr) (b : Block) (other : Else) →
    at_line line (judge_test classes env e) ≡ Ok x → judge_block classes None x b ≡ Ok y → judge_else classes x other ≡ Ok z →
    n ≡ joined (closed x y) (closed x z) → judge_kind classes None line env (branch e b other) ≡ Ok n
branch-judged classes line env x y z n e b other h k l i = rw (h, k, l, i) refl

-- its test, its first block or the other one has a fault
pub branch-fails-test : (classes : List Class) (line : ℕ) (env : Env) (e : Expr) (b : Block) (other : Else) (s : Stop) →
    FailsAs (at_line line (judge_test classes env e)) s → FailsAs (judge_kind classes None line env (branch e b other)) s
branch-fails-test classes line env e b other s h = FailsAs-bind (at_line line (judge_test classes env e)) _ s h

pub branch-fails-first : (classes : List Class) (line : ℕ) (env x : Env) (e : Expr) (b : Block) (other : Else) (s : Stop) →
    at_line line (judge_test classes env e) ≡ Ok x → FailsAs (judge_block classes None x b) s →
    FailsAs (judge_kind classes None line env (branch e b other)) s
branch-fails-first classes line env x e b other s h k = rw h (FailsAs-bind (judge_block classes None x b) _ s k)

pub branch-fails-other : (classes : List Class) (line : ℕ) (env x y : Env) (e : Expr) (b : Block) (other : Else) (s : Stop) →
    at_line line (judge_test classes env e) ≡ Ok x → judge_block classes None x b ≡ Ok y → FailsAs (judge_else classes x other) s →
    FailsAs (judge_kind classes None line env (branch e b other)) s
branch-fails-other classes line env x y e b other s h k l = rw (h, k) (FailsAs-bind (judge_else classes x other) _ s l)

-- the rule of `while` over what its parts gave
pub while-judged : (classes : List Class) (line : ℕ) (env x y n : Env) (e : Expr) (b : Block) →
    at_line line (judge_test classes env e) ≡ Ok x → judge_block classes None x b ≡ Ok y → covers env y ≡ true → n ≡ env →
    judge_kind classes None line env (while e b) ≡ Ok n
while-judged classes line env x y n e b h k c i = rw (h, k, c, i) refl

-- its test or its body has a fault, or the body's end doesn't cover the head
pub while-fails-test : (classes : List Class) (line : ℕ) (env : Env) (e : Expr) (b : Block) (s : Stop) →
    FailsAs (at_line line (judge_test classes env e)) s → FailsAs (judge_kind classes None line env (while e b)) s
while-fails-test classes line env e b s h = FailsAs-bind (at_line line (judge_test classes env e)) _ s h

pub while-fails-body : (classes : List Class) (line : ℕ) (env x : Env) (e : Expr) (b : Block) (s : Stop) →
    at_line line (judge_test classes env e) ≡ Ok x → FailsAs (judge_block classes None x b) s →
    FailsAs (judge_kind classes None line env (while e b)) s
while-fails-body classes line env x e b s h k = rw h (FailsAs-bind (judge_block classes None x b) _ s k)

pub while-fails : (classes : List Class) (line : ℕ) (env x y : Env) (e : Expr) (b : Block) (s : Stop) →
    at_line line (judge_test classes env e) ≡ Ok x → judge_block classes None x b ≡ Ok y → covers env y ≡ false →
    s ≡ stop.Fault (record { code = Loop; line = line }) → FailsAs (judge_kind classes None line env (while e b)) s
while-fails classes line env x y e b s h k c i = rw (h, k, c, i) refl

uncovered : (b r : Bool) → (b ≡ true → IsTrue r) → r ≡ false → b ≡ false
uncovered true true h n = n
uncovered true false h n = let e : IsTrue false = h refl in cc
uncovered false r h n = refl

-- the end of the body doesn't cover the head
pub repeat-uncovered : (t : Tables) (saved : Saved) (head out here : Scope) (r : Bool) → IsSaved saved head →
    here ≡ closed_at saved.depth saved.len out →
    (CoversStates saved.flow here.slots → IsTrue r) → r ≡ false → covers (env_of t head) (env_of t out) ≡ false
repeat-uncovered t saved head out here r s e h n =
    let k : CoversStates saved.flow (closed_at saved.depth saved.len out).slots → IsTrue r = rw e at h in
    uncovered (covers (env_of t head) (env_of t out)) r
    (λ c. k (covers-states t saved.flow saved.depth saved.len head out s.len s.states c)) n

-- it does
pub repeat-covered : (t : Tables) (saved : Saved) (head out here : Scope) → IsSaved saved head → here ≡ closed_at saved.depth saved.len out →
    CoversStates saved.flow here.slots → covers (env_of t head) (env_of t out) ≡ true
repeat-covered t saved head out here s e h =
    covers-true t saved.flow saved.depth saved.len head out s.len s.states (rw e at h)

-- the rule of `enter` over what its parts gave
pub enter-judged : (classes : List Class) (line : ℕ) (env x y n : Env) (p : Path) (z : Name) (b : Block) (giving : Option Name) →
    at_line line (judge_enter classes env p.base p.fields z) ≡ Ok x → judge_block classes None x b ≡ Ok y →
    at_line line (judge_giving y z giving) ≡ Ok tt → n ≡ left p.base p.fields (closed env y) →
    judge_kind classes None line env (enter p z b giving) ≡ Ok n
enter-judged classes line env x y n p z b giving h k g i = rw (h, k, g, i) refl

-- what stands in front of its body, the body or what `giving` asks has a fault
pub enter-fails : (classes : List Class) (line : ℕ) (env : Env) (p : Path) (z : Name) (b : Block) (giving : Option Name) (s : Stop) →
    FailsAs (at_line line (judge_enter classes env p.base p.fields z)) s → FailsAs (judge_kind classes None line env (enter p z b giving)) s
enter-fails classes line env p z b giving s h = FailsAs-bind (at_line line (judge_enter classes env p.base p.fields z)) _ s h

pub enter-fails-body : (classes : List Class) (line : ℕ) (env x : Env) (p : Path) (z : Name) (b : Block) (giving : Option Name) (s : Stop) →
    at_line line (judge_enter classes env p.base p.fields z) ≡ Ok x → FailsAs (judge_block classes None x b) s →
    FailsAs (judge_kind classes None line env (enter p z b giving)) s
enter-fails-body classes line env x p z b giving s h k = rw h (FailsAs-bind (judge_block classes None x b) _ s k)

pub enter-fails-giving : (classes : List Class) (line : ℕ) (env x y : Env) (p : Path) (z : Name) (b : Block) (giving : Option Name) (s : Stop) →
    at_line line (judge_enter classes env p.base p.fields z) ≡ Ok x → judge_block classes None x b ≡ Ok y →
    FailsAs (at_line line (judge_giving y z giving)) s → FailsAs (judge_kind classes None line env (enter p z b giving)) s
enter-fails-giving classes line env x y p z b giving s h k g =
    rw (h, k) (FailsAs-first (at_line line (judge_giving y z giving)) (Ok (left p.base p.fields (closed env y))) s g)
