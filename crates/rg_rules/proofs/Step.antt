-- What a step that went, or one that trapped, says of its parts. For callers.
use Rattle.std.proofs.Common.{◌≡◌, refl, sym, ap, ◌∙◌, ℕ, ◌⊎◌, inl, inr, List, Some, slice_get, Result, Ok, Err, arith}
use Rattle.rg_base.specs.declared.object.Seen.{Seen}
use Rattle.rg_base.specs.declared.value.Val.{Val}
use Rattle.rg_base.specs.declared.value.Val.TheVariants.{Nil, Int, Bool, Obj}
use Rattle.rg_base.specs.declared.outcome.Trap.{Trap}
use Rattle.rg_base.specs.declared.outcome.Trap.TheVariants as trap
use Rattle.rg_tree.specs.Tree.{Expr, Class}
use Rattle.rg_rules.specs.Answers.{◌>>=◌}
use Rattle.rg_rules.specs.State.{State, locals_of, with_locals}
use Rattle.rg_rules.specs.Evaluation.{object_at, value_of, uses, cleared, computed}
use Rattle.rg_rules.specs.Steps.{Went, Trapped, stepped}
use Rattle.rg_rules.proofs.Answers.{bind-ok, ok_or-ok}

-- a part that trapped, or the rest behind its value
abbrev pub TrappedIn : {A B E : Type 0} → Result A E → (A → Result B E) → E → Type 0
TrappedIn {A = A} r go e = (r ≡ Err e) ⊎ ((a : A) × (r ≡ Ok a) × (go a ≡ Err e))

-- a `do` block that gave an error
pub bind-err : {A B E : Type 0} (r : Result A E) (go : A → Result B E) (e : E) → ◌>>=◌ r go ≡ Err e → TrappedIn r go e
bind-err (Ok a) go e h = inr (a, refl, h)
bind-err (Err d) go e h = let same : d ≡ e = grind arith in inl (ap Err same)

-- a step that went
pub stepped-went : (line : ℕ) (r : Result State Trap) (s : State) → stepped line r ≡ Went s → r ≡ Ok s
stepped-went line (Ok t) s h = let same : t ≡ s = grind arith in ap Ok same
stepped-went line (Err kind) s h = grind arith

-- a step that trapped did so at the line of its statement
pub stepped-trapped : (line at : ℕ) (r : Result State Trap) (kind : Trap) → stepped line r ≡ Trapped kind at → (r ≡ Err kind) × (at ≡ line)
stepped-trapped line at (Ok t) kind h = grind arith
stepped-trapped line at (Err k) kind h = let same : (k ≡ kind) × (at ≡ line) = grind arith in (ap Err same.0, same.1)

-- an object that a value leads to
pub record Leads (store : List Seen) (v : Val) (o : Seen) : Type 0 where
  pub address : ℕ
  pub value : v ≡ Obj address
  pub there : slice_get store address ≡ Some o

pub object_at-ok : (store : List Seen) (v : Val) (o : Seen) → object_at store v ≡ Ok o → Leads store v o
object_at-ok store Nil o h = grind arith
object_at-ok store (Int z) o h = grind arith
object_at-ok store (Bool b) o h = grind arith
object_at-ok store (Obj a) o h = record { address = a; value = refl; there = ok_or-ok (slice_get store a) trap.Nil o h }

-- an expression that was computed whole: its value, and the state behind it
pub record ComputedWhole (classes : List Class) (s : State) (e : Expr) (behind : State) (v : Val) : Type 0 where
  pub value : value_of classes s.store (locals_of s) e ≡ Ok v
  pub state : behind ≡ with_locals s (cleared (uses (locals_of s) e) (locals_of s))

pub computed-ok : (classes : List Class) (s : State) (e : Expr) (p : State × Val) → computed classes s e ≡ Ok p → ComputedWhole classes s e p.0 p.1
computed-ok classes s e p h =
    let b = bind-ok (value_of classes s.store (locals_of s) e) _ p h in
    let pair : (with_locals s (cleared (uses (locals_of s) e) (locals_of s)), b.0) ≡ p = grind arith in
    record { value = b.1 ∙ ap (λ q. Ok q.1) pair; state = sym (ap (λ q. q.0) pair) }
