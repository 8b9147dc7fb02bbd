-- One more place of a flow is put into a state.
use Rattle.std.proofs.Common.{◌≡◌, ◌≢◌, ℕ, ◌+◌, ◌<◌, ◌≤◌, Bool, true, false, not, ◌&&◌, ◌⊎◌, inl, inr, List, length, get_or, Option, None, nat_eq}
use Rattle.std.proofs.Common.{nat_lt, if◌then◌else◌, Ok, refl, ap, ◌∙◌, arith}
use Rattle.std.proofs.lemmas.Bool.{cases_eq, cases_lt, eq-eqb, ne_eqb}
use Rattle.std.proofs.lemmas.Bool.Decides.{nat_tests}
use Rattle.std.proofs.lemmas.Option.{slice_get-get_or}
use Rattle.rg_base.specs.declared.ty.Ty.TheVariants.{Int}
use Rattle.rg_base.specs.declared.fault.Code.TheVariants.{Unavailable}
use Rattle.rg_rules.specs.Answers.{Answer, Passed, test}
use Rattle.rg_rules.specs.Environment.{Readiness, ready, gone, is_ready}
use Rattle.rg_flow.specs.declared.flow.Flow.{Flow}
use Rattle.rg_flow.specs.Flows.{state_of, Sets}
use Rattle.rg_flow.specs.Scope.{same_name}
use Rattle.rg_flow.specs.Inner.Layout.{names_at}
use Rattle.rg_flow.specs.declared.env.var.Var.{Var}
use Rattle.rg_flow.proofs.Flows.{names_at-is, names_at-past}

-- no variable
abbrev pub no_var : Var
no_var = record { name = None; ty = Int; depth = 0; assignable = false }

-- a place that was put into a state has it
pub Sets-here : (a b : Flow) (v : ℕ) (s : Readiness) → Sets a b v s → state_of b v ≡ s
Sets-here a b v s h = h v ∙ rw (eq-eqb v v refl) refl

-- what was made ready isn't refused
pub ready-passes : (a b : Flow) (v : ℕ) (r : Answer Passed) → Sets a b v ready → r ≡ test (is_ready (state_of b v)) Unavailable → r ≡ Ok tt
ready-passes a b v r h e = e ∙ ap (λ s. test (is_ready s) Unavailable) (Sets-here a b v ready h)

-- a place is put into one state and then into another
pub Sets-again : (a b c : Flow) (v : ℕ) (s t : Readiness) → Sets a b v s → Sets b c v t → Sets a c v t
Sets-again a b c v s t h k w = k w ∙ by (nat_eq w v) (h w)
  where
    by : (e : Bool) → state_of b w ≡ (if e then s else state_of a w) → (if e then t else state_of b w) ≡ (if e then t else state_of a w)
    by true x = refl
    by false x = x

-- the variables of a name before a place are in a state, the others as they were
abbrev pub IsNamedTo : (f old : Flow) → Option ℕ → List Var → Readiness → ℕ → Type 0
IsNamedTo f old name vars now k = (w : ℕ) → state_of f w ≡ (if nat_lt w k && names_at name vars w then now else state_of old w)

module _ (old f : Flow) (name : Option ℕ) (vars : List Var) (now : Readiness) (k : ℕ) (l : k < length vars) where
  -- the next variable has the name
  pub named-yes : (g : Flow) → same_name (get_or vars k no_var).name name ≡ true → IsNamedTo f old name vars now k → Sets f g k now →
      IsNamedTo g old name vars now (k + 1)
  named-yes g e h s w = s w ∙ by (cases_eq w k)
    where
      by : (w ≡ k) ⊎ (w ≢ k) → (if nat_eq w k then now else state_of f w) ≡ (if nat_lt w (k + 1) && names_at name vars w then now else state_of old w)
      by (inl same) =
          let lt : nat_lt w (k + 1) ≡ true = grind (arith, nat_tests) in
          let n : names_at name vars w ≡ true = ap (names_at name vars) same
          ∙ names_at-is name vars k (get_or vars k no_var) (slice_get-get_or vars k no_var l) ∙ e in
          rw (eq-eqb w k same, lt, n) refl
      by (inr apart) =
          let lt : nat_lt w (k + 1) ≡ nat_lt w k = grind (arith, nat_tests) in
          rw (ne_eqb w k apart, lt) (h w)

  -- the next variable has another name
  pub named-no : same_name (get_or vars k no_var).name name ≡ false → IsNamedTo f old name vars now k → IsNamedTo f old name vars now (k + 1)
  named-no e h w = h w ∙ by (cases_eq w k)
    where
      by : (w ≡ k) ⊎ (w ≢ k) → (if nat_lt w k && names_at name vars w then now else state_of old w)
          ≡ (if nat_lt w (k + 1) && names_at name vars w then now else state_of old w)
      by (inl same) =
          let lt : nat_lt w (k + 1) ≡ true = grind (arith, nat_tests) in
          let lt' : nat_lt w k ≡ false = grind (arith, nat_tests) in
          let n : names_at name vars w ≡ false = ap (names_at name vars) same
          ∙ names_at-is name vars k (get_or vars k no_var) (slice_get-get_or vars k no_var l) ∙ e in
          rw (lt, lt', n) refl
      by (inr apart) = let lt : nat_lt w (k + 1) ≡ nat_lt w k = grind (arith, nat_tests) in rw lt refl

-- all variables are passed
pub named-all : (old f : Flow) (name : Option ℕ) (vars : List Var) (now : Readiness) (k : ℕ) → length vars ≤ k → IsNamedTo f old name vars now k →
    (w : ℕ) → state_of f w ≡ (if names_at name vars w then now else state_of old w)
named-all old f name vars now k l h w = h w ∙ by (cases_lt w k)
  where
    by : (w < k) ⊎ (k ≤ w) → (if nat_lt w k && names_at name vars w then now else state_of old w)
        ≡ (if names_at name vars w then now else state_of old w)
    by (inl m) = let lt : nat_lt w k ≡ true = grind (arith, nat_tests) in rw lt refl
    by (inr m) =
        let lt : nat_lt w k ≡ false = grind (arith, nat_tests) in
        let n : names_at name vars w ≡ false = names_at-past name vars w (omega arith) in
        rw (lt, n) refl

-- the places from one on and before another are gone
abbrev pub IsGoneTo : (f old : Flow) → (from to : ℕ) → Type 0
IsGoneTo f old from to = (w : ℕ) → state_of f w ≡ (if not (nat_lt w from) && nat_lt w to then gone else state_of old w)

pub gone-more : (old f g : Flow) (from k : ℕ) → from ≤ k → IsGoneTo f old from k → Sets f g k gone → IsGoneTo g old from (k + 1)
gone-more old f g from k l h s w = s w ∙ by (cases_eq w k)
  where
    by : (w ≡ k) ⊎ (w ≢ k) → (if nat_eq w k then gone else state_of f w) ≡ (if not (nat_lt w from) && nat_lt w (k + 1) then gone else state_of old w)
    by (inl same) =
        let lt : nat_lt w (k + 1) ≡ true = grind (arith, nat_tests) in
        let lt' : nat_lt w from ≡ false = grind (arith, nat_tests) in
        rw (eq-eqb w k same, lt, lt') refl
    by (inr apart) = let lt : nat_lt w (k + 1) ≡ nat_lt w k = grind (arith, nat_tests) in rw (ne_eqb w k apart, lt) (h w)

pub gone-none : (old : Flow) (from k : ℕ) → k ≤ from → IsGoneTo old old from k
gone-none old from k l w = by (nat_lt w from) refl
  where
    by : (b : Bool) → nat_lt w from ≡ b → state_of old w ≡ (if not b && nat_lt w k then gone else state_of old w)
    by true e = refl
    by false e = let lt : nat_lt w k ≡ false = grind (arith, nat_tests) in rw lt refl
