-- Runs of the machine that never frees, one step after another. For callers.
use Rattle.std.proofs.Common.{◌≡◌, ℕ, zero, suc, ◌+◌, List, [], ◌∷◌, refl, sym, ap, arith}
use Rattle.rg_base.specs.declared.outcome.Trap.{Trap}
use Rattle.rg_tree.specs.Tree.{Class}
use Rattle.rg_rules.specs.Items.{Item}
use Rattle.rg_rules.specs.State.{State}
use Rattle.rg_rules.specs.Steps.{Stepped, Went, Trapped, step_item, step_first, next}
use Rattle.rg_rules.specs.Runs.{Done, Stopped, Ran, ending_of, after_step, run_on, plain_from}

-- a run goes one step further
abbrev pub one_more : List Class → Ran → Ran
one_more classes r = plain_from classes 1 r.steps r.state

-- a step that makes a state is one more
went_by : (classes : List Class) (made : ℕ) (s u : State) (i : Item) (rest its : List Item) → its ≡ i ∷ rest → step_first classes s its ≡ Went u →
    run_on classes made s its (plain_from classes zero (made + 1)) ≡ record { state = u; steps = made + 1; ending = ending_of u.items }
unfolding plain_from
went_by classes made s u i rest its some went =
    rw some (let e : step_item classes (record s { items = rest }) i ≡ Went u = rw some at went in rw e refl)

pub one_more-went : (classes : List Class) (made : ℕ) (s u : State) (i : Item) (rest : List Item) → s.items ≡ i ∷ rest → next classes s ≡ Went u →
    plain_from classes 1 made s ≡ record { state = u; steps = made + 1; ending = ending_of u.items }
unfolding plain_from
one_more-went classes made s u i rest some went = went_by classes made s u i rest s.items some went

-- a step that traps leaves the state and the number of steps
trapped_by : (classes : List Class) (made : ℕ) (s : State) (kind : Trap) (line : ℕ) (its : List Item) → step_first classes s its ≡ Trapped kind line →
    run_on classes made s its (plain_from classes zero (made + 1)) ≡ record { state = s; steps = made; ending = Stopped kind line }
trapped_by classes made s kind line [] trapped = grind arith
trapped_by classes made s kind line (i ∷ rest) trapped = rw trapped refl

pub one_more-trapped : (classes : List Class) (made : ℕ) (s : State) (kind : Trap) (line : ℕ) → next classes s ≡ Trapped kind line →
    plain_from classes 1 made s ≡ record { state = s; steps = made; ending = Stopped kind line }
unfolding plain_from
one_more-trapped classes made s kind line trapped = trapped_by classes made s kind line s.items trapped

-- without an item nothing changes
pub one_more-done : (classes : List Class) (made : ℕ) (s : State) → s.items ≡ [] →
    plain_from classes 1 made s ≡ record { state = s; steps = made; ending = Done }
unfolding plain_from
one_more-done classes made s none = rw none refl

-- one more step at the end, by what the first one did
after_step-one_more : (classes : List Class) (n made : ℕ) (s : State) (d : Stepped) → next classes s ≡ d →
    ((t : State) → plain_from classes (suc n) (made + 1) t ≡ one_more classes (plain_from classes n (made + 1) t)) →
    after_step made s d (plain_from classes (suc n) (made + 1)) ≡ one_more classes (after_step made s d (plain_from classes n (made + 1)))
after_step-one_more classes n made s (Went t) step behind = behind t
after_step-one_more classes n made s (Trapped kind line) step behind = sym (one_more-trapped classes made s kind line step)

run_on-one_more : (classes : List Class) (n made : ℕ) (s : State) (its : List Item) → s.items ≡ its →
    ((t : State) → plain_from classes (suc n) (made + 1) t ≡ one_more classes (plain_from classes n (made + 1) t)) →
    run_on classes made s its (plain_from classes (suc n) (made + 1)) ≡ one_more classes (run_on classes made s its (plain_from classes n (made + 1)))
run_on-one_more classes n made s [] none behind = sym (one_more-done classes made s none)
run_on-one_more classes n made s (i ∷ rest) some behind =
    after_step-one_more classes n made s (step_item classes (record s { items = rest }) i) (ap (step_first classes s) some) behind

-- one more step of a run is one more at its end
pub plain_from-suc : (classes : List Class) (n made : ℕ) (s : State) →
    plain_from classes (suc n) made s ≡ one_more classes (plain_from classes n made s)
unfolding plain_from
plain_from-suc classes zero made s = refl
plain_from-suc classes (suc n) made s = run_on-one_more classes n made s s.items refl (λ t. plain_from-suc classes n (made + 1) t)

-- a run that one more step doesn't change stays as it is
pub plain_from-stays : (classes : List Class) (d n made : ℕ) (s : State) (r : Ran) → plain_from classes n made s ≡ r → one_more classes r ≡ r →
    plain_from classes (d + n) made s ≡ r
plain_from-stays classes zero n made s r at stays = let same : zero + n ≡ n = omega arith in rw same at
plain_from-stays classes (suc d) n made s r at stays =
    let same : suc d + n ≡ suc (d + n) = omega arith in
    rw (same, plain_from-suc classes (d + n) made s, plain_from-stays classes d n made s r at stays) stays
