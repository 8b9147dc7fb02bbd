-- What a run has answered behind a step, by what was made of the answer of the step.
use Rattle.std.proofs.Common.{◌≡◌, ◌≢◌, ℕ, ◌+◌, ◌<◌, true, false, List, [], Option, Some, None, refl, sym, subst}
use Rattle.rg_base.specs.declared.outcome.Ended.{Ended}
use Rattle.rg_base.specs.declared.outcome.Ended.TheVariants as ended
use Rattle.rg_base.specs.declared.outcome.Outcome.{Outcome}
use Rattle.rg_base.specs.declared.outcome.Outcome.TheVariants as outcome
use Rattle.rg_tree.specs.Rows.Tables.{Tables}
use Rattle.rg_tree.specs.Rows.RowTrees.{classes_of}
use Rattle.rg_input.specs.Numbers.{Pending, OnInput}
use Rattle.rg_input.proofs.Input.{OnInput-both}
use Rattle.rg_rules.specs.Outside.Inputs.{first_asks}
use Rattle.rg_rules.specs.State.{State}
use Rattle.rg_rules.specs.Steps.{next}
use Rattle.rg_plain.specs.Inner.Counts.{CountIs}
use Rattle.rg_values.specs.Kept.{shown}
use Rattle.rg_plain.specs.Machine.{Machine, StepsOn, state_of}
use Rattle.rg_plain.specs.Outcomes.{Settles, LeavesRows}
use Rattle.rg_plain.specs.Runs.{RunShows, IsState, NoneAsks, CutOff, begun}
use Rattle.rg_plain.proofs.Runs.Machine.{UnreadOn}
use Rattle.rg_plain.proofs.Runs.Run.{RanSoFar, none_more, quiet, printed, done, trapped, cut_before, cut_at_input, cut_behind}

-- a run so far, or what a run that ended has answered
abbrev pub Told : Tables → State → (n : ℕ) → (Shows : State → Type 0) → (v : State) → (old : Option (List ℕ)) → Option Ended → (k : ℕ) →
    (new : Option (List ℕ)) → Type 0
Told t s n Shows v old None k new = RanSoFar t s k v old new
Told t s n Shows v old (Some e) k new = RunShows t s n k Shows old new e

-- how many steps were begun
abbrev pub begun_by : Option Ended → ℕ → ℕ
begun_by None k = k
begun_by (Some e) k = begun e k

along : (P : Option Ended → ℕ → Option (List ℕ) → Type 0) (r q : Option Ended) (k j : ℕ) (a b : Option (List ℕ)) →
    (q ≡ r) × (j ≡ k) × (b ≡ a) → P r k a → P q j b
along P r q k j a b same p =
    subst (λ (x : Option Ended). P x j b) (sym same.0)
    (subst (λ (x : ℕ). P r x b) (sym same.1) (subst (λ (x : Option (List ℕ)). P r k x) (sym same.2) p))

told : (t : Tables) (s : State) (n k after : ℕ) (u v : State) (Shows : State → Type 0) (old between out : Option (List ℕ)) (o : Outcome)
    (r : Option Ended) → k < n → (o ≡ outcome.InputFault → first_asks u.items ≡ true) → RanSoFar t s k u old between →
    Settles (next (classes_of t) u) u v o → Shows v → CountIs o k after between out r → Told t s n Shows v old r after out
told t s n k after u v Shows old between out outcome.Running r within asks ran step shows is =
    along (Told t s n Shows v old) None r (k + 1) after between out is (quiet t s k u v old between ran step)
told t s n k after u v Shows old between out (outcome.Printed value) None within asks ran step shows is =
    subst (λ (x : ℕ). RanSoFar t s x v old out) (sym is.0) (printed t s k u v value old between out ran step is.1)
told t s n k after u v Shows old between out (outcome.Printed value) (Some e) within asks ran step shows is =
    subst (λ (x : Ended). RunShows t s n after Shows old out x) (sym is.1.0)
    (subst (λ (x : ℕ). CutOff t s n x Shows old out) (sym is.0) (cut_behind t s n k u v value Shows old between out within ran step shows is.1.1))
told t s n k after u v Shows old between out outcome.Done r within asks ran step shows is =
    along (Told t s n Shows v old) (Some ended.Done) r (k + 1) after between out is (done t s n k u v Shows old between within ran step shows)
told t s n k after u v Shows old between out (outcome.Trap kind line) r within asks ran step shows is =
    along (Told t s n Shows v old) (Some (ended.Trap kind line)) r k after between out is
    (trapped t s n k u v kind line Shows old between within ran step shows)
told t s n k after u v Shows old between out outcome.InputFault r within asks ran step shows is =
    along (Told t s n Shows v old) (Some ended.InputFault) r k after between out is
    (cut_at_input t s n k u v Shows old between within (asks refl) ran step shows)
told t s n k after u v Shows old between out outcome.Memory r within asks ran step shows is =
    along (Told t s n Shows v old) (Some ended.Memory) r k after between out is (cut_before t s n k u v Shows old between within ran step shows)

pub begun_next : (o : Outcome) (k after : ℕ) (between out : Option (List ℕ)) (r : Option Ended) → CountIs o k after between out r →
    begun_by r after ≡ k + 1
begun_next outcome.Running k after between out r is = along (λ q j b. begun_by q j ≡ k + 1) None r (k + 1) after between out is refl
begun_next (outcome.Printed value) k after between out None is = is.0
begun_next (outcome.Printed value) k after between out (Some e) is =
    subst (λ (x : Ended). begun x after ≡ k + 1) (sym is.1.0) is.0
begun_next outcome.Done k after between out r is = along (λ q j b. begun_by q j ≡ k + 1) (Some ended.Done) r (k + 1) after between out is refl
begun_next (outcome.Trap kind line) k after between out r is =
    along (λ q j b. begun_by q j ≡ k + 1) (Some (ended.Trap kind line)) r k after between out is refl
begun_next outcome.InputFault k after between out r is =
    along (λ q j b. begun_by q j ≡ k + 1) (Some ended.InputFault) r k after between out is refl
begun_next outcome.Memory k after between out r is = along (λ q j b. begun_by q j ≡ k + 1) (Some ended.Memory) r k after between out is refl

-- where none of the steps that were begun asks, what held before the last one holds behind it
still : (t : Tables) (s : State) (k after : ℕ) (u : State) (old between out : Option (List ℕ)) (o : Outcome) (r : Option Ended)
    (Before After : Type 0) → RanSoFar t s k u old between → (NoneAsks t s k → Before) → (first_asks u.items ≡ false → Before → After) →
    CountIs o k after between out r → NoneAsks t s (begun_by r after) → After
still t s k after u old between out o r Before After ran before more is =
    subst (λ (x : ℕ). NoneAsks t s x → After) (sym (begun_next o k after between out r is))
    (none_more t s k u old between Before After ran before more)

never : (e : Ended) → None ≡ Some e → ⊥
never e is = cc

-- a run ends with a fault of the input where its step does
pub fault_ends : (o : Outcome) (k after : ℕ) (between out : Option (List ℕ)) (r : Option Ended) → CountIs o k after between out r →
    o ≡ outcome.InputFault → r ≡ Some ended.InputFault
fault_ends o k after between out r is e =
    let fault : CountIs outcome.InputFault k after between out r = subst (λ (x : Outcome). CountIs x k after between out r) e is in fault.0

-- the step of a run that goes on doesn't
pub goes_faultless : (o : Outcome) (k after : ℕ) (between out : Option (List ℕ)) → CountIs o k after between out None → o ≢ outcome.InputFault
goes_faultless o k after between out is e = never ended.InputFault (fault_ends o k after between out None is e)

-- a run that goes on has things to do
pub left_on : {R : Type 0} (rows : List R) (o : Outcome) (k after : ℕ) (between out : Option (List ℕ)) → CountIs o k after between out None →
    LeavesRows rows o → rows ≢ []
left_on rows outcome.Running k after between out is left = left
left_on rows (outcome.Printed value) k after between out is left = left
left_on rows outcome.Done k after between out is left = absurd (never _ is.0)
left_on rows (outcome.Trap kind line) k after between out is left = absurd (never _ is.0)
left_on rows outcome.InputFault k after between out is left = absurd (never _ is.0)
left_on rows outcome.Memory k after between out is left = absurd (never _ is.0)

-- the same of a machine that started on these bytes; where no step that was begun asks, something is as it was
abbrev pub ToldOn : Tables → (start : Machine) → (n k : ℕ) → (m : Machine) → (old new : Option (List ℕ)) → Option Ended → (Still : Type 0) →
    (before after : List ℕ) → Type 0
ToldOn t start n k m old new r Still before after =
    Told t (state_of t start before) n (IsState t m after) (state_of t m after) old r k new
    × (NoneAsks t (state_of t start before) (begun_by r k) → Still)

-- one more step of such a machine
pub told_on : (t : Tables) (start m new : Machine) (n k after : ℕ) (old between out : Option (List ℕ)) (o : Outcome) (r : Option Ended)
    (a b c : Pending) (la lb lc : Option (List ℕ)) (Before After : Type 0) → k < n → CountIs o k after between out r →
    (o ≡ outcome.InputFault → first_asks (shown t m.kept.items) ≡ true) → (first_asks (shown t m.kept.items) ≡ false → Before → After) →
    OnInput a b la lb (UnreadOn t start k m old between Before) → OnInput b c lb lc (StepsOn t m new o) →
    OnInput a c la lc (ToldOn t start n after new old out r After)
told_on t start m new n k after old between out o r a b c la lb lc Before After within is asks more so_far step =
    OnInput-both a b c la lb lc (UnreadOn t start k m old between Before) (StepsOn t m new o) (ToldOn t start n after new old out r After) so_far step
    (λ x y z ran made. (
      told t (state_of t start x) n k after (state_of t m y) (state_of t new z) (IsState t new z) old between out o r within asks ran.0 made refl is,
      still t (state_of t start x) k after (state_of t m y) old between out o r Before After ran.0 ran.1 more is,
    ))
