-- Each step of an accepted program keeps the invariant, and so each state of each of its runs fits. For callers.
use Rattle.std.proofs.Common.{◌≡◌, refl, sym, ap, subst, ℕ, zero, suc, ◌+◌, List, [], ◌∷◌, arith}
use Rattle.rg_tree.specs.Tree.{stmt, StmtKind, declare, assign, assign_element, call, swap, branch, while, enter, print, collect, return, Tree}
use Rattle.rg_rules.specs.Acceptance.{Accepted}
use Rattle.rg_rules.specs.Items.{Item, Do, EndAt, LeaveAt, LeaveGiving, Back}
use Rattle.rg_rules.specs.State.{State}
use Rattle.rg_rules.specs.Steps.{Stepped, Went, Trapped, step_item, step_first, next}
use Rattle.rg_rules.specs.Runs.{Ran, after_step, run_on, plain_from, opening, plain}
use Rattle.rg_rules.proofs.Run.{plain_from-suc}
use Rattle.rg_sound.specs.Fit.{Fit}
use Rattle.rg_sound.specs.Writes.{Allowed}
use Rattle.rg_sound.specs.Laws.{StaysFit, ItemKeeps, KindKeeps, StepKeepsFit, RunFits, RunAllowed, RunHolds}
use Rattle.rg_sound.proofs.Opening.{opening-fits}
use Rattle.rg_sound.proofs.Frames.Quiet.{allowed-same, went_is, collect-keeps, print-keeps}
use Rattle.rg_sound.proofs.Frames.End.{end-keeps}
use Rattle.rg_sound.proofs.Owners.Leave.{leave-keeps}
use Rattle.rg_sound.proofs.Owners.LeaveGiving.{leave_giving-keeps}
use Rattle.rg_sound.proofs.Owners.Enter.{enter-keeps}
use Rattle.rg_sound.proofs.Frames.Test.{branch-keeps, while-keeps}
use Rattle.rg_sound.proofs.Values.Return.{return-keeps, back-keeps}
use Rattle.rg_sound.proofs.Values.Invoke.{call-keeps}
use Rattle.rg_sound.proofs.Owners.Swap.{swap-keeps}
use Rattle.rg_sound.proofs.Held.{fit-holds}
use Rattle.rg_sound.proofs.Taken.{declare-keeps, assign-keeps, assign_element-keeps}

-- where nothing happens
pub still-kept : (t : Tree) (s u : State) → Fit t s → s ≡ u → StaysFit t s u
still-kept t s u f e = let P : State → Type 0 = λ q. StaysFit t s q in subst P e (record { fit = f; allowed = allowed-same s s refl })

kind-keeps : (k : StmtKind) → KindKeeps k
kind-keeps (declare x ty r) = declare-keeps x ty r
kind-keeps (assign p r) = assign-keeps p r
kind-keeps (assign_element q e r) = assign_element-keeps q e r
kind-keeps (call c) = call-keeps c
kind-keeps (swap y p) = swap-keeps y p
kind-keeps (branch e b other) = branch-keeps e b other
kind-keeps (while e b) = while-keeps e b
kind-keeps (enter p z b giving) = enter-keeps p z b giving
kind-keeps (print e) = print-keeps e
kind-keeps collect = collect-keeps
kind-keeps (return e) = return-keeps e

item-keeps : (i : Item) → ItemKeeps i
item-keeps (Do (stmt line k)) = kind-keeps k line
item-keeps (EndAt k) = end-keeps k
item-keeps (LeaveAt k) = leave-keeps k
item-keeps (LeaveGiving line k w) = leave_giving-keeps line k w
item-keeps Back = back-keeps

pub step-keeps : StepKeepsFit
step-keeps t s u a f went = by s.items refl
  where
    by : (items : List Item) → s.items ≡ items → StaysFit t s u
    by [] e = let P : List Item → Type 0 = λ q. step_first t.classes s q ≡ Went u in still-kept t s u f (went_is s u (subst P e went))
    by (i ∷ rest) e = item-keeps i t s u rest a f e went

-- one more step of a run
one-kept : (t : Tree) → Accepted t → (m : ℕ) (s : State) → Fit t s → StaysFit t s (plain_from t.classes 1 m s).state
unfolding plain_from
one-kept t a m s f = by s.items refl
  where
    went : (d : Stepped) → next t.classes s ≡ d → StaysFit t s (after_step m s d (plain_from t.classes zero (m + 1))).state
    went (Went u) e = step-keeps t s u a f e
    went (Trapped kind line) e = still-kept t s s f refl

    by : (items : List Item) → s.items ≡ items → StaysFit t s (run_on t.classes m s items (plain_from t.classes zero (m + 1))).state
    by [] e = still-kept t s s f refl
    by (i ∷ rest) e = went (step_item t.classes (record s { items = rest }) i) (ap (step_first t.classes s) e)

run-kept : (t : Tree) → Accepted t → (input : List ℕ) (n : ℕ) → Fit t (plain t input n).state →
    StaysFit t (plain t input n).state (plain t input (suc n)).state
run-kept t a input n f =
    let r = plain t input n in
    let P : Ran → Type 0 = λ q. StaysFit t r.state q.state in
    subst P (sym (plain_from-suc t.classes n 0 (opening t input))) (one-kept t a r.steps r.state f)

pub run-fits : RunFits
unfolding plain_from
run-fits t a input zero = opening-fits t input
run-fits t a input (suc n) = (run-kept t a input n (run-fits t a input n)).fit

pub run-allowed : RunAllowed
run-allowed t a input n =
    let e : n + 1 ≡ suc n = omega arith in
    let P : ℕ → Type 0 = λ q. Allowed (plain t input n).state (plain t input q).state in
    subst P (sym e) (run-kept t a input n (run-fits t a input n)).allowed

pub run-holds : RunHolds
run-holds t a input n = fit-holds t (plain t input n).state (run-fits t a input n)
