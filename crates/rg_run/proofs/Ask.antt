-- How often the steps of a run ask the pacers, one step after another.
use Rattle.std.proofs.Common.{◌≡◌, ◌≢◌, ℕ, zero, suc, ◌+◌, ◌&&◌, Bool, true, false, List, [], ◌∷◌, ◌++◌, length, count_by, cond, Option, None}
use Rattle.std.proofs.Common.{refl, sym, ap, subst, ◌∙◌, arith, append-nil, length-append}
use Rattle.std.proofs.lemmas.List.Sums.{sum_by-append}
use Rattle.rg_base.specs.declared.event.Event.{Event}
use Rattle.rg_base.specs.declared.outcome.Outcome.{Outcome}
use Rattle.rg_base.specs.declared.outcome.Outcome.TheVariants as outcome
use Rattle.rg_base.specs.declared.outcome.Trap.{Trap}
use Rattle.rg_base.specs.declared.words.Manager.{Manager}
use Rattle.rg_base.specs.declared.words.Manager.TheVariants.{Count, Trace}
use Rattle.rg_tree.specs.Tree.{stmt, StmtKind, declare, assign, assign_element, Class}
use Rattle.rg_tree.specs.Rows.Tables.{Tables}
use Rattle.rg_tree.specs.Rows.RowTrees.{program_of}
use Rattle.rg_rules.specs.Outside.Asks.{asks, asks_then, asks_after, asks_on, asks_from, item_makes, is_managed, kind_makes}
use Rattle.rg_rules.specs.Items.{Item, Do}
use Rattle.rg_rules.specs.State.{State}
use Rattle.rg_rules.specs.Steps.{Stepped, Went, Trapped, step_item, step_first, next}
use Rattle.rg_rules.specs.Runs.{Ran, Running, Done, Stopped, after_step, run_on, opening, plain_from}
use Rattle.rg_code.specs.Code.{Code}
use Rattle.rg_pace.specs.Asked.{one_more}
use Rattle.rg_code.specs.Dues.{due_at}
use Rattle.rg_stack.specs.Dues.{first_due, kind_due, paced}
use Rattle.rg_stack.specs.Machine.{Machine}
use Rattle.rg_stack.proofs.Callers.Due.{steps-due}
use Rattle.rg_step.specs.Asking.{AsksFrom, AsksOn, YesesTold, asks_at, first_makes, raised_if}
use Rattle.rg_step.specs.Yeses.{paced_by, raised}
use Rattle.rg_step.specs.Pacers.{Asks}
use Rattle.rg_step.specs.Steps.{Leapt, StepsOn}
use Rattle.rg_run.specs.Asked.{AskedOver}
use Rattle.rg_run.specs.Inner.{behind}
use Rattle.rg_run.proofs.Turn.{Between, leapt}

-- Steps of a run

-- a run from a state that stands so
abbrev pub at : State → ℕ → Ran
at u n = record { state = u; steps = n; ending = Running }

-- more of them behind
then-more : (asking : Bool) (step : ℕ) (xs ys : List ℕ) → asks_then asking step (xs ++ ys) ≡ asks_then asking step xs ++ ys
then-more true step xs ys = refl
then-more false step xs ys = refl

not-done : Done ≡ Running → ⊥
not-done is = cc

not-stopped : (kind : Trap) (line : ℕ) → Stopped kind line ≡ Running → ⊥
not-stopped kind line is = cc

module _ (classes : List Class) (m : Manager) (u v : State) (n number : ℕ) where
  -- and the last step, where it asked
  abbrev last : List ℕ → List ℕ
  last asked = asked ++ asks_then (asks_at classes m u) number []

  more-after : (k step made : ℕ) (s : State) (asking : Bool) (d : Stepped) → after_step made s d (plain_from classes k (made + 1)) ≡ at u n →
      ((t : State) → plain_from classes k (made + 1) t ≡ at u n →
      asks_from classes m (suc k) (step + 1) t ≡ last (asks_from classes m k (step + 1) t)) →
      asks_after asking step d (asks_from classes m (suc k) (step + 1)) ≡ last (asks_after asking step d (asks_from classes m k (step + 1)))
  more-after k step made s asking (Went t) is more =
      ap (asks_then asking step) (more t is) ∙ then-more asking step (asks_from classes m k (step + 1) t) (asks_then (asks_at classes m u) number [])
  more-after k step made s asking (Trapped kind line) is more = absurd (not-stopped kind line (ap (λ (r : Ran). r.ending) is))

  more-on : (k step made : ℕ) (s : State) (its : List Item) → run_on classes made s its (plain_from classes k (made + 1)) ≡ at u n →
      ((t : State) → plain_from classes k (made + 1) t ≡ at u n →
      asks_from classes m (suc k) (step + 1) t ≡ last (asks_from classes m k (step + 1) t)) →
      asks_on classes m step s its (asks_from classes m (suc k) (step + 1)) ≡ last (asks_on classes m step s its (asks_from classes m k (step + 1)))
  more-on k step made s [] is more = absurd (not-done (ap (λ (r : Ran). r.ending) is))
  more-on k step made s (i ∷ rest) is more =
      more-after k step made s (item_makes classes i && is_managed m s) (step_item classes (record s { items = rest }) i) is more

  first-after : (step : ℕ) (asking : Bool) (d : Stepped) → d ≡ Went v →
      asks_after asking step d (asks_from classes m zero (step + 1)) ≡ asks_then asking step []
  unfolding asks_from
  first-after step asking (Went t) went = refl
  first-after step asking (Trapped kind line) went = cc

  first-on : (step : ℕ) (s : State) (its : List Item) → its ≢ [] → step_first classes s its ≡ Went v →
      asks_on classes m step s its (asks_from classes m zero (step + 1)) ≡ asks_then (first_makes classes its && is_managed m s) step []
  first-on step s [] some went = absurd (some refl)
  first-on step s (i ∷ rest) some went =
      first-after step (item_makes classes i && is_managed m s) (step_item classes (record s { items = rest }) i) went

  -- of one step more those ask that asked, and the last one where it does
  asks_from-suc : (k step made : ℕ) (s : State) → step + k ≡ number → plain_from classes k made s ≡ at u n → u.items ≢ [] →
      next classes u ≡ Went v → asks_from classes m (suc k) step s ≡ last (asks_from classes m k step s)
  unfolding asks_from plain_from
  asks_from-suc zero step made s there is some went =
      let same : u ≡ s = sym (ap (λ (r : Ran). r.state) is) in
      let here : step ≡ number = omega (arith, there) in
      let P : State → Type 0 = λ q. asks_on classes m step q q.items (asks_from classes m zero (step + 1)) ≡ last [] in
      subst P same (first-on step u u.items some went ∙ ap (λ q. asks_then (asks_at classes m u) q []) here)
  asks_from-suc (suc k) step made s there is some went =
      let further : step + 1 + k ≡ number = omega (arith, there) in
      more-on k step made s s.items is (λ t e. asks_from-suc k (step + 1) (made + 1) t further e some went)

-- so do those of k steps, and of the next one
pub asks-next : (classes : List Class) (m : Manager) (k : ℕ) (s u v : State) → plain_from classes k 0 s ≡ at u k → u.items ≢ [] →
    next classes u ≡ Went v → asks_from classes m (k + 1) 1 s ≡ asks_from classes m k 1 s ++ asks_then (asks_at classes m u) (k + 1) []
asks-next classes m k s u v is some went =
    let one : k + 1 ≡ suc k = omega arith in
    let there : 1 + k ≡ k + 1 = omega arith in
    ap (λ q. asks_from classes m q 1 s) one ∙ asks_from-suc classes m u v k (k + 1) k 1 0 s there is some went

-- one ask more, or not
raised-then : (asking : Bool) (step : ℕ) (xs : List ℕ) (n : ℕ) →
    raised (length (xs ++ asks_then asking step [])) n ≡ raised_if asking (raised (length xs) n)
raised-then true step xs n =
    let more : length (xs ++ step ∷ []) ≡ length xs + 1 = length-append xs (step ∷ []) in
    let one : length xs + 1 ≡ suc (length xs) = omega arith in
    ap (λ k. raised k n) (more ∙ one)
raised-then false step xs n = ap (λ ys. raised (length ys) n) (append-nil xs)

-- a pacer that was asked over k steps, and then where the next one asks
asked-then : (classes : List Class) (m : Manager) (k : ℕ) (s u v : State) (first now after : ℕ) → plain_from classes k 0 s ≡ at u k → u.items ≢ [] →
    next classes u ≡ Went v → now ≡ raised (length (asks_from classes m k 1 s)) first → after ≡ raised_if (asks_at classes m u) now →
    after ≡ raised (length (asks_from classes m (k + 1) 1 s)) first
asked-then classes m k s u v first now after is some went so_far more =
    more ∙ ap (raised_if (asks_at classes m u)) so_far
    ∙ sym (raised-then (asks_at classes m u) (k + 1) (asks_from classes m k 1 s) first)
    ∙ ap (λ xs. raised (length xs) first) (sym (asks-next classes m k s u v is some went))

module _ (t : Tables) (code : Code) (k : ℕ) (m : Machine) (old out : Option (List ℕ)) (Still : Type 0) (before between : List ℕ) (first now : Asks)
    (b : Between t code k m old out Still before between) (so_far : AskedOver (program_of t) before k first now) where
  -- behind a step that was made
  asked-more : (q : State) (after : Asks) → next (program_of t).classes b.state ≡ Went q → AsksFrom (program_of t).classes b.state now after →
      AskedOver (program_of t) before (k + 1) first after
  asked-more q after went asks =
      let p = program_of t in
      let s = opening p before in
      let r = b.so_far in
      record {
        count = asked-then p.classes Count k s b.state q first.count.asks now.count.asks after.count.asks r.ran_is r.some went so_far.count
            asks.count;
        trace = asked-then p.classes Trace k s b.state q first.trace.asks now.trace.asks after.trace.asks r.ran_is r.some went so_far.trace
            asks.trace;
      }

  asked-still : (after : Asks) → after ≡ now → AskedOver (program_of t) before k first after
  asked-still after same = subst (AskedOver (program_of t) before k first) (sym same) so_far

  pub asked-by : (new : Machine) (end : List ℕ) (after : Asks) (r : Outcome) → StepsOn code m new r between end → AsksOn code m r now after →
      AskedOver (program_of t) before (behind k r) first after
  asked-by new end after outcome.Running step asks =
      let h = step (program_of t) b.state b.runs b.input in asked-more h.0 after h.1.0 (asks (program_of t) b.state b.runs)
  asked-by new end after (outcome.Printed v) step asks =
      let h = step (program_of t) b.state b.runs b.input in asked-more h.0 after h.1.0 (asks (program_of t) b.state b.runs)
  asked-by new end after outcome.Done step asks =
      let h = step (program_of t) b.state b.runs b.input in asked-more h.0 after h.1.0 (asks (program_of t) b.state b.runs)
  asked-by new end after (outcome.Trap kind line) step asks = asked-still after asks
  asked-by new end after outcome.InputFault step asks = asked-still after asks
  asked-by new end after outcome.Memory step asks = asked-still after asks

-- Steps that were made at once

paced-none : (makes : Bool) → paced makes ≡ None → makes ≡ false
paced-none true undue = cc
paced-none false undue = refl

-- a step that may collect for no cause makes no object by `new C` or `new C [e]`
undue-kind : (classes : List Class) (k : StmtKind) → kind_due classes k ≡ None → kind_makes classes k ≡ false
undue-kind classes (declare x t r) undue = paced-none (kind_makes classes (declare x t r)) undue
undue-kind classes (assign p r) undue = paced-none (kind_makes classes (assign p r)) undue
undue-kind classes (assign_element q e r) undue = paced-none (kind_makes classes (assign_element q e r)) undue
undue-kind classes _ undue = refl

undue-makes : (classes : List Class) (items : List Item) → first_due classes items ≡ None → first_makes classes items ≡ false
undue-makes classes (Do (stmt line k) ∷ rest) undue = undue-kind classes k undue
undue-makes classes _ undue = refl

-- steps that were made at once ask nobody
pub asks-leapt : (t : Tables) (code : Code) (k j : ℕ) (manager : Manager) (m new : Machine) (Still : Type 0) (before between : List ℕ)
    (old out : Option (List ℕ)) → Between t code k m old out Still before between → Leapt code j m new →
    asks (program_of t) before (k + j) manager ≡ asks (program_of t) before k manager
asks-leapt t code k zero manager m new Still before between old out b h =
    let same : k + 0 ≡ k = omega arith in ap (λ q. asks (program_of t) before q manager) same
asks-leapt t code k (suc j) manager m new Still before between old out b h =
    let p = program_of t in
    let c = leapt t code k j m h.0 Still before between old out b h.1 in
    let shown = c.runs.shows in
    let undue : first_due p.classes c.state.items ≡ None =
    sym (steps-due p code shown.grown c.state c.runs.accepted c.runs.fits shown.shows c.runs.left)
    ∙ ap (due_at code.ops) (sym shown.beside.at) ∙ h.2 in
    let none : first_makes p.classes c.state.items ≡ false = undue-makes p.classes c.state.items undue in
    let q = h.3 between p c.state c.runs c.input in
    let same : k + suc j ≡ k + j + 1 = omega arith in
    ap (λ n. asks p before n manager) same
    ∙ asks-next p.classes manager (k + j) (opening p before) c.state q.0 c.so_far.ran_is c.so_far.some q.1.0
    ∙ ap (λ b. asks p before (k + j) manager ++ asks_then (b && is_managed manager c.state) (k + j + 1) []) none
    ∙ append-nil (asks p before (k + j) manager)
    ∙ asks-leapt t code k j manager m h.0 Still before between old out b h.1

pub asked-leapt : (t : Tables) (code : Code) (k j : ℕ) (m new : Machine) (Still : Type 0) (before between : List ℕ) (old out : Option (List ℕ))
    (first now : Asks) → Between t code k m old out Still before between → AskedOver (program_of t) before k first now → Leapt code j m new →
    AskedOver (program_of t) before (k + j) first now
asked-leapt t code k j m new Still before between old out first now b so_far h = record {
  count = so_far.count ∙ ap (λ xs. raised (length xs) first.count.asks)
      (sym (asks-leapt t code k j Count m new Still before between old out b h));
  trace = so_far.trace ∙ ap (λ xs. raised (length xs) first.trace.asks)
      (sym (asks-leapt t code k j Trace m new Still before between old out b h));
}

-- How often they said yes

raised-more : (j k n : ℕ) → raised j (raised k n) ≡ raised (k + j) n
raised-more zero k n = let same : k ≡ k + 0 = omega arith in ap (λ q. raised q n) same
raised-more (suc j) k n =
    let same : suc (k + j) ≡ k + suc j = omega arith in ap one_more (raised-more j k n) ∙ ap (λ q. raised q n) same

pub yeses-none : (events : List Event) (a : Asks) → events ≡ [] → YesesTold events a a
yeses-none events a none = let P : List Event → Type 0 = λ q. YesesTold q a a in subst P (sym none) (record { count = refl; trace = refl })

-- of other collections that are the same
pub yeses-of : (old new : List Event) (first now : Asks) → new ≡ old → YesesTold old first now → YesesTold new first now
yeses-of old new first now same h = let P : List Event → Type 0 = λ q. YesesTold q first now in subst P (sym same) h

yeses-by : (m : Manager) (old behind : List Event) (first now after : ℕ) → now ≡ raised (count_by (paced_by m) old) first →
    after ≡ raised (count_by (paced_by m) behind) now → after ≡ raised (count_by (paced_by m) (old ++ behind)) first
yeses-by m old behind first now after so_far more =
    more ∙ ap (raised (count_by (paced_by m) behind)) so_far ∙ raised-more (count_by (paced_by m) behind) (count_by (paced_by m) old) first
    ∙ ap (λ q. raised q first) (sym (sum_by-append (λ e. cond (paced_by m e) 1 0) old behind))

-- behind a step
pub yeses-more : (old new : List Event) (first now after : Asks) → YesesTold old first now →
    ((behind : List Event) × (new ≡ old ++ behind) × YesesTold behind now after) → YesesTold new first after
yeses-more old new first now after so_far more =
    yeses-of (old ++ more.0) new first after more.1 (record {
      count = yeses-by Count old more.0 first.count.yeses now.count.yeses after.count.yeses so_far.count more.2.count;
      trace = yeses-by Trace old more.0 first.trace.yeses now.trace.yeses after.trace.yeses so_far.trace more.2.trace;
    })
