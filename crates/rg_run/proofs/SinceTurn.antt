-- How often the steps of a run asked a pacer since its last yes, one step after another.
use Rattle.std.proofs.Common.{◌≡◌, ◌-◌, ◌^◌, ◌≤◌, ◌<◌, ◌≢◌, ℕ, ◌+◌, true, List, [], ◌++◌, Option}
use Rattle.std.proofs.Common.{sym, ap, subst, ◌∙◌, arith}
use Rattle.std.specs.List.{list_any}
use Rattle.rg_base.specs.declared.event.Event.{Event}
use Rattle.rg_base.specs.declared.outcome.Outcome.{Outcome}
use Rattle.rg_base.specs.declared.outcome.Outcome.TheVariants as outcome
use Rattle.rg_base.specs.declared.words.Manager.{Manager}
use Rattle.rg_base.specs.declared.words.Manager.TheVariants.{Count, Trace}
use Rattle.rg_tree.specs.Tree.{Class}
use Rattle.rg_tree.specs.Rows.Tables.{Tables}
use Rattle.rg_tree.specs.Rows.RowTrees.{program_of}
use Rattle.rg_rules.specs.Outside.Asks.{asks, asks_from}
use Rattle.rg_rules.specs.State.{State}
use Rattle.rg_rules.specs.Steps.{Went, next}
use Rattle.rg_rules.specs.Runs.{opening, plain_from}
use Rattle.rg_code.specs.Code.{Code}
use Rattle.rg_code.specs.Dues.{due_at}
use Rattle.rg_machine.specs.Parts.{machine_in}
use Rattle.rg_step.specs.Asking.{SinceFrom, asks_at, since_behind}
use Rattle.rg_step.specs.Yeses.{paced_by}
use Rattle.rg_step.specs.States.{OneStep, Standing}
use Rattle.rg_step.specs.Steps.{Leapt, counted, counted_by}
use Rattle.rg_step.specs.Stepping.{Since, Stepping}
use Rattle.rg_run.specs.Asked.{last_yes}
use Rattle.rg_run.specs.Inner.{Adds, OneMore, behind}
use Rattle.rg_run.proofs.Ask.{asks-leapt, asks-next, at}
use Rattle.rg_run.proofs.Report.{step-adds}
use Rattle.rg_run.proofs.Since.{SinceOver, CountsSince, last-append, last-more, since-next, since-still}
use Rattle.rg_run.proofs.Turn.{Between}

-- of one pacer, behind a step that was made
since-then : (classes : List Class) (m : Manager) (k : ℕ) (s u v : State) (old new told : List Event) (was now : ℕ) →
    plain_from classes k 0 s ≡ at u k → u.items ≢ [] → next classes u ≡ Went v → new ≡ old ++ told → OneMore (k + 1) old new →
    (list_any (paced_by m) told ≡ true → asks_at classes m u ≡ true) →
    now ≡ since_behind (asks_at classes m u) (list_any (paced_by m) told) was →
    CountsSince k was (last_yes m old) (asks_from classes m k 1 s) → CountsSince (k + 1) now (last_yes m new) (asks_from classes m (k + 1) 1 s)
since-then classes m k s u v old new told was now is some went more one only since so_far =
    let P : List ℕ → Type 0 = λ q. CountsSince (k + 1) now (last_yes m new) q in
    let found = ap (last_yes m) more ∙ last-append m 0 old told ∙ last-more m (last_yes m old) (k + 1) old new told more one in
    subst P (sym (asks-next classes m k s u v is some went))
    (since-next k was (last_yes m old) (asks_from classes m k 1 s) (asks_at classes m u) (list_any (paced_by m) told) now (last_yes m new) so_far only
    since found)

counts-on : (k old new : ℕ) → new ≡ counted old → old ≡ k → k < 2 ^ 64 - 1 → new ≡ k + 1
counts-on k old new counts is room = grind (arith, counts, is, room)

module _ (t : Tables) (code : Code) (k : ℕ) (old new : Standing) (taken out : Option (List ℕ)) (Still : Type 0) (before between : List ℕ)
    (b : Between t code k (machine_in old.stepper.parts) taken out Still before between) (so_far : SinceOver (program_of t) before k old.stepper)
    (room : k < 2 ^ 64 - 1) where
  adds : (r : Outcome) {end : List ℕ} → OneStep code old new r between end → Adds new.stepper.steps old.stepper.events new.stepper.events r
  adds r one =
      step-adds (due_at code.ops old.stepper.parts.at) old.stepper one.serves.mid new.stepper old.pacers new.pacers r one.serves.does

  since-more : (q : State) → next (program_of t).classes b.state ≡ Went q → (told : List Event) → new.stepper.events ≡ old.stepper.events ++ told →
      OneMore new.stepper.steps old.stepper.events new.stepper.events →
      SinceFrom (program_of t).classes b.state told old.stepper.since new.stepper.since → new.stepper.steps ≡ counted old.stepper.steps →
      SinceOver (program_of t) before (k + 1) new.stepper
  since-more q went told more one since counts =
      let p = program_of t in
      let s = opening p before in
      let r = b.so_far in
      let P : ℕ → Type 0 = λ n. OneMore n old.stepper.events new.stepper.events in
      let steps : new.stepper.steps ≡ k + 1 = counts-on k old.stepper.steps new.stepper.steps counts so_far.steps room in
      let here : P (k + 1) = subst P steps one in
      record {
        steps = steps;
        count = since-then p.classes Count k s b.state q old.stepper.events new.stepper.events told old.stepper.since.count new.stepper.since.count
            r.ran_is r.some went more here (since.said Count) since.count so_far.count;
        trace = since-then p.classes Trace k s b.state q old.stepper.events new.stepper.events told old.stepper.since.trace new.stepper.since.trace
            r.ran_is r.some went more here (since.said Trace) since.trace so_far.trace;
      }

  same-since : new.stepper.events ≡ old.stepper.events → new.stepper.since ≡ old.stepper.since → new.stepper.steps ≡ old.stepper.steps →
      SinceOver (program_of t) before k new.stepper
  same-since events since steps =
      let P : Manager → ℕ → List Event → Type 0 = λ m n es. CountsSince k n (last_yes m es) (asks (program_of t) before k m) in
      record {
        steps = steps ∙ so_far.steps;
        count = subst (λ (es : List Event). P Count new.stepper.since.count es) (sym events)
            (subst (λ (x : Since). P Count x.count old.stepper.events) (sym since) so_far.count);
        trace = subst (λ (es : List Event). P Trace new.stepper.since.trace es) (sym events)
            (subst (λ (x : Since). P Trace x.trace old.stepper.events) (sym since) so_far.trace);
      }

  pub since-by : (end : List ℕ) (r : Outcome) → OneStep code old new r between end → SinceOver (program_of t) before (behind k r) new.stepper
  since-by end outcome.Running one =
      let h = one.shows (program_of t) b.state b.runs b.input in
      since-more h.0 h.1.0 one.yeses.0 one.yeses.1 (adds outcome.Running one) (one.yeses.3 (program_of t) b.state b.runs) one.counts
  since-by end (outcome.Printed v) one =
      let h = one.shows (program_of t) b.state b.runs b.input in
      since-more h.0 h.1.0 one.yeses.0 one.yeses.1 (adds (outcome.Printed v) one) (one.yeses.3 (program_of t) b.state b.runs) one.counts
  since-by end outcome.Done one =
      let h = one.shows (program_of t) b.state b.runs b.input in
      since-more h.0 h.1.0 one.yeses.0 one.yeses.1 (adds outcome.Done one) (one.yeses.3 (program_of t) b.state b.runs) one.counts
  since-by end (outcome.Trap kind line) one = same-since (adds (outcome.Trap kind line) one) one.yeses.3 one.counts
  since-by end outcome.InputFault one = same-since (adds outcome.InputFault one) one.yeses.3 one.counts
  since-by end outcome.Memory one = same-since (adds outcome.Memory one) one.yeses.3 one.counts

-- steps that were made at once ask nobody
pub since-leapt : (t : Tables) (code : Code) (k j : ℕ) (old new : Stepping) (Still : Type 0) (before between : List ℕ) (taken out : Option (List ℕ)) →
    Between t code k (machine_in old.parts) taken out Still before between → SinceOver (program_of t) before k old →
    Leapt code j (machine_in old.parts) (machine_in new.parts) → new.since ≡ old.since → new.events ≡ old.events →
    new.steps ≡ counted_by j old.steps → k + j ≤ 2 ^ 64 - 1 → SinceOver (program_of t) before (k + j) new
since-leapt t code k j old new Still before between taken out b so_far leaps since events counts room =
    record {
      steps = grind (arith, counts, so_far.steps, room);
      count = still Count old.since.count new.since.count (ap (λ (x : Since). x.count) since) so_far.count;
      trace = still Trace old.since.trace new.since.trace (ap (λ (x : Since). x.trace) since) so_far.trace;
    }
  where
    still : (m : Manager) (was now : ℕ) → now ≡ was → CountsSince k was (last_yes m old.events) (asks (program_of t) before k m) →
        CountsSince (k + j) now (last_yes m new.events) (asks (program_of t) before (k + j) m)
    still m was now same s =
        let P : ℕ → List Event → List ℕ → Type 0 = λ n es asked. CountsSince (k + j) n (last_yes m es) asked in
        let none = asks-leapt t code k j m (machine_in old.parts) (machine_in new.parts) Still before between taken out b leaps in
        subst (λ asked. P now new.events asked) (sym none) (subst (λ es. P now es (asks (program_of t) before k m)) (sym events)
        (subst (λ n. P n old.events (asks (program_of t) before k m)) (sym same)
        (since-still k j was (last_yes m old.events) (asks (program_of t) before k m) s)))
