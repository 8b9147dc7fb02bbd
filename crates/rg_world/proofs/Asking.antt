-- How often the event of a number asks the pacers.
use Rattle.std.proofs.Common.{◌≡◌, ◌≢◌, ℕ, zero, ◌+◌, ◌&&◌, Bool, true, false, List, [], ◌∷◌, length, Option, Some, None, Result, Ok, Err}
use Rattle.std.proofs.Common.{OnOk, refl, sym, ap, ◌∙◌}
use Rattle.rg_base.specs.declared.event.Cause.{Cause}
use Rattle.rg_base.specs.declared.event.Cause.TheVariants as cause
use Rattle.rg_base.specs.declared.outcome.Outcome.{Outcome}
use Rattle.rg_base.specs.declared.outcome.Outcome.TheVariants as outcome
use Rattle.rg_base.specs.declared.outcome.Trap.{Trap}
use Rattle.rg_base.specs.declared.words.Manager.{Manager}
use Rattle.rg_base.specs.declared.words.Manager.TheVariants.{Arena, Count, Trace}
use Rattle.rg_input.specs.Numbers.{Pending, OnInput}
use Rattle.rg_io.specs.Content.{Rose}
use Rattle.rg_tree.specs.Tree.{Class, Tree}
use Rattle.rg_rules.specs.Items.{Item}
use Rattle.rg_rules.specs.Outside.Asks.{asks_then, asks_on, asks_from, is_managed}
use Rattle.rg_rules.specs.Runs.{Running, Ran}
use Rattle.rg_rules.specs.State.{State}
use Rattle.rg_rules.specs.Steps.{Went, Trapped, step_item, step_first, next}
use Rattle.rg_code.specs.Code.{Code}
use Rattle.rg_machine.specs.Parts.{Parts, machine_in}
use Rattle.rg_code.specs.Dues.{due_at}
use Rattle.rg_step.specs.Asking.{AsksFrom, AsksOn, asks_at, first_makes, raised_if}
use Rattle.rg_step.specs.Collections.{Paces, Serves, ServesBy}
use Rattle.rg_step.specs.Pacers.{Asks}
use Rattle.rg_step.specs.States.{OneStep, Standing}
use Rattle.rg_step.specs.Stepping.{Stepping}
use Rattle.rg_step.specs.Steps.{Settles}
use Rattle.rg_step.specs.Yeses.{raised}
use Rattle.rg_world.specs.declared.progress.Standing.{Standing as Stands}
use Rattle.rg_world.specs.declared.progress.Standing.TheVariants as stands
use Rattle.rg_world.specs.Asking.{step_asks, run_asks, event_asks, AskedMore, WasAsked}
use Rattle.rg_world.specs.Inner.Steps.{is_ended, runs_so}
use Rattle.rg_world.specs.Standing.{RunsAs, StandsAs}
use Rattle.rg_world.proofs.Stepped.{first-is, not-risen, on-nothing}

-- What a step does to the pacers

abbrev BothAsked : (before after : Asks) → Type 0
BothAsked before after = WasAsked before.count after.count × WasAsked before.trace after.trace

none-asked : (before after : Asks) → after ≡ before → BothAsked before after
none-asked before after same = ((0, ap (λ (x : Asks). x.count) same), (0, ap (λ (x : Asks). x.trace) same))

paces-alone : (m : Manager) (held : ℕ) (old : Stepping) (mid : Parts) (new : Stepping) (before after : Asks) → Paces m held old mid new before after
    → BothAsked before after
paces-alone Arena held old mid new before after h = none-asked before after h.1.pacers
paces-alone Count held old mid new before after h =
    ((1, (before.count, _, h.0, refl, ap (λ (x : Asks). x.count) h.3)), (0, ap (λ (x : Asks). x.trace) h.3))
paces-alone Trace held old mid new before after h =
    ((0, ap (λ (x : Asks). x.count) h.3), (1, (before.trace, _, h.0, refl, ap (λ (x : Asks). x.trace) h.3)))

serves-alone : (due : Option Cause) (old : Stepping) (mid : Parts) (new : Stepping) (before after : Asks) → Serves due old mid new before after
    → BothAsked before after
serves-alone None old mid new before after h = none-asked before after h.1.pacers
serves-alone (Some cause.Asked) old mid new before after h = none-asked before after h.1.pacers
serves-alone (Some cause.Paced) old mid new before after h = paces-alone h.0.manager h.0.held old mid new before after h.2

-- The step from a state

-- one that was made asks where its first item does
went-on : (classes : List Class) (m : Manager) (s q : State) (its : List Item) (i : Item) (rest : List Item) → its ≡ i ∷ rest
    → step_first classes s its ≡ Went q
    → asks_on classes m 1 s its (asks_from classes m zero (1 + 1)) ≡ asks_then (first_makes classes its && is_managed m s) 1 []
unfolding asks_from
went-on classes m s q its i rest some went = rw some (let e : step_item classes (record s { items = rest }) i ≡ Went q = rw some at went in rw e refl)

asks-went : (classes : List Class) (m : Manager) (s q : State) (i : Item) (rest : List Item) → s.items ≡ i ∷ rest → next classes s ≡ Went q
    → asks_from classes m 1 1 s ≡ asks_then (asks_at classes m s) 1 []
unfolding asks_from
asks-went classes m s q i rest some went = went-on classes m s q s.items i rest some went

-- one that trapped asks nobody
trapped-on : (classes : List Class) (m : Manager) (s : State) (kind : Trap) (line : ℕ) (its : List Item)
    → step_first classes s its ≡ Trapped kind line → asks_on classes m 1 s its (asks_from classes m zero (1 + 1)) ≡ []
trapped-on classes m s kind line [] trapped = refl
trapped-on classes m s kind line (i ∷ rest) trapped = rw trapped refl

asks-trapped : (classes : List Class) (m : Manager) (s : State) (kind : Trap) (line : ℕ) → next classes s ≡ Trapped kind line
    → asks_from classes m 1 1 s ≡ []
unfolding asks_from
asks-trapped classes m s kind line trapped = trapped-on classes m s kind line s.items trapped

once : (asking : Bool) (n : ℕ) → raised (length (asks_then asking 1 [])) n ≡ raised_if asking n
once true n = refl
once false n = refl

-- so the pacers were asked as the state says
made-asks : (classes : List Class) (s q : State) (i : Item) (rest : List Item) (before after : Asks) → s.items ≡ i ∷ rest → next classes s ≡ Went q
    → AsksFrom classes s before after → BothAsked before after → AskedMore (step_asks classes s) before after
made-asks classes s q i rest before after some went asked alone = record {
  count = asked.count ∙ by Count before.count.asks;
  trace = asked.trace ∙ by Trace before.trace.asks;
  count_alone = alone.0;
  trace_alone = alone.1;
}
  where
    by : (m : Manager) (n : ℕ) → raised_if (asks_at classes m s) n ≡ raised (step_asks classes s m) n
    by m n = sym (once (asks_at classes m s) n) ∙ ap (λ xs. raised (length xs) n) (sym (asks-went classes m s q i rest some went))

-- they are as they were, where nobody is asked
still-asks : (times : Manager → ℕ) (before after : Asks) → ((m : Manager) → times m ≡ 0) → after ≡ before → AskedMore times before after
still-asks times before after none same = record {
  count = ap (λ (x : Asks). x.count.asks) same ∙ ap (λ k. raised k before.count.asks) (sym (none Count));
  trace = ap (λ (x : Asks). x.trace.asks) same ∙ ap (λ k. raised k before.trace.asks) (sym (none Trace));
  count_alone = (0, ap (λ (x : Asks). x.count) same);
  trace_alone = (0, ap (λ (x : Asks). x.trace) same);
}

trapped-asks : (classes : List Class) (s : State) (kind : Trap) (line : ℕ) (before after : Asks) → next classes s ≡ Trapped kind line → after ≡ before
    → AskedMore (step_asks classes s) before after
trapped-asks classes s kind line before after trapped same =
    still-asks (step_asks classes s) before after (λ m. ap length (asks-trapped classes m s kind line trapped)) same

-- The step of a machine

module _ (t : Tree) (code : Code) (r : Ran) (old new : Standing) (h : RunsAs t code r old.stepper) (q : State) where
  went-asks : next t.classes r.state ≡ Went q → AsksFrom t.classes r.state old.pacers new.pacers → (mid : Parts)
      → Serves (due_at code.ops old.stepper.parts.at) old.stepper mid new.stepper old.pacers new.pacers
      → AskedMore (step_asks t.classes r.state) old.pacers new.pacers
  went-asks went asked mid does =
      let first = first-is r.state.items h.runs.left in
      made-asks t.classes r.state q first.0 first.1 old.pacers new.pacers first.2 went asked
      (serves-alone (due_at code.ops old.stepper.parts.at) old.stepper mid new.stepper old.pacers new.pacers does)

  asks-by : (result : Outcome) → (result ≢ outcome.InputFault) → (result ≢ outcome.Memory) → Settles (next t.classes r.state) r.state q result
      → AsksOn code (machine_in old.stepper.parts) result old.pacers new.pacers → (mid : Parts)
      → ServesBy (due_at code.ops old.stepper.parts.at) old.stepper mid new.stepper old.pacers new.pacers result
      → AskedMore (step_asks t.classes r.state) old.pacers new.pacers
  asks-by outcome.Running fault found s asked mid does = went-asks s.0 (asked t r.state h.runs) mid does
  asks-by (outcome.Printed v) fault found s asked mid does = went-asks s.0 (asked t r.state h.runs) mid does
  asks-by outcome.Done fault found s asked mid does = went-asks s.0 (asked t r.state h.runs) mid does
  asks-by (outcome.Trap kind line) fault found s asked mid does = trapped-asks t.classes r.state kind line old.pacers new.pacers s.0 asked
  asks-by outcome.InputFault fault found s asked mid does = absurd (fault refl)
  asks-by outcome.Memory fault found s asked mid does = absurd (found refl)

-- on an input without bytes it asks as the step of its run does
pub step-asks : (t : Tree) (code : Code) (r : Ran) (old new : Standing) (result : Outcome) (before after : Pending) → RunsAs t code r old.stepper
    → before.held ≡ [] → OnInput before after (Some []) (Some []) (OneStep code old new result) → (result ≡ outcome.InputFault → Rose 0 0)
    → result ≢ outcome.Memory → AskedMore (step_asks t.classes r.state) old.pacers new.pacers
step-asks t code r old new result before after h empty fact fault found =
    let here = on-nothing code r old new result before after h.input empty fact in
    let step = here.2.shows t r.state h.runs here.1 in
    asks-by t code r old new h step.0 result (λ e. not-risen (fault e)) found step.1 here.2.asked here.2.serves.mid here.2.serves.does

-- The event of a behaviour, by its run

pub runs-ask : (classes : List Class) (r : Ran) (o : Option Ran) (before after : Asks) → o ≡ Some r → r.ending ≡ Running
    → AskedMore (step_asks classes r.state) before after → AskedMore (event_asks classes o) before after
runs-ask classes r o before after told on asked = record {
  count = asked.count ∙ ap (λ k. raised k before.count.asks) (by Count);
  trace = asked.trace ∙ ap (λ k. raised k before.trace.asks) (by Trace);
  count_alone = asked.count_alone;
  trace_alone = asked.trace_alone;
}
  where
    by : (m : Manager) → step_asks classes r.state m ≡ event_asks classes o m
    by m = ap (λ e. run_asks classes r e m) (sym on) ∙ ap (λ x. event_asks classes x m) (sym told)

-- one that isn't running asks nobody
pub idle-asks : (t : Tree) (code : Code) (o : Option Ran) (s : Stands) (before : Asks) → StandsAs t code o s → runs_so s ≡ false
    → AskedMore (event_asks t.classes o) before before
idle-asks t code o stands.Waiting before h idle =
    still-asks (event_asks t.classes o) before before (λ m. ap (λ x. event_asks t.classes x m) h) refl
idle-asks t code o (stands.Running s) before h idle = absurd (cc)
idle-asks t code o stands.Done before h idle =
    still-asks (event_asks t.classes o) before before
    (λ m. ap (λ x. event_asks t.classes x m) h.1 ∙ ap (λ e. run_asks t.classes h.0 e m) h.2) refl
idle-asks t code o (stands.Trap kind line) before h idle =
    still-asks (event_asks t.classes o) before before
    (λ m. ap (λ x. event_asks t.classes x m) h.1 ∙ ap (λ e. run_asks t.classes h.0 e m) h.2) refl

pub ended-idle : (s : Stands) → is_ended s ≡ true → runs_so s ≡ false
ended-idle stands.Waiting e = refl
ended-idle (stands.Running s) e = absurd (cc)
ended-idle stands.Done e = refl
ended-idle (stands.Trap kind line) e = refl

pub whatever : {A E : Type 0} (r : Result A E) (P : Type 0) → P → OnOk r P
whatever (Ok a) P p = p
whatever (Err e) P p = tt
