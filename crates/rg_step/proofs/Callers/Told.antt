-- What is told of a collection that a step made, beside the plain states before the step and behind it. For callers.
use Rattle.std.proofs.Common.{◌≡◌, ℕ, true, true≢false, List, [], ◌∷◌, ◌++◌, Option, Some, None, length, slice_get, refl, sym, ap, ◌∙◌, subst}
use Rattle.std.proofs.lemmas.Option.{same_Some}
use Rattle.rg_base.specs.declared.event.Cause.{Cause}
use Rattle.rg_base.specs.declared.event.Cause.TheVariants.{Asked, Paced}
use Rattle.rg_base.specs.declared.event.Event.{Event}
use Rattle.rg_base.specs.declared.outcome.Outcome.{Outcome}
use Rattle.rg_base.specs.declared.outcome.Outcome.TheVariants as outcome
use Rattle.rg_base.specs.declared.words.Manager.{Manager}
use Rattle.rg_base.specs.declared.words.Manager.TheVariants.{Arena, Count, Trace}
use Rattle.rg_tree.specs.Tree.{Tree}
use Rattle.rg_rules.specs.Reach.{plain_reach}
use Rattle.rg_rules.specs.State.{State, active}
use Rattle.rg_rules.specs.Steps.{Went, next}
use Rattle.rg_code.specs.Code.{Code}
use Rattle.rg_code.specs.Dues.{due_at}
use Rattle.rg_heap.specs.declared.answers.Active.{Active}
use Rattle.rg_held.specs.Shown.{ShowsHeld}
use Rattle.rg_stack.specs.Dues.{first_due}
use Rattle.rg_stack.proofs.Callers.Due.{steps-due}
use Rattle.rg_machine.specs.Active.{IsActive}
use Rattle.rg_machine.specs.Parts.{Parts, machine_in}
use Rattle.rg_step.specs.Collections.{CollectsAsked, Serves, ServesBy, event_of}
use Rattle.rg_step.specs.Pacers.{Asks}
use Rattle.rg_step.specs.States.{OneStep, Standing}
use Rattle.rg_step.specs.Steps.{Runs, is_made}
use Rattle.rg_step.specs.Stepping.{Stepping}
use Rattle.rg_step.proofs.Callers.Active.{collected-manager, collected-region, shown-manager, shown-region}
use Rattle.rg_step.proofs.Callers.Reached.{last-is, longer, serves-told, went-is}
use Rattle.rg_step.proofs.Callers.Serve.{made-went}

-- a collection of a step with this number, from one state to the next
pub record EventTold (t : Tree) (p q : State) (number : ℕ) (e : Event) : Type 0 where
  pub step : e.step ≡ number
  pub due : first_due t.classes p.items ≡ Some e.cause
  pub region : e.region ≡ active q.windows
  pub manager : slice_get q.managers (active q.windows) ≡ Some e.manager
  pub kept : e.manager ≡ Trace → e.kept ≡ length (plain_reach q)

-- what was due was done, where the step was made
serves-of : (due : Option Cause) (old : Stepping) (mid : Parts) (new : Stepping) (before after : Asks) (result : Outcome) → is_made result ≡ true
    → ServesBy due old mid new before after result → Serves due old mid new before after
serves-of due old mid new before after outcome.Running made s = s
serves-of due old mid new before after (outcome.Printed v) made s = s
serves-of due old mid new before after outcome.Done made s = s
serves-of due old mid new before after (outcome.Trap kind line) made s = absurd (true≢false (sym made))
serves-of due old mid new before after outcome.InputFault made s = absurd (true≢false (sym made))
serves-of due old mid new before after outcome.Memory made s = absurd (true≢false (sym made))

active-in : (why : Cause) (old : Stepping) (mid : Parts) (new : Stepping) (before after : Asks) → Serves (Some why) old mid new before after
    → (a : Active) × IsActive mid a
active-in Asked old mid new before after s = (s.0.0, s.0.1)
active-in Paced old mid new before after s = (s.0, s.1)

module _ (t : Tree) (code : Code) (old new : Standing) (result : Outcome) (x y : List ℕ) (made : is_made result ≡ true)
    (one : OneStep code old new result x y) (p q : State) (r : Runs t code (machine_in old.stepper.parts) p) (is : p.input ≡ x)
    (went : next t.classes p ≡ Went q) where
  abbrev mid : Parts
  mid = one.serves.mid

  first-is : first_due t.classes p.items ≡ due_at code.ops old.stepper.parts.at
  first-is =
      sym (steps-due t code r.shows.grown p r.accepted r.fits r.shows.shows r.left) ∙ ap (due_at code.ops) (sym r.shows.beside.at)

  -- the state behind the step is shown by what its instructions left
  shown : ShowsHeld t.classes code (machine_in mid) q
  shown =
      let s = one.serves.shows t p r is in
      let same : s.0 ≡ q = went-is (next t.classes p) s.0 q (made-went (next t.classes p) p s.0 result made s.1) went in
      subst (λ (u : State). ShowsHeld t.classes code (machine_in mid) u) same s.2

  does : Serves (due_at code.ops old.stepper.parts.at) old.stepper mid new.stepper old.pacers new.pacers
  does = serves-of _ old.stepper mid new.stepper old.pacers new.pacers result made one.serves.does

  pub event-told : (e : Event) → new.stepper.events ≡ old.stepper.events ++ e ∷ [] → EventTold t p q new.stepper.steps e
  event-told e more = by (due_at code.ops old.stepper.parts.at) refl
    where
      by : (d : Option Cause) → due_at code.ops old.stepper.parts.at ≡ d → EventTold t p q new.stepper.steps e
      by None due =
          let s = subst (λ d. Serves d old.stepper mid new.stepper old.pacers new.pacers) due does in
          absurd (longer old.stepper.events e (sym s.0.events_are ∙ more))
      by (Some why) due =
          let s = subst (λ d. Serves d old.stepper mid new.stepper old.pacers new.pacers) due does in
          let c = serves-told why old.stepper mid new.stepper old.pacers new.pacers s e more in
          let event : e ≡ event_of new.stepper.steps why c.told =
          last-is old.stepper.events e (event_of new.stepper.steps why c.told) (sym more ∙ c.events_are) in
          let a = active-in why old.stepper mid new.stepper old.pacers new.pacers s in
          record {
            step = ap (λ (u : Event). u.step) event;
            due = first-is ∙ due ∙ ap (λ (u : Event). Some u.cause) (sym event);
            region = ap (λ (u : Event). u.region) event ∙ collected-region why mid old.stepper.events new.stepper a.0 a.1 c
                ∙ sym (shown-region t code mid q a.0 shown a.1);
            manager = shown-manager t code mid q a.0 one.serves.sound.stands shown a.1
                ∙ ap Some (sym (collected-manager why mid old.stepper.events new.stepper a.0 a.1 c))
                ∙ ap (λ (u : Event). Some u.manager) (sym event);
            kept = λ trace. one.reaches t p q r is went e more trace;
          }

  -- a `collect` of a region that isn't an arena is told
  pub asked-told : first_due t.classes p.items ≡ Some Asked → (m : Manager) → slice_get q.managers (active q.windows) ≡ Some m
      → (m ≡ Arena → ⊥) → (e : Event) × (new.stepper.events ≡ old.stepper.events ++ e ∷ [])
  asked-told first m at never =
      let s = subst (λ d. Serves d old.stepper mid new.stepper old.pacers new.pacers) (sym first-is ∙ first) does in
      let a = s.0.0 in
      let same : m ≡ a.manager = same_Some m a.manager (sym at ∙ shown-manager t code mid q a one.serves.sound.stands shown s.0.1) in
      by a.manager same s.0.2
    where
      by : (k : Manager) → m ≡ k → CollectsAsked k mid old.stepper.events new.stepper
          → (e : Event) × (new.stepper.events ≡ old.stepper.events ++ e ∷ [])
      by Arena is c = absurd (never is)
      by Count is c = (event_of new.stepper.steps Asked c.told, c.events_are)
      by Trace is c = (event_of new.stepper.steps Asked c.told, c.events_are)
