-- A collection that a step told is of a region whose manager collects.
use Rattle.std.proofs.Common.{◌≡◌, ◌≢◌, ℕ, true, true≢false, List, [], ◌∷◌, ◌++◌, Option, Some, None, sym, ap, ◌∙◌, subst}
use Rattle.rg_base.specs.declared.event.Cause.{Cause}
use Rattle.rg_base.specs.declared.event.Cause.TheVariants.{Asked, Paced}
use Rattle.rg_base.specs.declared.event.Event.{Event}
use Rattle.rg_base.specs.declared.outcome.Outcome.{Outcome}
use Rattle.rg_base.specs.declared.outcome.Outcome.TheVariants as outcome
use Rattle.rg_base.specs.declared.words.Manager.{Manager}
use Rattle.rg_base.specs.declared.words.Manager.TheVariants.{Arena}
use Rattle.rg_code.specs.Code.{Code}
use Rattle.rg_code.specs.Dues.{due_at}
use Rattle.rg_machine.specs.Parts.{Parts}
use Rattle.rg_step.specs.Collections.{CollectsAsked, IsCollected, Paces, Serves, ServesBy, event_of}
use Rattle.rg_step.specs.Pacers.{Asks}
use Rattle.rg_step.specs.States.{OneStep, Standing}
use Rattle.rg_step.specs.Steps.{is_made}
use Rattle.rg_step.specs.Stepping.{Stepping}
use Rattle.rg_step.proofs.Callers.Active.{collected-manager}
use Rattle.rg_step.proofs.Callers.Reached.{last-is, longer, serves-told}

-- what was due was done, where the step was made
serves-of : (due : Option Cause) (old : Stepping) (mid : Parts) (new : Stepping) (before after : Asks) (result : Outcome) → is_made result ≡ true
    → ServesBy due old mid new before after result → Serves due old mid new before after
serves-of due old mid new before after outcome.Running made s = s
serves-of due old mid new before after (outcome.Printed v) made s = s
serves-of due old mid new before after outcome.Done made s = s
serves-of due old mid new before after (outcome.Trap kind line) made s = absurd (true≢false (sym made))
serves-of due old mid new before after outcome.InputFault made s = absurd (true≢false (sym made))
serves-of due old mid new before after outcome.Memory made s = absurd (true≢false (sym made))

pub event-collects : (code : Code) (old new : Standing) (result : Outcome) (x y : List ℕ) → is_made result ≡ true → OneStep code old new result x y
    → (e : Event) → new.stepper.events ≡ old.stepper.events ++ e ∷ [] → e.manager ≢ Arena
event-collects code old new result x y made one e more =
    by (due_at code.ops old.stepper.parts.at)
    (serves-of _ old.stepper one.serves.mid new.stepper old.pacers new.pacers result made one.serves.does)
  where
    mid : Parts
    mid = one.serves.mid

    -- what is told is what was collected
    told-is : (why : Cause) (c : IsCollected why mid old.stepper.events new.stepper) → c.told.manager ≡ e.manager
    told-is why c =
        ap (λ (u : Event). u.manager)
        (sym (last-is old.stepper.events e (event_of new.stepper.steps why c.told) (sym more ∙ c.events_are)))

    by : (due : Option Cause) → Serves due old.stepper mid new.stepper old.pacers new.pacers → e.manager ≢ Arena
    by None s is = longer old.stepper.events e (sym s.0.events_are ∙ more)
    by (Some Asked) s is =
        let c = serves-told Asked old.stepper mid new.stepper old.pacers new.pacers s e more in
        let arena = sym (collected-manager Asked mid old.stepper.events new.stepper s.0.0 s.0.1 c) ∙ told-is Asked c ∙ is in
        let left = subst (λ (m : Manager). CollectsAsked m mid old.stepper.events new.stepper) arena s.0.2 in
        longer old.stepper.events e (sym left.events_are ∙ more)
    by (Some Paced) s is =
        let c = serves-told Paced old.stepper mid new.stepper old.pacers new.pacers s e more in
        let arena = sym (collected-manager Paced mid old.stepper.events new.stepper s.0 s.1 c) ∙ told-is Paced c ∙ is in
        let left = subst (λ (m : Manager). Paces m s.0.held old.stepper mid new.stepper old.pacers new.pacers) arena s.2 in
        longer old.stepper.events e (sym left.0.events_are ∙ more)
