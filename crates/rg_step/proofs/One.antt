-- What a step did, in one record, by how it ended.
use Rattle.std.proofs.Common.{◌≡◌, ◌≤◌, ◌-◌, ◌^◌, ℕ, true, false, true≢false, List, ◌++◌, Option, Some, None, refl, sym, ap, ◌∙◌, subst}
use Rattle.std.proofs.lemmas.Option.{none-some, same_Some}
use Rattle.rg_base.specs.declared.event.Cause.{Cause}
use Rattle.rg_base.specs.declared.event.Cause.TheVariants.{Asked}
use Rattle.rg_base.specs.declared.event.Event.{Event}
use Rattle.rg_base.specs.declared.outcome.Outcome.{Outcome}
use Rattle.rg_base.specs.declared.outcome.Outcome.TheVariants as outcome
use Rattle.rg_cells.specs.Table.{Serials}
use Rattle.rg_code.specs.Code.{Code}
use Rattle.rg_regions.specs.Grove.{Grove}
use Rattle.rg_code.specs.Dues.{due_at}
use Rattle.rg_machine.specs.High.{NoneMade}
use Rattle.rg_machine.specs.Parts.{Parts, machine_in}
use Rattle.rg_machine.specs.Stands.{Stands}
use Rattle.rg_step.specs.Collections.{IsRefused, Serves, Unasked}
use Rattle.rg_step.specs.Frees.{FreesOnly, StaysGone}
use Rattle.rg_step.specs.Inner.Serving.{Instructed, is_asked}
use Rattle.rg_step.specs.Sound.{IsSound}
use Rattle.rg_step.specs.States.{OneStep, Raises, Standing}
use Rattle.rg_step.specs.Steps.{Counts, IsRunning, StepsOn, counted, is_made}
use Rattle.rg_step.proofs.Pacing.Asked.{asks-refused, asks-served, asks-undue}
use Rattle.rg_step.proofs.Walking.High.{raises-none}
use Rattle.rg_step.proofs.Callers.Reached.{none-reached, serves-reached}
use Rattle.rg_step.proofs.Callers.Serve.{serves-none, serves-refused, serves-shows, serves-some}
use Rattle.rg_step.proofs.Slides.{none-slid, serves-slid}
use Rattle.rg_step.proofs.Pacing.CountingSince.{none-said, since-refused, since-served, since-undue}
use Rattle.rg_step.proofs.Write.{steps-write}
use Rattle.rg_step.proofs.Pacing.Yes.{no-yes, yeses-served}

-- Counts

pub counts-refused : (old new : ℕ) (result : Outcome) → is_made result ≡ false → new ≡ old → Counts old new result
counts-refused old new outcome.Running refused same = absurd (true≢false refused)
counts-refused old new (outcome.Printed v) refused same = absurd (true≢false refused)
counts-refused old new outcome.Done refused same = absurd (true≢false refused)
counts-refused old new (outcome.Trap kind line) refused same = same
counts-refused old new outcome.InputFault refused same = same
counts-refused old new outcome.Memory refused same = same

pub counts-made : (old new : ℕ) (result : Outcome) → is_made result ≡ true → new ≡ counted old → Counts old new result
counts-made old new outcome.Running made more = more
counts-made old new (outcome.Printed v) made more = more
counts-made old new outcome.Done made more = more
counts-made old new (outcome.Trap kind line) made more = absurd (true≢false (sym made))
counts-made old new outcome.InputFault made more = absurd (true≢false (sym made))
counts-made old new outcome.Memory made more = absurd (true≢false (sym made))

-- Steps

module _ (code : Code) (old new : Standing) (runs : IsRunning code (machine_in old.stepper.parts)) (result : Outcome)
    (high : Raises result old.stepper.parts new.stepper.parts) (frees : FreesOnly old.stepper.parts new.stepper.parts)
    (stays : StaysGone old.stepper.parts new.stepper.parts) (sound : IsSound new.stepper.parts.heap new.stepper.parts.frames)
    (slides : new.stepper.slides ≡ old.stepper.slides) where
  -- it was refused
  pub one-refused : (due_at code.ops old.stepper.parts.at ≡ Some Asked
      → (new.stepper.parts.heap ≡ old.stepper.parts.heap) × (new.stepper.parts.frames ≡ old.stepper.parts.frames))
      → is_made result ≡ false → IsRefused old.stepper new.stepper old.pacers new.pacers
      → new.stepper.steps ≡ old.stepper.steps → (before after : List ℕ)
      → StepsOn code (machine_in old.stepper.parts) (machine_in new.stepper.parts) result before after → OneStep code old new result before after
  one-refused still none refused same before after steps = record {
    shows = steps;
    sound = sound;
    serves = record {
      mid = new.stepper.parts;
      sound = sound;
      still = still;
      shows = steps;
      frees = frees;
      stays_gone = stays;
      does = serves-refused _ _ _ _ _ _ result none refused;
    };
    reaches = λ t p q r e went. none-reached _ _ q refused.events_are;
    slid = none-slid old.stepper new.stepper refused.events_are;
    slides = slides;
    asked = asks-refused code (machine_in old.stepper.parts) result _ _ none refused.unasked.pacers;
    yeses =
        let y = no-yes _ _ _ _ refused.events_are refused.unasked.pacers in
        (y.0, y.1, y.2, since-refused code (machine_in old.stepper.parts) result y.0 _ _ none refused.unasked.since);
    writes = steps-write code _ _ result before after runs steps;
    high = high;
    counts = counts-refused old.stepper.steps new.stepper.steps result none same;
  }

  -- it was made, and nothing was due
  pub one-undue : is_made result ≡ true → due_at code.ops old.stepper.parts.at ≡ None
      → new.stepper.events ≡ old.stepper.events → Unasked old.stepper new.stepper old.pacers new.pacers
      → new.stepper.steps ≡ counted old.stepper.steps → (before after : List ℕ)
      → StepsOn code (machine_in old.stepper.parts) (machine_in new.stepper.parts) result before after → OneStep code old new result before after
  one-undue made none told unasked more before after steps = record {
    shows = steps;
    sound = sound;
    serves = record {
      mid = new.stepper.parts;
      sound = sound;
      still = λ asked. absurd (none-some Asked (sym none ∙ asked));
      shows = steps;
      frees = frees;
      stays_gone = stays;
      does = serves-none _ _ _ _ _ _ result made none (record { parts = refl; events_are = told }) unasked;
    };
    reaches = λ t p q r e went. none-reached _ _ q told;
    slid = none-slid old.stepper new.stepper told;
    slides = slides;
    asked = asks-undue code (machine_in old.stepper.parts) result _ _ made none unasked.pacers;
    yeses =
        let y = no-yes _ _ _ _ told unasked.pacers in
        let unsaid = none-said old.stepper.events y.0 new.stepper.events y.1 told in
        (y.0, y.1, y.2, since-undue code (machine_in old.stepper.parts) result y.0 _ _ made none unasked.since unsaid);
    writes = steps-write code _ _ result before after runs steps;
    high = high;
    counts = counts-made old.stepper.steps new.stepper.steps result made more;
  }

-- It was made, and what was due was done: behind its instructions, which left `mid`, where these events had been told.
module _ (code : Code) (old : Standing) (mid : Parts) (new : Standing) (runs : IsRunning code (machine_in old.stepper.parts))
    (stands : Stands mid.heap mid.frames) (serials : Serials mid.heap.cells.heap) (windows : mid.frames.next ≤ 2 ^ 64 - 1)
    (grove : Grove mid.heap.cells mid.heap.regions)
    (why : Cause) (due : due_at code.ops old.stepper.parts.at ≡ Some why)
    (events : List Event) (told : events ≡ old.stepper.events)
    (serves : Serves (Some why) (record old.stepper { events = events }) mid new.stepper old.pacers new.pacers)
    (grown : IsSound new.stepper.parts.heap new.stepper.parts.frames)
    (none : NoneMade mid.heap new.stepper.parts.heap) (frees : FreesOnly old.stepper.parts mid) (stays : StaysGone old.stepper.parts mid)
    (still : why ≡ Asked → (mid.heap ≡ old.stepper.parts.heap) × (mid.frames ≡ old.stepper.parts.frames))
    (slides : new.stepper.slides ≡ old.stepper.slides) where
  one-served : (result : Outcome) → Raises result old.stepper.parts mid → is_made result ≡ true
      → new.stepper.steps ≡ counted old.stepper.steps → (before after : List ℕ)
      → StepsOn code (machine_in old.stepper.parts) (machine_in mid) result before after → OneStep code old new result before after
  one-served result high made more before after steps =
      let m = machine_in old.stepper.parts in
      let behind = record old.stepper { events = events } in
      let shows = serves-shows code m result made why behind mid new.stepper _ _ serves stands serials windows before after steps in
      record {
        shows = shows;
        sound = grown;
        serves = record {
          mid = mid;
          sound = record { stands = stands; serials = serials; forest = grove; windows = windows };
          still = λ asked. still (same_Some why Asked (sym due ∙ asked));
          shows = steps;
          frees = frees;
          stays_gone = stays;
          does = serves-some _ why old.stepper events mid new.stepper _ _ result made due told serves;
        };
        reaches = serves-reached code why behind mid new.stepper _ _ result made serves stands serials windows grove grown.forest m old.stepper.events
            (sym told) before after steps;
        slid = serves-slid why old.stepper behind mid new.stepper _ _ serves told slides still;
        slides = slides;
        asked = asks-served code m (Some why) behind mid new.stepper _ _ result before after made due serves stands steps;
        yeses =
            let y = yeses-served (Some why) behind mid new.stepper _ _ stands serves old.stepper.events told in
            let since = since-served code m why behind mid new.stepper _ _ result before after made due serves stands steps in
            (y.0, y.1, y.2, since y.0 (y.1 ∙ ap (λ es. es ++ y.0) (sym told)));
        writes = steps-write code _ _ result before after runs shows;
        high = raises-none result old.stepper.parts mid new.stepper.parts high none;
        counts = counts-made old.stepper.steps new.stepper.steps result made more;
      }

-- It was made: what was due was done behind its instructions, or nothing was due.
pub one-made : (code : Code) (old : Standing) (mid : Parts) (new : Standing) → IsRunning code (machine_in old.stepper.parts)
    → IsSound mid.heap mid.frames → (due : Option Cause) → due_at code.ops old.stepper.parts.at ≡ due → (events : List Event)
    → events ≡ old.stepper.events → Serves due (record old.stepper { events = events }) mid new.stepper old.pacers new.pacers
    → IsSound new.stepper.parts.heap new.stepper.parts.frames → NoneMade mid.heap new.stepper.parts.heap → (result : Outcome)
    → Instructed due old.stepper.parts mid result → new.stepper.slides ≡ old.stepper.slides → is_made result ≡ true
    → new.stepper.steps ≡ counted old.stepper.steps → (before after : List ℕ)
    → StepsOn code (machine_in old.stepper.parts) (machine_in mid) result before after → OneStep code old new result before after
one-made code old mid new runs sound None due events told serves grown none result did slides made more before after steps =
    let there = sym serves.0.parts in
    one-undue code old new runs result (subst (λ (p : Parts). Raises result old.stepper.parts p) there did.high)
    (subst (λ (p : Parts). FreesOnly old.stepper.parts p) there did.frees)
    (subst (λ (p : Parts). StaysGone old.stepper.parts p) there did.stays_gone)
    grown slides made due (serves.0.events_are ∙ told) (record { since = serves.1.since; pacers = serves.1.pacers }) more before after
    (subst (λ (p : Parts). StepsOn code (machine_in old.stepper.parts) (machine_in p) result before after) there steps)
one-made code old mid new runs sound (Some why) due events told serves grown none result did slides made more before after steps =
    one-served code old mid new runs sound.stands sound.serials sound.windows sound.forest why due events told serves grown none did.frees
    did.stays_gone (λ e. did.still (ap (λ w. is_asked (Some w)) e)) slides result did.high made more before after steps
