-- The pacers say yes as often as there are collections of theirs.
use Rattle.std.proofs.Common.{◌≡◌, ℕ, ◌+◌, Bool as Truth, true, false, ◌&&◌, cond, if◌then◌else◌, List, [], ◌∷◌, ◌++◌, append-nil}
use Rattle.std.proofs.Common.{Option, Some, None, refl, sym, ap, ◌∙◌, subst}
use Rattle.rg_base.specs.declared.event.Cause.{Cause}
use Rattle.rg_base.specs.declared.event.Cause.TheVariants.{Asked, Paced}
use Rattle.rg_base.specs.declared.event.Event.{Event}
use Rattle.rg_base.specs.declared.words.Manager.{Manager}
use Rattle.rg_base.specs.declared.words.Manager.TheVariants.{Arena, Count, Trace}
use Rattle.rg_rules.specs.Outside.Asks.{paced_as}
use Rattle.rg_pace.specs.Asked.{one_more}
use Rattle.rg_machine.specs.Parts.{Parts}
use Rattle.rg_machine.specs.Stands.{Stands}
use Rattle.rg_step.specs.Asking.{YesesTold, raised_if}
use Rattle.rg_step.specs.Yeses.{is_paced, raised}
use Rattle.rg_step.specs.Collections.{CollectsAsked, CollectsOn, IsCollected, Paces, Serves, event_of}
use Rattle.rg_step.specs.Pacers.{Asks}
use Rattle.rg_step.specs.Stepping.{Stepping}
use Rattle.rg_step.proofs.Callers.Active.{collected-manager}

-- so many events stand behind the first ones, and the pacers said yes as often
abbrev Yeses : (events : List Event) → Stepping → (before after : Asks) → Type 0
Yeses events new before after = (behind : List Event) × (new.events ≡ events ++ behind) × YesesTold behind before after

pub no-yes : (events new : List Event) (before after : Asks) → new ≡ events → after ≡ before
    → (behind : List Event) × (new ≡ events ++ behind) × YesesTold behind before after
no-yes events new before after is same = (
  [],
  is ∙ sym (append-nil events),
  record { count = ap (λ (x : Asks). x.count.yeses) same; trace = ap (λ (x : Asks). x.trace.yeses) same },
)

-- once more, or not
raised-one : (b : Truth) (n : ℕ) → raised (0 + cond b 1 0) n ≡ raised_if b n
raised-one true n = refl
raised-one false n = refl

collected-yes : (why : Cause) (m : Manager) (mid : Parts) (events : List Event) (new : Stepping) (before after : Asks)
    → (c : IsCollected why mid events new) → c.told.manager ≡ m
    → after.count.yeses ≡ raised_if (is_paced why && paced_as Count m) before.count.yeses
    → after.trace.yeses ≡ raised_if (is_paced why && paced_as Trace m) before.trace.yeses → Yeses events new before after
collected-yes why m mid events new before after c same count trace = (
  event_of new.steps why c.told ∷ [],
  c.events_are,
  record {
    count = count ∙ ap (λ k. raised_if (is_paced why && paced_as Count k) before.count.yeses) (sym same)
        ∙ sym (raised-one (is_paced why && paced_as Count c.told.manager) before.count.yeses);
    trace = trace ∙ ap (λ k. raised_if (is_paced why && paced_as Trace k) before.trace.yeses) (sym same)
        ∙ sym (raised-one (is_paced why && paced_as Trace c.told.manager) before.trace.yeses);
  },
)

serves-yes : (due : Option Cause) (old : Stepping) (mid : Parts) (new : Stepping) (before after : Asks) → Stands mid.heap mid.frames
    → Serves due old mid new before after → Yeses old.events new before after
serves-yes None old mid new before after stands s = no-yes old.events new.events before after s.0.events_are s.1.pacers
serves-yes (Some Asked) old mid new before after stands s = by s.0.0.manager s.0.2 refl
  where
    by : (m : Manager) → CollectsAsked m mid old.events new → s.0.0.manager ≡ m → Yeses old.events new before after
    by Arena c e = no-yes old.events new.events before after c.events_are s.1.pacers
    by Count c e =
        collected-yes Asked Count mid old.events new before after c (collected-manager Asked mid old.events new s.0.0 s.0.1 c ∙ e)
        (ap (λ (x : Asks). x.count.yeses) s.1.pacers) (ap (λ (x : Asks). x.trace.yeses) s.1.pacers)
    by Trace c e =
        collected-yes Asked Trace mid old.events new before after c (collected-manager Asked mid old.events new s.0.0 s.0.1 c ∙ e)
        (ap (λ (x : Asks). x.count.yeses) s.1.pacers) (ap (λ (x : Asks). x.trace.yeses) s.1.pacers)
serves-yes (Some Paced) old mid new before after stands s = by s.0.manager s.2 refl
  where
    by : (m : Manager) → Paces m s.0.held old mid new before after → s.0.manager ≡ m → Yeses old.events new before after
    by Arena c e = no-yes old.events new.events before after c.0.events_are c.1.pacers
    by Count c e = on c.0 c.1 (ap (λ (x : Asks). x.count.yeses) c.3) (ap (λ (x : Asks). x.trace.yeses) c.3)
      where
        on : (answer : Truth) → CollectsOn answer mid old.events new
            → after.count.yeses ≡ (if answer then one_more before.count.yeses else before.count.yeses)
            → after.trace.yeses ≡ before.trace.yeses → Yeses old.events new before after
        on true c count trace =
            collected-yes Paced Count mid old.events new before after c (collected-manager Paced mid old.events new s.0 s.1 c ∙ e) count trace
        on false c count trace = ([], c.events_are ∙ sym (append-nil old.events), record { count = count; trace = trace })
    by Trace c e = on c.0 c.1 (ap (λ (x : Asks). x.count.yeses) c.3) (ap (λ (x : Asks). x.trace.yeses) c.3)
      where
        on : (answer : Truth) → CollectsOn answer mid old.events new → after.count.yeses ≡ before.count.yeses
            → after.trace.yeses ≡ (if answer then one_more before.trace.yeses else before.trace.yeses) → Yeses old.events new before after
        on true c count trace =
            collected-yes Paced Trace mid old.events new before after c (collected-manager Paced mid old.events new s.0 s.1 c ∙ e) count trace
        on false c count trace = ([], c.events_are ∙ sym (append-nil old.events), record { count = count; trace = trace })

-- behind the events that were told before
pub yeses-served : (due : Option Cause) (old : Stepping) (mid : Parts) (new : Stepping) (before after : Asks) → Stands mid.heap mid.frames
    → Serves due old mid new before after → (events : List Event) → old.events ≡ events
    → (behind : List Event) × (new.events ≡ events ++ behind) × YesesTold behind before after
yeses-served due old mid new before after stands s events same =
    subst (λ es. Yeses es new before after) same (serves-yes due old mid new before after stands s)
