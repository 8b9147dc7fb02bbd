-- A step tunes no pacer.
use Rattle.std.proofs.Common.{◌≡◌, ℕ, Option, None, Some, ap}
use Rattle.rg_base.specs.declared.event.Cause.{Cause}
use Rattle.rg_base.specs.declared.event.Cause.TheVariants as cause
use Rattle.rg_base.specs.declared.words.Manager.{Manager}
use Rattle.rg_base.specs.declared.words.Manager.TheVariants.{Arena, Count, Trace}
use Rattle.rg_machine.specs.Parts.{Parts}
use Rattle.rg_step.specs.Collections.{Paces, Serves}
use Rattle.rg_step.specs.Pacers.{Asks, SameTuned}
use Rattle.rg_step.specs.Stepping.{Stepping}

same-tuned : (before after : Asks) → after ≡ before → SameTuned before after
same-tuned before after same = (ap (λ (a : Asks). a.count.tuned) same, ap (λ (a : Asks). a.trace.tuned) same)

paced-tunes : (m : Manager) (held : ℕ) (old : Stepping) (mid : Parts) (new : Stepping) (before after : Asks) → Paces m held old mid new before after →
    SameTuned before after
paced-tunes Arena held old mid new before after h = same-tuned before after h.1.pacers
paced-tunes Count held old mid new before after h = (ap (λ (a : Asks). a.count.tuned) h.3, ap (λ (a : Asks). a.trace.tuned) h.3)
paced-tunes Trace held old mid new before after h = (ap (λ (a : Asks). a.count.tuned) h.3, ap (λ (a : Asks). a.trace.tuned) h.3)

pub serves-tunes : (due : Option Cause) (old : Stepping) (mid : Parts) (new : Stepping) (before after : Asks) → Serves due old mid new before after →
    SameTuned before after
serves-tunes None old mid new before after h = same-tuned before after h.1.pacers
serves-tunes (Some cause.Asked) old mid new before after h = same-tuned before after h.1.pacers
serves-tunes (Some cause.Paced) old mid new before after h = paced-tunes h.0.manager h.0.held old mid new before after h.2
