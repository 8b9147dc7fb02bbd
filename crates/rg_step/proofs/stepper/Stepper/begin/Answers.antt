use Rattle.std.proofs.Common.{◌∙◌, ap}
use Rattle.rg_machine.specs.Core.{Core}
use Rattle.rg_machine.specs.Parts.{opening}
use Rattle.rg_step.specs.Stepping.{Stepping}
use Rattle.rg_step.proofs.Shapes.KnownSteps.{bare-resting}
use Rattle.rg_step.proofs.stepper.Stepper.begin.Goals as goal

pub returns-clause-begun : goal.returns-clause-begun
returns-clause-begun c =
    let p = c.in_ok-machine.machine in (
      p,
      record {
        shows = ap (λ (k : Core). k.machine) c.in_ok-machine.ensures.core ∙ ap (λ n. opening n c.args.manager) c.main_slots.ensures;
        sound = record {
          stands = c.is_sound.ensures.stands;
          serials = c.is_sound.ensures.serials;
          forest = c.is_sound.ensures.forest;
          windows = c.is_sound.ensures.windows;
        };
        high = c.in_ok-machine.ensures.high;
      },
      ap (λ (n : Stepping). record n { parts = p }) c.self.view_is,
    )

pub invariant_of-self : goal.invariant_of-self
invariant_of-self c =
    let p = c.in_ok-machine.machine in (
      bare-resting p p.at (ap (λ (k : Core). k.stack) c.in_ok-machine.ensures.core, ap (λ (k : Core). k.printed) c.in_ok-machine.ensures.core),
      c.self.invariant.1,
    )
