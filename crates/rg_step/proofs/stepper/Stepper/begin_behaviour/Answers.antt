use Rattle.std.proofs.Common.{ap}
use Rattle.rg_begin.proofs.Callers.Runs.{some-left}
use Rattle.rg_step.specs.Stepping.{Stepping}
use Rattle.rg_step.proofs.stepper.Stepper.begin_behaviour.Goals as goal

pub returns-clause-begun : goal.returns-clause-begun
returns-clause-begun c =
    let p = c.in_ok-machine.machine in
    let first = c.in_ok-machine.ensures.first in
    record {
      runs = λ t m s.
          let x = c.in_ok-machine.ensures.shows t m s in
          record { accepted = s.accepted; lowers = s.lowers; fits = x.0; shows = x.1; left = some-left m };
      sound = record {
        stands = c.is_sound.ensures.stands;
        serials = c.is_sound.ensures.serials;
        forest = c.is_sound.ensures.forest;
        windows = c.is_sound.ensures.windows;
      };
      first = record {
        slot = first.slot;
        first = first.first;
        lies = first.lies;
        arena = (first.key, first.region, first.there, first.number, first.arena);
      };
      same = ap (λ (n : Stepping). record n { parts = p }) c.self.view_is;
    }

pub invariant_of-self : goal.invariant_of-self
invariant_of-self c = let b = c.in_ok-machine.ensures.bare in (record { words = b.words; printed = b.printed }, c.self.invariant.1)
