use Rattle.std.proofs.Common.{rules}
use Rattle.rg_machine.specs.Parts.{val_in}
use Rattle.rg_machine.specs.Cores.{core_of}
use Rattle.rg_machine.proofs.Release.Given.{pop-effect}
use Rattle.rg_machine.proofs.machine.Machine.pop_top.Goals as goal

pub returns-in-Some : goal.returns-in-Some
returns-in-Some c at =
    record {
      effect =
          pop-effect (core_of c.args.self.now) (core_of c.pop.new.self) (core_of c.release.new.self) (val_in c.pop.new.self c.in-Some.w)
          c.in-Some.ensures.core c.release.ensures.gone at;
      keeps = search rules;
      high = search rules;
    }
