use Rattle.std.proofs.Common.{rules}
use Rattle.rg_machine.specs.Cores.{core_of}
use Rattle.rg_machine.proofs.End.Nil.{end-effect}
use Rattle.rg_machine.proofs.machine.Machine.end.Goals as goal

pub returns : goal.returns
returns c at =
    record {
      effect =
          end-effect (core_of c.args.self.now) (core_of c.end_from.new.self) c.args.s c.end_from.ensures.ended at;
      keeps = search rules;
      high = search rules;
    }
