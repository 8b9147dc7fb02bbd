use Rattle.std.proofs.Common.{subst, sym}
use Rattle.rg_code.specs.declared.op.Op.TheVariants as i
use Rattle.rg_machine.specs.Acts.{Does}
use Rattle.rg_machine.specs.Core.{Has}
use Rattle.rg_machine.specs.Cores.{core_of}
use Rattle.rg_machine.specs.Parts.{Parts}
use Rattle.rg_machine.proofs.Enter.Field.{enter-field-none}
use Rattle.rg_machine.proofs.machine.Machine.enter_field.Goals as goal

pub enter_from-requires-clause-given : goal.enter_from-requires-clause-given
enter_from-requires-clause-given c =
    subst (λ (p : Parts). Has (i.EnterField c.args.index c.args.z) (core_of p)) c.in-Some.ensures.some c.requires.given

pub returns : goal.returns
returns c =
    subst (λ (p : Parts). Does (i.EnterField c.args.index c.args.z) p c.enter_from.new.self c.enter_from.result) (sym c.in-Some.ensures.some)
    c.enter_from.ensures.does

pub returns-in_default : goal.returns-in_default
returns-in_default c at =
    record {
      effect = λ go input.
          enter-field-none (core_of c.args.self.now) c.args.index c.args.z at (c.pop.ensures.none c.in_default.is).0 go input;
      keeps = tt;
      high = tt;
    }
