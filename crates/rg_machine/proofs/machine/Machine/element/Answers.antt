use Rattle.rg_machine.specs.Parts.{val_in}
use Rattle.rg_machine.proofs.Placed.{element-absent}
use Rattle.rg_machine.proofs.machine.Machine.element.Goals as goal

pub returns-in-None-clause-value : goal.returns-in-None-clause-value
returns-in-None-clause-value c =
    element-absent c.args.self.now (val_in c.args.self.now c.args.r) (val_in c.args.self.now c.args.index) c.in-None.ensures.none

pub returns-in-Some-clause-value : goal.returns-in-Some-clause-value
returns-in-Some-clause-value c = c.in-Some.ensures.some.value

pub returns-in-Some-clause-leads : goal.returns-in-Some-clause-leads
returns-in-Some-clause-leads c = c.in-Some.ensures.some.leads
