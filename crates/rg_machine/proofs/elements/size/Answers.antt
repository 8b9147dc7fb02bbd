use Rattle.rg_machine.specs.Parts.{val_in}
use Rattle.rg_machine.specs.Cores.{core_of}
use Rattle.rg_machine.proofs.Number.{stack-top}
use Rattle.rg_machine.proofs.elements.size.Goals as goal

pub set_top-requires-clause-some : goal.set_top-requires-clause-some
set_top-requires-clause-some c = stack-top (core_of c.args.p.now) (val_in c.args.p.now c.in-Some.r) c.in-Some.ensures.core
