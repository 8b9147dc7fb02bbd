use Rattle.rg_base.specs.declared.value.Val.TheVariants.{Int}
use Rattle.rg_machine.specs.Core.{below_top}
use Rattle.rg_machine.specs.Parts.{val_in}
use Rattle.rg_machine.specs.Cores.{core_of}
use Rattle.rg_machine.proofs.Number.{beneath-pop}
use Rattle.rg_machine.proofs.values.binary.Goals as goal

pub set_top-requires-clause-some : goal.set_top-requires-clause-some
set_top-requires-clause-some c =
    beneath-pop (core_of c.args.p.now) (core_of c.pop.new.self) (below_top (below_top (core_of c.args.p.now))) (Int c.in-Some.x) (Int c.in-Some.y)
    (val_in c.pop.new.self c.in-Some-pop.field-0) c.in-Some.ensures c.in-Some-pop.ensures.core
