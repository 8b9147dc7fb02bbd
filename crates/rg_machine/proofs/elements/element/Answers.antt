use Rattle.std.proofs.Common.{rules}
use Rattle.rg_machine.specs.Cores.{core_of}
use Rattle.rg_machine.specs.Parts.{val_in}
use Rattle.rg_machine.proofs.Indexed.{element-effect, element-has}
use Rattle.rg_machine.proofs.Number.{stack-top}
use Rattle.rg_machine.proofs.elements.element.Goals as goal

pub element-w-requires-clause-given : goal.element-w-requires-clause-given
element-w-requires-clause-given c =
    let q = c.pop.new.self in
    element-has (core_of c.args.p.now) (core_of q) (val_in q c.in-Some.index) (val_in q c.in-Some-top.r) c.in-Some.ensures.core
    c.in-Some-top.ensures.core c.requires.given

pub set_top-requires-clause-some : goal.set_top-requires-clause-some
set_top-requires-clause-some c = stack-top (core_of c.pop.new.self) (val_in c.pop.new.self c.in-Some-top.r) c.in-Some-top.ensures.core

pub returns : goal.returns
returns c at =
    let q = c.pop.new.self in
    record {
      effect = element-effect (core_of c.args.p.now) (core_of q) (val_in q c.in-Some.index) (val_in q c.in-Some-top.r) c.in-Some.ensures.core
          c.in-Some-top.ensures.core (core_of c.set_top.new.self) (val_in q c.element-w.result) at c.element-w.ensures.value c.set_top.ensures.core;
      keeps = search rules;
      high = search rules;
    }
