use Rattle.std.proofs.Common.{rules}
use Rattle.rg_machine.specs.Parts.{val_in}
use Rattle.rg_machine.specs.Cores.{core_of}
use Rattle.rg_machine.proofs.Release.Given.{own-effect, own-given, own-keeps, own-loose}
use Rattle.rg_machine.proofs.machine.Machine.own.Goals as goal

pub drop_slot-requires-clause-once : goal.drop_slot-requires-clause-once
drop_slot-requires-clause-once c =
    (own-given (core_of c.args.self.now) c.args.s (val_in c.args.self.now c.in-Some.field-0) c.in-Some.ensures.core c.requires.given).once

pub drop_slot-requires-clause-stack : goal.drop_slot-requires-clause-stack
drop_slot-requires-clause-stack c =
    own-loose (core_of c.args.self.now) c.args.s (val_in c.args.self.now c.in-Some.field-0) c.in-Some.ensures.core
    (own-given (core_of c.args.self.now) c.args.s (val_in c.args.self.now c.in-Some.field-0) c.in-Some.ensures.core c.requires.given)

pub set_slot-requires-clause-keeps : goal.set_slot-requires-clause-keeps
set_slot-requires-clause-keeps c =
    own-keeps (core_of c.args.self.now) (core_of c.drop_slot.new.self) (core_of c.pop.new.self) c.args.s
    (val_in c.args.self.now c.in-Some.field-0) (val_in c.pop.new.self c.in-Some-pop.w) c.in-Some.ensures.core
    (own-given (core_of c.args.self.now) c.args.s (val_in c.args.self.now c.in-Some.field-0) c.in-Some.ensures.core c.requires.given)
    c.drop_slot.ensures.gone c.in-Some-pop.ensures.core

pub returns-in-Some-pop : goal.returns-in-Some-pop
returns-in-Some-pop c at =
    record {
      effect =
          own-effect (core_of c.args.self.now) (core_of c.drop_slot.new.self) (core_of c.pop.new.self) c.args.s
          (val_in c.args.self.now c.in-Some.field-0) (val_in c.pop.new.self c.in-Some-pop.w) c.in-Some.ensures.core
          (own-given (core_of c.args.self.now) c.args.s (val_in c.args.self.now c.in-Some.field-0) c.in-Some.ensures.core c.requires.given)
          c.drop_slot.ensures.gone c.in-Some-pop.ensures.core (core_of c.set_slot.new.self) c.set_slot.ensures.put at;
      keeps = search rules;
      high = search rules;
    }
