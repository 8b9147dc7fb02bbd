use Rattle.std.proofs.Common.{subst}
use Rattle.rg_machine.proofs.Callers.Word.{Known, word-object}
use Rattle.rg_machine.proofs.machine.Machine.check.Goals as goal

pub returns-in-Slot-clause-ok : goal.returns-in-Slot-clause-ok
returns-in-Slot-clause-ok c =
    let known = subst Known c.self.view_is (record {
      forest = c.is_forest.ensures.forest;
      serials = c.is_forest.ensures.serials;
      stands = c.self.invariant.0;
      lead = c.self.invariant.1;
    }) in
    word-object c.args.self.now c.args.r c.in-Slot.field-0 c.in-Slot.is known c.requires
