use Rattle.std.proofs.Common.{subst}
use Rattle.rg_machine.specs.Parts.{machine_in}
use Rattle.rg_machine.specs.contracts.machine.Machine.{the_view}
use Rattle.rg_machine.proofs.End.Slot.{Bounded, asked-slot, bounded}
use Rattle.rg_machine.proofs.machine.Machine.drop_slot.Goals as goal

pub release-requires : goal.release-requires
release-requires c =
    let b = subst (λ p. Bounded (machine_in p)) c.self.view_is
    (bounded (the_view c.self.inside) c.is_forest.ensures.serials c.is_forest.ensures.forest c.self.invariant.0) in
    let leads = c.set_slot.ensures.leads c.slot-w.result c.slot-w.ensures.leads in
    let a = asked-slot c.args.self.now c.set_slot.new.self c.slot-w.result c.args.s b c.requires.once c.requires.stack c.slot-w.ensures.value
    c.set_slot.ensures.heap c.set_slot.ensures.put leads in
    record { leads = leads; once = a.once; loose = a.free; stack = a.apart }
