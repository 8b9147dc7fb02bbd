use Rattle.std.proofs.Common.{refl, subst}
use Rattle.rg_code.specs.declared.op.Op.TheVariants as i
use Rattle.rg_machine.specs.declared.next.Next.TheVariants as next
use Rattle.rg_machine.specs.Acts.{Does}
use Rattle.rg_machine.specs.Parts.{Parts}
use Rattle.rg_machine.proofs.machine.Machine.open_slot.Goals as goal

pub returns-then-open-clause-opens : goal.returns-then-open-clause-opens
returns-then-open-clause-opens c = λ opened.
    let old = c.args.self.now in
    let new = c.open.new.self in
    subst (λ n. Does (i.Enter n c.args.z) old new next.On) c.from.ensures
    (subst (λ n. Does (i.Enter c.from.result n) old new next.On) c.from-2.ensures (c.if-open.ensures.opens refl))

pub returns-clause-opens : goal.returns-clause-opens
returns-clause-opens c = λ opened.
    subst (λ (m : Parts). Does (i.Enter c.args.s c.args.z) m c.open_slot_otherwise.new.self next.On) (c.if-open.ensures.stays refl)
    (c.open_slot_otherwise.ensures.opens opened)
