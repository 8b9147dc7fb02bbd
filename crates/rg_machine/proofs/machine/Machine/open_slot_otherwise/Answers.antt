use Rattle.std.proofs.Common.{inl, inr, subst}
use Rattle.rg_code.specs.declared.op.Op.TheVariants as i
use Rattle.rg_machine.specs.declared.next.Next.{Next}
use Rattle.rg_machine.specs.declared.next.Next.TheVariants as next
use Rattle.rg_machine.specs.Acts.{Does}
use Rattle.rg_machine.proofs.machine.Machine.open_slot_otherwise.Goals as goal

pub returns-clause-opens : goal.returns-clause-opens
returns-clause-opens c = λ opened.
    let old = c.args.self.now in
    let new = c.enter.new.self in
    subst (λ n. Does (i.Enter n c.args.z) old new next.On) c.from.ensures
    (subst (λ n. Does (i.Enter c.from.result n) old new next.On) c.from-2.ensures
    (subst (λ (r : Next). Does (i.Enter c.from.result c.from-2.result) old new r) c.in-On.is c.enter.ensures.does))

pub returns-in_default-clause-stays : goal.returns-in_default-clause-stays
returns-in_default-clause-stays c = λ stays. elim c.enter.ensures.stays [ inl on ↦ absurd (c.in_default.not-On on) | inr same ↦ same ]
