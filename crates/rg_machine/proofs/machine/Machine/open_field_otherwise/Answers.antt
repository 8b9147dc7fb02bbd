use Rattle.std.proofs.Common.{inl, inr, subst, sym, ap, ◌∙◌}
use Rattle.rg_code.specs.declared.op.Op.TheVariants as i
use Rattle.rg_machine.specs.declared.next.Next.{Next}
use Rattle.rg_machine.specs.declared.next.Next.TheVariants as next
use Rattle.rg_machine.specs.Acts.{Does}
use Rattle.rg_machine.specs.Core.{Has, with_top}
use Rattle.rg_machine.specs.Cores.{core_of}
use Rattle.rg_machine.specs.Parts.{with_word}
use Rattle.rg_machine.proofs.Callers.Word.{core-push}
use Rattle.rg_machine.proofs.machine.Machine.open_field_otherwise.Goals as goal

pub enter_from-requires-clause-given : goal.enter_from-requires-clause-given
enter_from-requires-clause-given c =
    let old = c.args.self.now in
    let w = c.near-w.result in
    subst (λ n. Has (i.EnterField c.args.index n) (core_of (with_word old w))) (sym c.from.ensures)
    (subst (Has (i.EnterField c.args.index c.args.z)) (sym (core-push old w ∙ ap (with_top (core_of old)) c.near-w.ensures.value))
    c.requires.given)

pub returns-clause-opens : goal.returns-clause-opens
returns-clause-opens c = λ opened.
    let old = c.args.self.now in
    let new = c.enter_from.new.self in
    let w = c.near-w.result in (
      w,
      c.near-w.ensures.value,
      subst (λ n. Does (i.EnterField c.args.index n) (with_word old w) new next.On) c.from.ensures
          (subst (λ (r : Next). Does (i.EnterField c.args.index c.from.result) (with_word old w) new r) c.in-On.is c.enter_from.ensures.does),
    )

pub returns-in_default-clause-stays : goal.returns-in_default-clause-stays
returns-in_default-clause-stays c = λ stays. elim c.enter_from.ensures.stays [ inl on ↦ absurd (c.in_default.not-On on) | inr same ↦ same ]
