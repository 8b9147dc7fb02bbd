use Rattle.std.proofs.Common.{◌≡◌, refl, subst, sym, ap, ◌∙◌}
use Rattle.rg_base.specs.declared.value.Word.{Word}
use Rattle.rg_code.specs.declared.op.Op.TheVariants as i
use Rattle.rg_machine.specs.declared.next.Next.TheVariants as next
use Rattle.rg_machine.specs.Acts.{Does}
use Rattle.rg_machine.specs.Core.{Has, with_top}
use Rattle.rg_machine.specs.Cores.{core_of}
use Rattle.rg_stack.specs.Machine.{slot_at}
use Rattle.rg_machine.specs.Parts.{Parts, machine_in, val_in, with_word}
use Rattle.rg_machine.proofs.Callers.Word.{core-push}
use Rattle.rg_machine.proofs.machine.Machine.open_field.Goals as goal

pub open_from-requires-clause-given : goal.open_from-requires-clause-given
open_from-requires-clause-given c =
    let old = c.args.self.now in
    let w = c.near-w.result in
    subst (λ n. Has (i.EnterField c.args.index n) (core_of (with_word old w))) (sym c.from.ensures)
    (subst (Has (i.EnterField c.args.index c.args.z)) (sym (core-push old w ∙ ap (with_top (core_of old)) c.near-w.ensures.value))
    c.requires.given)

pub returns-then-open_from-clause-opens : goal.returns-then-open_from-clause-opens
returns-then-open_from-clause-opens c = λ opened.
    let old = c.args.self.now in
    let new = c.open_from.new.self in
    let w = c.near-w.result in (
      w,
      c.near-w.ensures.value,
      subst (λ n. Does (i.EnterField c.args.index n) (with_word old w) new next.On) c.from.ensures (c.if-open_from.ensures.opens refl),
    )

-- where it doesn't, all is as it was

pub open_field_otherwise-requires : goal.open_field_otherwise-requires
open_field_otherwise-requires c = record {
  given =
      subst (λ (m : Parts). Has (i.EnterField c.args.index c.args.z) (with_top (core_of m) (slot_at (machine_in m) c.args.r)))
      (sym (c.if-open_from.ensures.stays refl)) c.requires.given;
}

pub returns-clause-opens : goal.returns-clause-opens
returns-clause-opens c = λ opened.
    let new = c.open_field_otherwise.new.self in
    subst (λ (m : Parts). (w : Word) × (val_in m w ≡ slot_at (machine_in m) c.args.r)
    × Does (i.EnterField c.args.index c.args.z) (with_word m w) new next.On)
    (c.if-open_from.ensures.stays refl) (c.open_field_otherwise.ensures.opens opened)
