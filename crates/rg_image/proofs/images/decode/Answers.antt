use Rattle.std.proofs.Common.{Some, None, refl, sym, ap, subst, ◌∙◌, arith}
use Rattle.rg_tree.specs.Rows.RowTrees.{program_of}
use Rattle.rg_spell.specs.declared.refusal.Refusal.{Refusal}
use Rattle.rg_spell.specs.Reading.{Fails}
use Rattle.rg_image.specs.Inner.Reading.{image_at}
use Rattle.rg_image.proofs.Whole.{decoded, again, unread, unsound, untyped}
use Rattle.rg_image.proofs.images.decode.Goals as goal

pub returns-in-Err-NotSpelt-clause-again : goal.returns-in-Err-NotSpelt-clause-again
returns-in-Err-NotSpelt-clause-again c =
    let P : Refusal → Type 0 = λ e. Fails e (image_at c.args.bytes.now) in
    unread (program_of c.args.program.now) c.args.bytes.now (subst P c.in-Err-NotSpelt.field-0-is c.in-Err-NotSpelt.ensures)

pub returns-in-Err-NotSpelt-clause-image : goal.returns-in-Err-NotSpelt-clause-image
returns-in-Err-NotSpelt-clause-image c = (refl, returns-in-Err-NotSpelt-clause-again c)

pub returns-in_default-clause-image : goal.returns-in_default-clause-image
returns-in_default-clause-image c =
    decoded (program_of c.args.program.now) c.args.bytes.now None (λ i. omega (arith, c.type_inv.bytes i))
    (c.in-Ok.ensures ∙ ap Some c.in_default.is) tt

pub returns-in_default-clause-again : goal.returns-in_default-clause-again
returns-in_default-clause-again c =
    again (program_of c.args.program.now) c.args.bytes.now None (c.in-Ok.ensures ∙ ap Some c.in_default.is)

pub returns-then-not-sound-clause-again : goal.returns-then-not-sound-clause-again
returns-then-not-sound-clause-again c =
    unsound (program_of c.args.program.now) c.args.bytes.now c.in-Some.cargo (c.in-Ok.ensures ∙ ap Some c.in-Some.is)
    (sym c.in-Ok-is_sound.ensures ∙ c.if-not-sound.true)

pub returns-then-not-sound-clause-image : goal.returns-then-not-sound-clause-image
returns-then-not-sound-clause-image c = (refl, returns-then-not-sound-clause-again c)

pub returns-then-not-is_typed-clause-again : goal.returns-then-not-is_typed-clause-again
returns-then-not-is_typed-clause-again c =
    untyped (program_of c.args.program.now) c.args.bytes.now c.in-Some.cargo (c.in-Ok.ensures ∙ ap Some c.in-Some.is)
    (sym c.if-not-is_typed.ensures)

pub returns-then-not-is_typed-clause-image : goal.returns-then-not-is_typed-clause-image
returns-then-not-is_typed-clause-image c = (refl, returns-then-not-is_typed-clause-again c)

pub returns-clause-image : goal.returns-clause-image
returns-clause-image c =
    decoded (program_of c.args.program.now) c.args.bytes.now (Some c.in-Some.cargo) (λ i. omega (arith, c.type_inv.bytes i))
    (c.in-Ok.ensures ∙ ap Some c.in-Some.is) (sym c.in-Ok-is_sound.ensures ∙ c.if-not-sound.false, sym c.if-not-is_typed.ensures)

pub returns-clause-again : goal.returns-clause-again
returns-clause-again c =
    again (program_of c.args.program.now) c.args.bytes.now (Some c.in-Some.cargo) (c.in-Ok.ensures ∙ ap Some c.in-Some.is)
