use Rattle.std.proofs.Common.{ap, refl, sym, subst, ◌∙◌, Some}
use Rattle.rg_input.proofs.Input.{OnInput-map}
use Rattle.rg_names.specs.Book.{Known}
use Rattle.rg_values.specs.Fits.{PartsFit}
use Rattle.rg_plain.specs.Outcomes.{EndsMain}
use Rattle.rg_plain.specs.Inner.Inputs.{SettlesOn}
use Rattle.rg_values.specs.Kept.{kept_of, shown}
use Rattle.rg_rules.specs.Outside.Inputs.{first_asks}
use Rattle.rg_plain.specs.Machine.{Machine, KeepsFit, StepsOn}
use Rattle.rg_plain.proofs.Rows.Machine.{fits_parts, fits_again, settles_as}
use Rattle.rg_plain.proofs.Runs.Sound.{steps-keep}
use Rattle.rg_plain.proofs.machine.PlainMachine.step.Goals as goal

pub whole_step-requires-clause-fit : goal.whole_step-requires-clause-fit
whole_step-requires-clause-fit g c =
    subst (λ (b : Known). PartsFit b.program c.self.inside.parts) (sym c.new-book.ensures)
    (fits_parts c.args.program.now c.args.self.now c.self.inside.parts c.requires.fits (ap (λ m. m.kept) c.self.view_is))

pub returns-clause-step : goal.returns-clause-step
returns-clause-step g c =
    let t = c.args.program.now in
    let u = c.new-book.result.program in
    let old = kept_of c.self.inside.parts in
    let new = kept_of c.whole_step.new.m in
    let now = c.args.self.now.kept in
    let r = c.whole_step.result in
    OnInput-map _ _ _ _ (SettlesOn u old new r) (SettlesOn t now new r) c.whole_step.ensures.step
    (λ before after is.
    subst (λ (b : Known). SettlesOn b.program now new r before after) c.new-book.ensures
    (settles_as u old now new r before after (ap (λ m. m.kept) c.self.view_is) is))

pub returns-clause-keeps : goal.returns-clause-keeps
returns-clause-keeps g c =
    let t = c.args.program.now in
    let new : Machine = record { classes = Some c.in-Some.classes; kept = kept_of c.whole_step.new.m } in
    OnInput-map _ _ _ _ (StepsOn t c.args.self.now new c.whole_step.result) (KeepsFit t c.args.self.now new) (returns-clause-step g c)
    (λ before after is. steps-keep t c.args.self.now new c.whole_step.result before after is)

pub returns-clause-reads_nothing : goal.returns-clause-reads_nothing
returns-clause-reads_nothing g c quiet =
    c.whole_step.ensures.reads_nothing
    (ap (λ (b : Known). first_asks (shown b.program c.self.inside.parts.items.items)) c.new-book.ensures
    ∙ ap (λ m. first_asks (shown c.args.program.now m.kept.items)) c.self.view_is ∙ quiet)

pub returns-clause-input_fault : goal.returns-clause-input_fault
returns-clause-input_fault g c fault =
    sym (ap (λ m. first_asks (shown c.args.program.now m.kept.items)) c.self.view_is)
    ∙ sym (ap (λ (b : Known). first_asks (shown b.program c.self.inside.parts.items.items)) c.new-book.ensures)
    ∙ c.whole_step.ensures.input_fault fault

pub returns-clause-fits : goal.returns-clause-fits
returns-clause-fits g c =
    let m = c.whole_step.new.m in
    fits_again c.args.program.now c.args.self.now m c.in-Some.classes _ c.requires.fits (sym (ap (λ m. m.classes) c.self.view_is) ∙ c.in-Some.is)
    (subst (λ (b : Known). PartsFit b.program m) c.new-book.ensures c.whole_step.ensures.fit)
    (subst (λ (b : Known). EndsMain (shown b.program m.items.items)) c.new-book.ensures c.whole_step.ensures.ends) c.in-Some.is refl
