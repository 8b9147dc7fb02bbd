use Rattle.std.proofs.Common.{sym, ◌∙◌}
use Rattle.rg_image.proofs.NumbersGiven.{in-next, in-stops, none-there}
use Rattle.rg_image.proofs.numbered.named_in.Goals as goal

pub returns-in_default : goal.returns-in_default
returns-in_default c = none-there c.args.fields.now 0 c.args.given (sym c.in_default.ensures)

pub returns-in_default-named_by : goal.returns-in_default-named_by
returns-in_default-named_by c =
    sym (in-stops c.args.fields.now 0 c.args.given c.in-Some.value (sym c.in-Some.ensures) (sym c.in_default-named_by.ensures))

pub returns : goal.returns
returns c =
    c.named_from_second.ensures
    ∙ sym (in-next c.args.fields.now 0 c.args.given c.in-Some-named_by.last c.in-Some.value (sym c.in-Some.ensures)
    (sym c.in-Some-named_by.ensures))
