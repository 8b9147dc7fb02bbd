use Rattle.std.proofs.Common.{◌∙◌, ap, sym, length}
use Rattle.rg_cown.specs.Inner.Room.{values_in}
use Rattle.rg_cown.proofs.FieldsHere.{values-length}
use Rattle.rg_cown.proofs.fields.Fields.len.Goals as goal

pub returns-in-Here : goal.returns-in-Here
returns-in-Here c =
    sym (values-length c.in-Here.count c.in-Here.kinds c.in-Here.numbers) ∙ ap (λ r. length (values_in r)) (sym c.in-Here.is) ∙ ap length c.self.view_is
