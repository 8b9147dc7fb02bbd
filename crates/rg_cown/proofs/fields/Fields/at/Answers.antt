use Rattle.std.proofs.Common.{◌≡◌, ◌∙◌, ap, sym, length, arith}
use Rattle.rg_cown.specs.Inner.Room.{values_in}
use Rattle.rg_cown.proofs.FieldsHere.{values-length}
use Rattle.rg_cown.proofs.fields.Fields.at.Goals as goal

pub few_at-requires-clause-there : goal.few_at-requires-clause-there
few_at-requires-clause-there c =
    let n = ap length (sym c.self.view_is) ∙ ap (λ r. length (values_in r)) c.in-Here.is
    ∙ values-length c.in-Here.count c.in-Here.kinds c.in-Here.numbers in
    omega (arith, c.requires, n)
