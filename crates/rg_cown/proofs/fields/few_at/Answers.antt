use Rattle.std.proofs.Common.{◌∙◌, ap, sym, arith, Some}
use Rattle.rg_cown.proofs.FieldsHere.{values-get}
use Rattle.rg_cown.proofs.fields.few_at.Goals as goal

pub returns : goal.returns
returns c =
    values-get c.args.count c.args.kinds.now c.args.numbers.now c.args.k _ _ c.requires.there (omega (arith, c.requires.few, c.told-kinds))
    (omega (arith, c.requires.few, c.told-numbers)) ∙ ap Some (sym c.value_in.ensures)
