use Rattle.std.proofs.Common.{◌∙◌, ap, arith}
use native.Mathlib.Numerals.{unary_clauses}
use Rattle.rg_cown.specs.Inner.Room.{value_of}
use Rattle.rg_cown.proofs.FieldsHere.{values-and}
use Rattle.rg_cown.proofs.fields.and.Goals as goal

pub returns-clause-values : goal.returns-clause-values
returns-clause-values c =
    let e = ap (λ k. value_of k c.number_in.result) c.kind_of.ensures ∙ c.number_in.ensures in
    simp unary_clauses (values-and c.args.count c.args.kinds.now c.args.numbers.now c.kind_of.result c.number_in.result c.args.v e
    (omega (arith, c.requires, c.told-kinds)) (omega (arith, c.requires, c.told-numbers)))
