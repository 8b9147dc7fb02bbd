use Rattle.std.proofs.Common.{◌∙◌, ◌++◌, ◌∷◌, [], ap, sym, arith}
use native.Mathlib.Numerals.{unary_clauses}
use Rattle.rg_cown.specs.Inner.Room.{values_of}
use Rattle.rg_cown.proofs.FieldsHere.{values-next}
use Rattle.rg_cown.proofs.fields.few_listed.Goals as goal

pub loop-k-preserved : goal.loop-k-preserved
loop-k-preserved c =
    let ks = c.args.kinds.now in
    let ns = c.args.numbers.now in
    let n = values-next c.loop-k.k ks ns _ _ (omega (arith, c.loop-k-test.true, c.requires, c.told-kinds))
    (omega (arith, c.loop-k-test.true, c.requires, c.told-numbers)) in
    simp unary_clauses (c.in-Ok.ensures.items ∙ ap (λ vs. vs ++ c.value_in.result ∷ []) c.loop-k.invariant
    ∙ ap (λ v. values_of c.loop-k.k ks ns ++ v ∷ []) c.value_in.ensures ∙ sym n)
