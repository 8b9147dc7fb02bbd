use Rattle.std.proofs.Common.{refl, arith}
use Rattle.rg_words.proofs.Number.{value_up_to-past}
use Rattle.rg_words.proofs.words.value_within.Goals as goal

pub returns-then-value-most-clause-is : goal.returns-then-value-most-clause-is
returns-then-value-most-clause-is c =
    value_up_to-past c.args.digits.now c.loop-b.b-index c.loop-b.value _ c.args.most c.loop-b-test.true
    c.loop-b.invariant.same refl (omega (arith, c.from.ensures))
