use Rattle.std.proofs.Common.{arith}
use Rattle.rg_base.proofs.Callers.Digits.{value_of-past}
use Rattle.rg_lex.proofs.number.value.Goals as goal

pub returns-then-value-digit-clause-past : goal.returns-then-value-digit-clause-past
returns-then-value-digit-clause-past c =
    value_of-past _ _ _ c.loop-b.value c.loop-b-test.true c.loop-b.invariant.same (omega (arith, c.from-digit.ensures))
