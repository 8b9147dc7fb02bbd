use Rattle.std.proofs.Common.{sym, arith}
use Rattle.rg_base.proofs.Callers.Digits.{value_of-past}
use Rattle.rg_input.proofs.Digits.{number-past}
use Rattle.rg_input.proofs.number.value_within.Goals as goal

pub returns-then-value-most : goal.returns-then-value-most
returns-then-value-most c = sym (number-past c.args.most c.args.digits.now
    (value_of-past _ _ _ c.loop-b.value c.loop-b-test.true c.loop-b.invariant.same (omega (arith, c.from-digit.ensures))))
