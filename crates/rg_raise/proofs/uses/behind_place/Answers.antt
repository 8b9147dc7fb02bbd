use Rattle.std.proofs.Common.{sym, arith}
use Rattle.rg_raise.proofs.Using.{passing-end, passing-found, passing-on}
use Rattle.rg_raise.proofs.uses.behind_place.Goals as goal

pub returns-then-ends_at : goal.returns-then-ends_at
returns-then-ends_at c =
    passing-found c.args.code.now.ops c.args.stretch.from c.args.stretch.end c.loop-at.at c.loop-at.invariant c.loop-at-test.true
    (sym c.if-ends_at.ensures)

pub loop-at-preserved : goal.loop-at-preserved
loop-at-preserved c =
    passing-on c.args.code.now.ops c.args.stretch.from c.args.stretch.end c.loop-at.at c.loop-at.invariant c.loop-at-test.true
    (sym c.if-ends_at.ensures)

pub returns : goal.returns
returns c =
    passing-end c.args.code.now.ops c.args.stretch.from c.args.stretch.end c.loop-at.at c.loop-at.invariant (omega (arith, c.loop-at-test.false))
