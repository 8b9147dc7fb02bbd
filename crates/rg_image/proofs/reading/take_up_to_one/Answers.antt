use Rattle.std.proofs.Common.{[], ◌-◌, arith}
use Rattle.rg_image.specs.Inner.Reading.{value_at}
use Rattle.rg_image.proofs.Few.{none-asked, first-missing, all-there}
use Rattle.rg_image.proofs.reading.take_up_to_one.Goals as goal

pub returns-then-count-eq0 : goal.returns-then-count-eq0
returns-then-count-eq0 c = none-asked value_at c.args.count c.args.bytes.now _ c.if-count-eq0.true

pub returns-in_default : goal.returns-in_default
returns-in_default c = first-missing value_at c.args.count c.args.bytes.now (omega (arith, c.if-count-eq0.false)) c.in_default.ensures

pub returns : goal.returns
returns c =
    let rest = c.in-Some.rest.now in
    all-there value_at c.args.count c.args.bytes.now c.in-Some.a rest [] rest (omega (arith, c.if-count-eq0.false)) c.in-Some.ensures
    (none-asked value_at (c.args.count - 1) rest [] (omega (arith, c.requires)))
