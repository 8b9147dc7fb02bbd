use Rattle.std.proofs.Common.{arith}
use Rattle.rg_image.specs.Inner.Reading.{value_at}
use Rattle.rg_image.proofs.Few.{none-asked, first-missing, others-missing, all-there}
use Rattle.rg_image.proofs.reading.take_up_to_three.Goals as goal

pub returns-then-count-eq0 : goal.returns-then-count-eq0
returns-then-count-eq0 c = none-asked value_at c.args.count c.args.bytes.now _ c.if-count-eq0.true

pub returns-in_default : goal.returns-in_default
returns-in_default c = first-missing value_at c.args.count c.args.bytes.now (omega (arith, c.if-count-eq0.false)) c.in_default.ensures

pub returns-in_default-take_up_to_two : goal.returns-in_default-take_up_to_two
returns-in_default-take_up_to_two c =
    others-missing value_at c.args.count c.args.bytes.now c.in-Some.a c.in-Some.rest.now (omega (arith, c.if-count-eq0.false)) c.in-Some.ensures
    c.in_default-take_up_to_two.ensures

pub returns : goal.returns
returns c =
    all-there value_at c.args.count c.args.bytes.now c.in-Some.a c.in-Some.rest.now _ c.in-Some-take_up_to_two.rest.now
    (omega (arith, c.if-count-eq0.false)) c.in-Some.ensures c.in-Some-take_up_to_two.ensures
