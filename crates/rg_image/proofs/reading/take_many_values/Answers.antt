use Rattle.rg_spell.specs.Reading.{many_at}
use Rattle.rg_spell.proofs.Loops.{goes_on, ends, is_done}
use Rattle.rg_spell.specs.declared.refusal.Refusal.TheVariants as refusal
use Rattle.rg_image.specs.Inner.Reading.{value_at}
use Rattle.rg_image.proofs.reading.take_many_values.Goals as goal

pub returns-in_default : goal.returns-in_default
returns-in_default c =
    let total = many_at value_at c.args.count c.args.bytes.now in
    ends value_at refusal.NotSpelt c.loop.values c.args.count c.loop.counter c.loop.rest.now total c.loop-test.true
    c.in_default.ensures c.loop.invariant

pub loop-preserved : goal.loop-preserved
loop-preserved c =
    let total = many_at value_at c.args.count c.args.bytes.now in
    rw c.in-Ok.ensures.ok (goes_on value_at c.loop.values c.args.count c.loop.counter c.loop.rest.now c.in-Some.value c.in-Some.after.now
    total c.loop-test.true c.in-Some.ensures c.loop.invariant)

pub returns : goal.returns
returns c =
    let total = many_at value_at c.args.count c.args.bytes.now in
    is_done value_at c.loop.values c.args.count c.loop.counter c.loop.rest.now total c.loop-test.false c.loop.invariant
