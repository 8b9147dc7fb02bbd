use Rattle.rg_spell.specs.Reading.{head_at, many_at}
use Rattle.rg_spell.proofs.Loops.{goes_on, ends, is_done}
use Rattle.rg_spell.proofs.reading.take_many_heads.Goals as goal

pub returns-in-Err : goal.returns-in-Err
returns-in-Err c =
    let total = many_at head_at c.args.count c.args.bytes.now in
    ends head_at c.in-Err.e c.loop.heads.items c.args.count c.loop.counter c.loop.rest.now total c.loop-test.true c.in-Err.ensures c.loop.invariant

pub loop-preserved : goal.loop-preserved
loop-preserved c =
    let total = many_at head_at c.args.count c.args.bytes.now in
    rw c.in-Ok-push.ensures.items
    (goes_on head_at c.loop.heads.items c.args.count c.loop.counter c.loop.rest.now c.in-Ok.pair.0 c.in-Ok.pair.1.now total
    c.loop-test.true c.in-Ok.ensures c.loop.invariant)

pub returns : goal.returns
returns c =
    let total = many_at head_at c.args.count c.args.bytes.now in
    is_done head_at c.loop.heads.items c.args.count c.loop.counter c.loop.rest.now total c.loop-test.false c.loop.invariant
