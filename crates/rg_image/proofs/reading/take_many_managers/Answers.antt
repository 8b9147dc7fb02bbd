use Rattle.rg_spell.specs.Reading.{many_at, manager_at}
use Rattle.rg_spell.proofs.Loops.{goes_on, ends, is_done}
use Rattle.rg_spell.specs.declared.refusal.Refusal.TheVariants as refusal
use Rattle.rg_image.proofs.reading.take_many_managers.Goals as goal

pub returns-in_default-clause-read : goal.returns-in_default-clause-read
returns-in_default-clause-read c =
    let total = many_at manager_at c.args.count c.args.bytes.now in
    ends manager_at refusal.NotSpelt c.loop.cargo.managers c.args.count c.loop.counter c.loop.rest.now total c.loop-test.true
    c.in_default.ensures c.loop.invariant.read

pub loop-preserved : goal.loop-preserved
loop-preserved c =
    let total = many_at manager_at c.args.count c.args.bytes.now in
    rw c.in-Ok.ensures.ok (record {
      read = goes_on manager_at c.loop.cargo.managers c.args.count c.loop.counter c.loop.rest.now c.in-Some.manager c.in-Some.after.now
          total c.loop-test.true c.in-Some.ensures c.loop.invariant.read;
      cells = c.loop.invariant.cells;
    })

pub returns-clause-read : goal.returns-clause-read
returns-clause-read c =
    let total = many_at manager_at c.args.count c.args.bytes.now in
    is_done manager_at c.loop.cargo.managers c.args.count c.loop.counter c.loop.rest.now total c.loop-test.false c.loop.invariant.read
