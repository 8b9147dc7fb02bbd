use Rattle.rg_spell.specs.Reading.{row_at, many_at}
use Rattle.rg_module.specs.Inner.Rows.{rows_of}
use Rattle.rg_spell.proofs.Loops.{goes_on, ends, is_done}
use Rattle.rg_module.proofs.SideBySide.{bare-push, rows-push}
use Rattle.rg_module.proofs.rows.take_many_rows.Goals as goal

pub returns-in-Err-clause-read : goal.returns-in-Err-clause-read
returns-in-Err-clause-read c =
    let total = many_at row_at c.args.count c.args.bytes.now in
    ends row_at c.in-Err.e (rows_of c.loop.code c.loop.maps.items) c.args.count c.loop.counter c.loop.rest.now total
    c.loop-test.true c.in-Err.ensures c.loop.invariant.read

pub loop-preserved : goal.loop-preserved
loop-preserved c =
    let total = many_at row_at c.args.count c.args.bytes.now in
    let bare = c.loop.invariant.bare in
    let is = c.in-Ok-push.ensures.ok in
    let more = c.in-Ok-push-2.ensures.items in
    record {
      read = rw (rows-push _ _ _ _ c.in-Ok.row.0 c.in-Ok.row.1 bare is more)
          (goes_on row_at (rows_of c.loop.code c.loop.maps.items) c.args.count c.loop.counter c.loop.rest.now (c.in-Ok.row.0, c.in-Ok.row.1)
          c.in-Ok.row.2.now total c.loop-test.true c.in-Ok.ensures c.loop.invariant.read);
      bare = bare-push _ _ _ _ c.in-Ok.row.0 c.in-Ok.row.1 bare is more;
    }

pub returns-clause-read : goal.returns-clause-read
returns-clause-read c =
    let total = many_at row_at c.args.count c.args.bytes.now in
    is_done row_at (rows_of c.loop.code c.loop.maps.items) c.args.count c.loop.counter c.loop.rest.now total c.loop-test.false c.loop.invariant.read
