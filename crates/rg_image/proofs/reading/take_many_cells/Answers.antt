use Rattle.std.proofs.Common.{◌∙◌}
use Rattle.rg_spell.specs.Reading.{many_at}
use Rattle.rg_spell.proofs.Loops.{ends, is_done}
use Rattle.rg_image.specs.Inner.Reading.{cell_at}
use Rattle.rg_image.proofs.Behind.{none-behind, goes_behind}
use Rattle.rg_image.proofs.reading.take_many_cells.Goals as goal

pub returns-in-Err-clause-read : goal.returns-in-Err-clause-read
returns-in-Err-clause-read c =
    let total = many_at cell_at c.args.count c.args.bytes.now in
    let cells = c.loop.cargo.cells in
    ends cell_at c.in-Err.e cells c.args.count c.loop.counter c.loop.rest.now total c.loop-test.true
    (none-behind cells c.in-Err.e (cell_at c.loop.rest.now) c.in-Err.ensures.read) c.loop.invariant.read

pub loop-preserved : goal.loop-preserved
loop-preserved c =
    let total = many_at cell_at c.args.count c.args.bytes.now in
    record {
      read = goes_behind cell_at c.loop.cargo.cells c.take_next_cell.new.cargo.cells c.args.count c.loop.counter c.loop.rest.now c.in-Ok-take_next_cell.after.now total
          c.loop-test.true c.in-Ok-take_next_cell.ensures.read c.loop.invariant.read;
      managers = c.take_next_cell.ensures.managers ∙ c.loop.invariant.managers;
    }

pub returns-clause-read : goal.returns-clause-read
returns-clause-read c =
    let total = many_at cell_at c.args.count c.args.bytes.now in
    is_done cell_at c.loop.cargo.cells c.args.count c.loop.counter c.loop.rest.now total c.loop-test.false c.loop.invariant.read
