use Rattle.rg_heap_tests.proofs.CellsTraced.{all_more}
use Rattle.rg_heap_tests.proofs.collections.add_cells.Goals as goal

pub loop-to-preserved : goal.loop-to-preserved
loop-to-preserved c =
    let made = c.in_ok-slot.ensures in (
      made.grove,
      (made.cell.0, made.cell.1, made.cell.2),
      all_more c.loop-to.cells c.add_cell.new.cells c.loop-to.regions c.add_cell.new.regions c.args.key c.loop-to.slots.items
          c.push-in-loop-to.new.self.items c.in_ok-slot.slot c.loop-to.invariant.2 made.others made.cell c.in_ok-push-2.ensures.items,
    )
