use Rattle.std.proofs.Common.{◌+◌, sym, subst}
use Rattle.rg_cells.specs.Table.{Table}
use Rattle.rg_release.specs.Inner.Turns.{FreedFirst}
use Rattle.rg_release.proofs.CellsFreed.{freed_more, still_held}
use Rattle.rg_release.proofs.freeing.free_members.Goals as goal

pub free-requires : goal.free-requires
free-requires c =
    let i = c.loop-slot.slot-index in
    let held = c.requires.held i c.loop-slot-test.true in
    still_held c.args.cells.now c.loop-slot.cells c.args.members.now i c.requires.once held c.loop-slot-test.true c.loop-slot.invariant

pub loop-slot-preserved : goal.loop-slot-preserved
loop-slot-preserved c =
    let i = c.loop-slot.slot-index in
    let F : Table → Type 0 = λ t. FreedFirst c.args.cells.now c.args.members.now (i + 1) t in
    let first = c.requires.held i c.loop-slot-test.true in
    let held = still_held c.args.cells.now c.loop-slot.cells c.args.members.now i c.requires.once first c.loop-slot-test.true
    c.loop-slot.invariant in
    subst F (sym c.free.ensures) (freed_more c.args.cells.now c.loop-slot.cells c.args.members.now i held c.loop-slot.invariant)
