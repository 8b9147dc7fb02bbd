use Rattle.std.proofs.Common.{◌+◌, sym, subst}
use Rattle.std.proofs.lemmas.Option.{slice_get-get_or}
use Rattle.rg_cells.specs.Table.{Table}
use Rattle.rg_heap.specs.Inner.Chains.{FirstFreed}
use Rattle.rg_heap.proofs.Ended.{freed_more}
use Rattle.rg_heap.proofs.ending.free_cells.Goals as goal

pub loop-slot-preserved : goal.loop-slot-preserved
loop-slot-preserved c =
    let slots = c.args.slots.now in
    let i = c.loop-slot.slot-index in
    let stands = slice_get-get_or slots i 0 c.loop-slot-test.true in
    let F : Table → Type 0 = λ t. FirstFreed c.args.cells.now slots (i + 1) t in
    subst F (sym c.free.ensures) (freed_more c.args.cells.now c.loop-slot.cells slots i _ c.requires.once stands (c.requires.held i _ stands)
    c.loop-slot.invariant)
