use Rattle.std.proofs.Common.{slice_get}
use Rattle.std.proofs.lemmas.Option.{slice_get-get_or}
use Rattle.rg_count.proofs.RootsFlagged.{among-more}
use Rattle.rg_count.proofs.roots.flag_words.Goals as goal

pub loop-w-preserved : goal.loop-w-preserved
loop-w-preserved c =
    among-more c.args.cells.now.heap c.args.region
    (λ k. slice_get c.args.words.now k) c.loop-w.w-index _ c.args.cells.now c.loop-w.cells c.flag.new.cells
    (slice_get-get_or c.args.words.now c.loop-w.w-index _ c.loop-w-test.true) c.loop-w.invariant c.flag.ensures
