use Rattle.rg_regions.specs.Owned.{Every}
use Rattle.rg_regions.proofs.Callers.OwnedFound.{fields_more}
use Rattle.rg_regions.proofs.owned.chain_fields.Goals as goal

pub loop-k-preserved : goal.loop-k-preserved
loop-k-preserved c =
    fields_more c.args.cells.now.heap Every c.args.region c.args.slot c.loop-k.k c.args.regions.now c.loop-k.regions c.chain_word-head.new.regions
    c.args.head c.loop-k.head c.chain_word-head.result c.field-w.result c.field-w.ensures c.chain_word-head.ensures c.loop-k.invariant
