use Rattle.std.proofs.Common.{arith}
use Rattle.rg_regions.proofs.Callers.OwnedFound.{fields_more}
use Rattle.rg_trace.specs.Orphans.{IsWhite}
use Rattle.rg_trace.proofs.orphans.chain_fields.Goals as goal

pub loop-k-preserved : goal.loop-k-preserved
loop-k-preserved g c = (
  fields_more c.args.cells.now.heap (IsWhite c.args.cells.now.marks) c.args.region c.args.slot c.loop-k.k
      c.args.regions.now c.loop-k.regions
      c.chain_word-head.new.regions c.args.head c.loop-k.head c.chain_word-head.result c.look-w.result
      c.look-w.ensures.value c.chain_word-head.ensures c.loop-k.invariant.0,
  omega (arith, c.loop-k.invariant.1, c.look-w.ensures.cost),
)
