use Rattle.std.proofs.Common.{◌∙◌}
use Rattle.std.proofs.lemmas.Option.{slice_get-get_or}
use Rattle.rg_heap.proofs.OwnedChained.{chains_next}
use Rattle.rg_heap.proofs.ending.chain_cells.Goals as goal

pub loop-slot-preserved : goal.loop-slot-preserved
loop-slot-preserved c =
    let h = c.args.cells.now.heap in
    let v = c.args.frames.now in
    let old = c.args.regions.now in
    let slots = c.args.slots.now in
    let i = c.loop-slot.slot-index in
    let stands = slice_get-get_or slots i 0 c.loop-slot-test.true in
    record {
      records = c.chain_fields-head.ensures.records ∙ c.loop-slot.invariant.records;
      chains = λ once.
          let m = c.loop-slot.invariant.chains once in
          let n = c.chain_fields-head.ensures.chains old slots i m.0 once stands m.1 in
          (n.0, chains_next h old v slots i _ c.chain_fields-head.new.regions c.chain_fields-head.result n.0 stands n.1);
    }
