use Rattle.std.proofs.Common.{◌∙◌, Some, sym, ap, arith}
use Rattle.rg_compare.proofs.Answers.{one_more}
use Rattle.rg_compare.proofs.whole.same_maps.Goals as goal

pub loop-at-preserved : goal.loop-at-preserved
loop-at-preserved c =
    let i = c.loop-at.invariant in
    let same = c.map_at.ensures ∙ ap Some c.if-not-same_types.ensures ∙ sym c.map_at-in-loop-at.ensures in
    (i.0, one_more c.args.one.now.maps c.args.other.now.maps c.loop-at.at i.0 (omega arith) i.1 same)
