use Rattle.std.proofs.Common.{◌∙◌, Some, sym, ap, arith}
use Rattle.rg_compare.proofs.Answers.{one_more}
use Rattle.rg_compare.proofs.code.same_ops.Goals as goal

pub loop-at-preserved : goal.loop-at-preserved
loop-at-preserved c =
    let i = c.loop-at.invariant in
    let same = c.get.ensures ∙ ap Some c.if-not-same_op.ensures ∙ sym c.get-in-loop-at.ensures in
    (i.0, one_more c.args.one.now.ops c.args.other.now.ops c.loop-at.at i.0 (omega arith) i.1 same)
