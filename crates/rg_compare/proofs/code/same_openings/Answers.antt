use Rattle.std.proofs.Common.{◌∙◌, Some, sym, ap, arith}
use Rattle.rg_compare.proofs.Answers.{one_more}
use Rattle.rg_compare.proofs.code.same_openings.Goals as goal

pub loop-class-preserved : goal.loop-class-preserved
loop-class-preserved c =
    let i = c.loop-class.invariant in
    let same = c.opening.ensures ∙ ap Some c.if-not-same_words.ensures ∙ sym c.opening-in-loop-class.ensures in
    (i.0, one_more c.args.one.now.openings c.args.other.now.openings c.loop-class.class i.0 (omega arith) i.1 same)
