use Rattle.std.proofs.Common.{◌∙◌, Some, sym, ap, arith}
use Rattle.rg_compare.proofs.Answers.{one_more}
use Rattle.rg_compare.proofs.code.same_entries.Goals as goal

pub loop-method-preserved : goal.loop-method-preserved
loop-method-preserved c =
    let i = c.loop-method.invariant in
    let same = c.entry.ensures ∙ ap Some c.if-not-same_entry.ensures ∙ sym c.entry-in-loop-method.ensures in
    (i.0, one_more c.args.one.now.entries c.args.other.now.entries c.loop-method.method i.0 (omega arith) i.1 same)
