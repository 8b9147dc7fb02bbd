use Rattle.std.proofs.lemmas.Result.{err_from_is_err_and}
use Rattle.rg_tree.specs.Rows.Tables.{numbers_in}
use Rattle.rg_names.proofs.EntrySteps.{entries-fault, entries-step}
use Rattle.rg_names.proofs.found.class_entries.Goals as goal

pub returns-in_err-add-clause-judged : goal.returns-in_err-add-clause-judged
returns-in_err-add-clause-judged c =
    let p = err_from_is_err_and c.from_residual.result c.from_residual.ensures.1 in
    rw (p.1, p.2) (entries-fault c.args.program.now c.args.class (numbers_in c.args.program.now c.args.class.members) c.args.methods c.loop-k.k-index
    c.loop-k.found.entries c.loop-k.found.fields c.loop-k.found.methods c.member.result c.loop-k.invariant
    (rw c.order-k-items.ensures at c.loop-k-test.true) (rw c.order-k-items.ensures at c.member.ensures.row) c.member.ensures.below _
    c.in_err-add.ensures.judged)

pub loop-k-preserved : goal.loop-k-preserved
loop-k-preserved c =
    rw (c.in_ok-add.ensures.entries, c.in_ok-add.ensures.fields, c.in_ok-add.ensures.methods)
    (entries-step c.args.program.now c.args.class (numbers_in c.args.program.now c.args.class.members) c.args.methods c.loop-k.k-index
    c.loop-k.found.entries c.loop-k.found.fields c.loop-k.found.methods c.member.result c.loop-k.invariant
    (rw c.order-k-items.ensures at c.loop-k-test.true) (rw c.order-k-items.ensures at c.member.ensures.row) c.member.ensures.below
    c.in_ok-add.ensures.judged)
