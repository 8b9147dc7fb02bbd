use Rattle.std.proofs.Common.{◌∙◌, max, sym, ap, arith}
use Rattle.std.proofs.lemmas.Option.{slice_get_within}
use Rattle.rg_module.proofs.Bodies.{along-goes, along-ends, along-slots, along-past, along-past-slots}
use Rattle.rg_module.proofs.follows.body_at.Goals as goal

pub returns-then-ends_body-clause-end : goal.returns-then-ends_body-clause-end
returns-then-ends_body-clause-end c =
    let ops = c.args.code.now.ops in
    let there = c.get-op.ensures in
    let lt = slice_get_within ops c.loop-at.at c.get-op.result there in
    along-ends ops c.args.from c.args.given c.loop-at.at c.loop-at.slots c.get-op.result there lt c.loop-at.invariant
    (sym c.ends_body.ensures ∙ c.if-ends_body.true)

pub returns-then-ends_body-clause-slots : goal.returns-then-ends_body-clause-slots
returns-then-ends_body-clause-slots c =
    let ops = c.args.code.now.ops in
    let there = c.get-op.ensures in
    let lt = slice_get_within ops c.loop-at.at c.get-op.result there in
    c.max-slots.ensures ∙ ap (max c.loop-at.slots) c.above.ensures
    ∙ along-slots ops c.args.from c.args.given c.loop-at.at c.loop-at.slots c.get-op.result there lt c.loop-at.invariant
    (sym c.ends_body.ensures ∙ c.if-ends_body.true)

pub loop-at-preserved : goal.loop-at-preserved
loop-at-preserved c =
    let ops = c.args.code.now.ops in
    let there = c.get-op.ensures in
    let lt = slice_get_within ops c.loop-at.at c.get-op.result there in
    rw (c.max-slots.ensures, c.above.ensures)
    (along-goes ops c.args.from c.args.given c.loop-at.at c.loop-at.slots c.get-op.result there lt c.loop-at.invariant
    (sym c.ends_body.ensures ∙ c.if-ends_body.false))

pub returns-clause-end : goal.returns-clause-end
returns-clause-end c = along-past c.args.code.now.ops c.args.from c.args.given c.loop-at.at c.loop-at.slots (omega arith) c.loop-at.invariant

pub returns-clause-slots : goal.returns-clause-slots
returns-clause-slots c = along-past-slots c.args.code.now.ops c.args.from c.args.given c.loop-at.at c.loop-at.slots (omega arith) c.loop-at.invariant
