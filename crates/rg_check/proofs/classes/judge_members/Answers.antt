use Rattle.std.proofs.lemmas.Result.{err_from_is_err_and}
use Rattle.rg_check.proofs.MethodSteps.{member-may, members-fault, members-step}
use Rattle.rg_check.proofs.classes.judge_members.Goals as goal

pub judge_member-requires-clause-member : goal.judge_member-requires-clause-member
judge_member-requires-clause-member c =
    member-may c.args.program.now c.args.class c.args.these.now c.loop-k.k-index c.member.result c.loop-k-test.true c.member.ensures.tree
    c.requires.each

pub returns-in_err-judge_member : goal.returns-in_err-judge_member
returns-in_err-judge_member c =
    let p = err_from_is_err_and c.from_residual.result c.from_residual.ensures.1 in
    rw (p.1, p.2) (members-fault c.args.program.now c.args.class c.args.these.now c.loop-k.k-index c.member.result c.loop-k-test.true
    c.member.ensures.tree c.loop-k.invariant _ c.in_err-judge_member.ensures)

pub loop-k-preserved : goal.loop-k-preserved
loop-k-preserved c =
    members-step c.args.program.now c.args.class c.args.these.now c.loop-k.k-index c.member.result c.loop-k-test.true
    c.member.ensures.tree c.loop-k.invariant c.in_ok-judge_member.ensures
