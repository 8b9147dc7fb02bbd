use Rattle.std.proofs.lemmas.Result.{err_from_is_err_and}
use Rattle.rg_tree.specs.Rows.RowTrees.{stmt_at}
use Rattle.rg_check.proofs.BlockSteps.{next-and-others, block-fault, block-step}
use Rattle.rg_check.proofs.statements.judge_block.Goals as goal

pub returns-in_err-env : goal.returns-in_err-env
returns-in_err-env c =
    let t = c.args.program.now in
    let p = err_from_is_err_and c.from_residual.result c.from_residual.ensures.1 in
    rw (p.1, p.2) (block-fault t c.args.result_type c.args.env c.args.these.now c.loop-rest.env c.loop-rest.rest.now _ _ c.loop-rest.invariant
    (next-and-others c.loop-rest.rest.now c.in-len1-up.len_at_least) _
    (rw (c.last_of-last.ensures.last (stmt_at t)) at c.in_err-env.ensures.judged))

pub loop-rest-preserved : goal.loop-rest-preserved
loop-rest-preserved c =
    let t = c.args.program.now in
    block-step t c.args.result_type c.args.env c.args.these.now c.loop-rest.env c.loop-rest.rest.now _ _ c.loop-rest.invariant
    (next-and-others c.loop-rest.rest.now c.in-len1-up.len_at_least) c.in_ok-env.env
    (rw (c.last_of-last.ensures.last (stmt_at t)) at c.in_ok-env.ensures.judged) c.in_ok-env.ensures.scope c.in_ok-env.ensures.room
