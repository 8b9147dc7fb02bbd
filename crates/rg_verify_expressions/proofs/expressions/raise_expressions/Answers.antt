use Rattle.std.proofs.Common.{drop}
use Rattle.std.proofs.lemmas.Result.{err_from_is_err_and}
use Rattle.rg_verify_expressions.proofs.Walking.{walk-refused, rows-refused, rows-raised}
use Rattle.rg_verify_expressions.proofs.expressions.raise_expressions.Goals as goal

pub returns-in_err-stack-clause-raises : goal.returns-in_err-stack-clause-raises
returns-in_err-stack-clause-raises c =
    let p = err_from_is_err_and c.from_residual.result c.from_residual.ensures.1 in
    rw (p.1, p.2) (walk-refused c.args.program.now c.walk.new.program c.args.in_method (drop c.args.at c.args.code.now.ops) c.args.at
    c.in_err-stack.field-0.0 c.in_err-stack.ensures.walks)

pub returns-in_err-rows-clause-raises : goal.returns-in_err-rows-clause-raises
returns-in_err-rows-clause-raises c =
    let p = err_from_is_err_and c.from_residual-in_err-rows.result c.from_residual-in_err-rows.ensures.1 in
    rw (p.1, p.2) (rows-refused c.args.program.now c.walk.new.program c.take_rows.new.program c.args.in_method
    (drop c.args.at c.args.code.now.ops) c.args.at c.in_ok-stack.end c.in_ok-stack.stack c.in_ok-stack.ensures.walks c.in_err-rows.field-0.0
    c.in_err-rows.ensures.makes)

pub returns-clause-raises : goal.returns-clause-raises
returns-clause-raises c =
    rows-raised c.args.program.now c.walk.new.program c.take_rows.new.program c.args.in_method (drop c.args.at c.args.code.now.ops) c.args.at
    c.in_ok-stack.end c.in_ok-stack.stack c.in_ok-stack.ensures.walks c.in_ok-rows.rows c.in_ok-rows.ensures.makes
