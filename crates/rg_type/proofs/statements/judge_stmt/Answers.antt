use Rattle.rg_tree.specs.Rows.RowTrees.{stmt_at}
use Rattle.rg_type.proofs.BlockSteps.{stmt-room}
use Rattle.rg_type.proofs.statements.judge_stmt.Goals as goal

pub returns-clause-room : goal.returns-clause-room
returns-clause-room c =
    stmt-room c.args.program.now c.args.last c.args.env c.statement.new.env (stmt_at c.args.program.now c.args.s)
    (rw c.new-book.ensures at c.in_ok-statement.ensures.judged)
