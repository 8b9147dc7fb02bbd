use Rattle.rg_tree.specs.Tree.{call}
use Rattle.rg_tree.specs.Rows.RowTrees.{call_of}
use Rattle.rg_values.specs.Kept.{kept_of}
use Rattle.rg_statements.proofs.Statements.Statement.{statement-is}
use Rattle.rg_statements.proofs.call.call_step.Goals as goal

pub returns-clause-step : goal.returns-clause-step
returns-clause-step c input =
    let at = c.requires.stands.at in
    statement-is c.args.book.now.program (kept_of c.args.m.now) (kept_of c.call_named.new.m) input at.rest c.args.at.number c.args.at.line
    (call (call_of c.args.book.now.program c.args.row)) c.call_named.result at.items c.requires.stands.tree (c.call_named.ensures.called input at.rest
    at.items)
