use Rattle.rg_tree.proofs.Adding.{expr-put}
use Rattle.rg_verify_expressions.proofs.rows.put_expr.Goals as goal

pub returns-clause-adds : goal.returns-clause-adds
returns-clause-adds c =
    let e = c.in_ok-number.ensures in
    expr-put _ e.keeps e.program _ e.number e.tree e.row
