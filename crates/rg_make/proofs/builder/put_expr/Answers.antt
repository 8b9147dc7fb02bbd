use Rattle.rg_tree.proofs.Adding.{expr-put}
use Rattle.rg_make.proofs.builder.put_expr.Goals as goal

pub returns : goal.returns
returns c =
    let e = c.in_ok-number.ensures in
    expr-put _ e.keeps e.program _ e.number e.tree e.row
