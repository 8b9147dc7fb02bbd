use Rattle.rg_tree.proofs.Adding.{extends-trans, extends-by}
use Rattle.rg_verify_expressions.proofs.Row.{path-put}
use Rattle.rg_verify_expressions.proofs.rows.path_row.Goals as goal

pub returns-clause-adds : goal.returns-clause-adds
returns-clause-adds c ks names =
    let e = c.in_ok-fields.ensures in
    path-put c.in_ok-base.ensures.adds names e.keeps e.program e.span

pub returns-clause-grows : goal.returns-clause-grows
returns-clause-grows c =
    let e = c.in_ok-fields.ensures in
    extends-trans c.in_ok-base.ensures.grows (extends-by e.keeps e.program)
