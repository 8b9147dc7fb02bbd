use Rattle.rg_tree.proofs.Adding.{extends-by, extends-trans}
use Rattle.rg_raise.proofs.Rows.{call-put}
use Rattle.rg_raise.proofs.row_parts.call_row.Goals as goal

pub returns-clause-adds : goal.returns-clause-adds
returns-clause-adds c call same path args =
    let e = c.in_ok-args.ensures in
    call-put c.args.body.in_method call c.args.place c.in_ok-method.ensures.adds e.keeps e.program e.span same path args

pub returns-clause-grows : goal.returns-clause-grows
returns-clause-grows c =
    let e = c.in_ok-args.ensures in
    extends-trans c.in_ok-method.ensures.grows (extends-by e.keeps e.program)
