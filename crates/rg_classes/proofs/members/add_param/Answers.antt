use Rattle.rg_tree.proofs.Adding.{extends-trans, extends-by}
use Rattle.rg_classes.proofs.Adding.{adds-there, adds-over, param-row, param-put}
use Rattle.rg_classes.proofs.members.add_param.Goals as goal

pub add_param-requires : goal.add_param-requires
add_param-requires c = adds-there (param-row c.args.slot c.args.ty c.in_ok-name.ensures.adds c.in_ok-ty.ensures.adds)

pub returns-clause-adds : goal.returns-clause-adds
returns-clause-adds c =
    let e = c.in_ok-number.ensures in
    adds-over (λ p. p) (param-row c.args.slot c.args.ty c.in_ok-name.ensures.adds c.in_ok-ty.ensures.adds)
    (param-put _ e.keeps e.program _ e.number e.tree e.row)

pub returns-clause-grows : goal.returns-clause-grows
returns-clause-grows c =
    let e = c.in_ok-number.ensures in
    extends-trans c.in_ok-name.ensures.grows (extends-trans c.in_ok-ty.ensures.grows (extends-by e.keeps e.program))

pub returns-in_err-ty-clause-grows : goal.returns-in_err-ty-clause-grows
returns-in_err-ty-clause-grows c = extends-trans c.in_ok-name.ensures.grows c.in_err-ty.ensures.grows

pub returns-in_err-number-clause-grows : goal.returns-in_err-number-clause-grows
returns-in_err-number-clause-grows c =
    let e = c.in_err-number.ensures in
    extends-trans c.in_ok-name.ensures.grows (extends-trans c.in_ok-ty.ensures.grows (extends-by e.keeps e.program))
