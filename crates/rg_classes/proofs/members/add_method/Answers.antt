use Rattle.rg_tree.proofs.Adding.{extends-trans}
use Rattle.rg_classes.proofs.Adding.{adds-there, adds-over, method-row, body-here}
use Rattle.rg_classes.proofs.members.add_method.Goals as goal

pub add_params-requires : goal.add_params-requires
add_params-requires c = rw c.items.ensures c.requires.few

pub put_member-requires : goal.put_member-requires
put_member-requires c =
    let params = rw c.items.ensures at c.in_ok-params.ensures.adds in
    adds-there (method-row c.args.k c.args.head.now c.args.body _ c.in_ok-name.ensures.adds params c.in_ok-result.ensures.adds
    (body-here c.args.body c.requires.body))

pub returns-clause-adds : goal.returns-clause-adds
returns-clause-adds c b m =
    let params = rw c.items.ensures at c.in_ok-params.ensures.adds in
    adds-over (λ x. x)
    (method-row c.args.k c.args.head.now c.args.body b c.in_ok-name.ensures.adds params c.in_ok-result.ensures.adds m)
    c.in_ok-number.ensures.adds

pub returns-clause-grows : goal.returns-clause-grows
returns-clause-grows c =
    extends-trans c.in_ok-name.ensures.grows
    (extends-trans c.in_ok-params.ensures.grows (extends-trans c.in_ok-result.ensures.grows c.in_ok-number.ensures.grows))

pub returns-in_err-params-clause-grows : goal.returns-in_err-params-clause-grows
returns-in_err-params-clause-grows c = extends-trans c.in_ok-name.ensures.grows c.in_err-params.ensures.grows

pub returns-in_err-result-clause-grows : goal.returns-in_err-result-clause-grows
returns-in_err-result-clause-grows c =
    extends-trans c.in_ok-name.ensures.grows (extends-trans c.in_ok-params.ensures.grows c.in_err-result.ensures.grows)

pub returns-in_err-number-clause-grows : goal.returns-in_err-number-clause-grows
returns-in_err-number-clause-grows c =
    extends-trans c.in_ok-name.ensures.grows
    (extends-trans c.in_ok-params.ensures.grows (extends-trans c.in_ok-result.ensures.grows c.in_err-number.ensures.grows))
