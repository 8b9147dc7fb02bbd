use Rattle.rg_tree.proofs.Adding.{extends-trans}
use Rattle.rg_classes.proofs.Adding.{adds-there, adds-over, field-row}
use Rattle.rg_classes.proofs.members.add_field.Goals as goal

pub put_member-requires : goal.put_member-requires
put_member-requires c = adds-there (field-row c.args.k c.args.ty c.in_ok-name.ensures.adds c.in_ok-ty.ensures.adds)

pub returns-clause-adds : goal.returns-clause-adds
returns-clause-adds c =
    adds-over (λ m. m) (field-row c.args.k c.args.ty c.in_ok-name.ensures.adds c.in_ok-ty.ensures.adds) c.in_ok-number.ensures.adds

pub returns-clause-grows : goal.returns-clause-grows
returns-clause-grows c = extends-trans c.in_ok-name.ensures.grows (extends-trans c.in_ok-ty.ensures.grows c.in_ok-number.ensures.grows)

pub returns-in_err-ty-clause-grows : goal.returns-in_err-ty-clause-grows
returns-in_err-ty-clause-grows c = extends-trans c.in_ok-name.ensures.grows c.in_err-ty.ensures.grows

pub returns-in_err-number-clause-grows : goal.returns-in_err-number-clause-grows
returns-in_err-number-clause-grows c =
    extends-trans c.in_ok-name.ensures.grows (extends-trans c.in_ok-ty.ensures.grows c.in_err-number.ensures.grows)
