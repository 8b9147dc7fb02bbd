use Rattle.std.proofs.Common.{sym}
use Rattle.rg_tree.proofs.Adding.{extends-trans}
use Rattle.rg_raise.specs.Telling.{given}
use Rattle.rg_raise.proofs.KindParts.{declared-made}
use Rattle.rg_raise.proofs.kinds.declared.Goals as goal

pub returns-clause-told : goal.returns-clause-told
returns-clause-told c types r is same =
    declared-made c.args.source.now.body.in_method c.args.program.now r c.args.right is c.add_name.new.program c.type_row.new.program
    (given c.args.source.now) types c.args.end c.args.slot c.in-Some.ty c.in-Ok.name c.in-Ok-type_row.written (sym c.in-Some.ensures) same
    c.in-Ok.ensures.adds c.in-Ok-type_row.ensures.adds

pub returns-in_default-type_row-clause-grows : goal.returns-in_default-type_row-clause-grows
returns-in_default-type_row-clause-grows c = extends-trans c.in-Ok.ensures.grows c.in_default-type_row.ensures.grows

pub returns-clause-grows : goal.returns-clause-grows
returns-clause-grows c = extends-trans c.in-Ok.ensures.grows c.in-Ok-type_row.ensures.grows
