use Rattle.rg_tree.proofs.Adding.{extends-trans}
use Rattle.rg_blocks.proofs.BlockRows.{enters-made}
use Rattle.rg_blocks.proofs.parts.entered.Goals as goal

pub returns-clause-enters : goal.returns-clause-enters
returns-clause-enters c q w path is =
    enters-made c.args.body.in_method c.args.bridge c.args.program.now c.add_name.new.program c.giving_row.new.program c.args.path c.in_ok-name.name
    c.in_ok-giving.giving c.args.window q w path is c.in_ok-name.ensures.adds c.in_ok-giving.ensures.adds

pub returns-in_err-giving-clause-grows : goal.returns-in_err-giving-clause-grows
returns-in_err-giving-clause-grows c = extends-trans c.in_ok-name.ensures.grows c.in_err-giving.ensures.grows

pub returns-clause-grows : goal.returns-clause-grows
returns-clause-grows c = extends-trans c.in_ok-name.ensures.grows c.in_ok-giving.ensures.grows
