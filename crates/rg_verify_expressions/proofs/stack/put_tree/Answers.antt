use Rattle.rg_verify_expressions.proofs.TreeStack.{piled-later}
use Rattle.rg_tree.proofs.Adding.{extends-trans}
use Rattle.rg_verify_expressions.proofs.Put.{puts-tree}
use Rattle.rg_verify_expressions.proofs.stack.put_tree.Goals as goal

pub settle-requires-clause-pile : goal.settle-requires-clause-pile
settle-requires-clause-pile c =
    let (items, p) = c.requires.pile in
    (items, piled-later c.args.body.in_method c.args.stack.now.items items c.in-Ok.ensures.adds.extends p)

pub returns-clause-makes : goal.returns-clause-makes
returns-clause-makes c =
    puts-tree c.args.program.now c.put_expr.new.program c.settle.new.program c.args.body.in_method c.args.stack.now.items c.settle.new.stack.items
    c.args.end c.in-Ok.row c.args.row c.settle.result c.in-Ok.ensures.adds c.settle.ensures.makes

pub returns-clause-grows : goal.returns-clause-grows
returns-clause-grows c = extends-trans c.in-Ok.ensures.grows c.settle.ensures.grows
