use Rattle.std.proofs.Common.{refl}
use Rattle.rg_verify_expressions.specs.Raised.{binary}
use Rattle.rg_tree.proofs.Adding.{extends-trans}
use Rattle.rg_verify_expressions.proofs.Put.{both, both-there, both-is, put-between}
use Rattle.rg_verify_expressions.proofs.expressions.put_operator.Goals as goal

pub put_tree-requires-clause-row : goal.put_tree-requires-clause-row
put_tree-requires-clause-row c =
    let (items, p) = c.requires in
    let k = both c.args.program.now c.take_row.new.program c.take_row-2.new.program c.args.body.in_method c.take_row.new.stack.items
    c.take_row-2.new.stack.items items c.in_ok-right.right c.in_ok-left.left (c.in_ok-right.ensures.takes items p) c.in_ok-left.ensures.takes in
    both-there _ _ _ _ _ _ c.args.op k

pub put_tree-requires-clause-tree : goal.put_tree-requires-clause-tree
put_tree-requires-clause-tree c =
    let (items, p) = c.requires in
    let k = both c.args.program.now c.take_row.new.program c.take_row-2.new.program c.args.body.in_method c.take_row.new.stack.items
    c.take_row-2.new.stack.items items c.in_ok-right.right c.in_ok-left.left (c.in_ok-right.ensures.takes items p) c.in_ok-left.ensures.takes in
    (binary c.args.op k.a k.b, both-is _ _ _ _ _ _ c.args.op k, refl)

pub returns-clause-makes : goal.returns-clause-makes
returns-clause-makes c items p =
    let k = both c.args.program.now c.take_row.new.program c.take_row-2.new.program c.args.body.in_method c.take_row.new.stack.items
    c.take_row-2.new.stack.items items c.in_ok-right.right c.in_ok-left.left (c.in_ok-right.ensures.takes items p) c.in_ok-left.ensures.takes in
    put-between _ _ _ _ _ _ c.args.op k c.put_tree.new.program
    c.put_tree.new.stack.items c.args.end c.put_tree.result c.put_tree.ensures.makes

pub returns-in_err-left-clause-grows : goal.returns-in_err-left-clause-grows
returns-in_err-left-clause-grows c = extends-trans c.in_ok-right.ensures.grows c.in_err-left.ensures.grows

pub returns-clause-grows : goal.returns-clause-grows
returns-clause-grows c =
    extends-trans c.in_ok-right.ensures.grows (extends-trans c.in_ok-left.ensures.grows c.put_tree.ensures.grows)
