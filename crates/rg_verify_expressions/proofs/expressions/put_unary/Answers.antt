use Rattle.std.proofs.Common.{ap, ◌∙◌}
use Rattle.rg_tree.specs.Rows.RowTrees.{expr_of}
use Rattle.rg_tree.proofs.Adding.{extends-trans}
use Rattle.rg_verify_expressions.specs.Inner.Unaries.{tree_over}
use Rattle.rg_verify_expressions.proofs.Put.{took-tree, put-over, taken-there, over-there, over-is, over-no-path}
use Rattle.rg_verify_expressions.proofs.expressions.put_unary.Goals as goal

pub put_tree-requires-clause-row : goal.put_tree-requires-clause-row
put_tree-requires-clause-row c =
    rw c.row_over.ensures (over-there c.args.unary _ c.in_ok-a.a (taken-there c.args.body.in_method c.requires c.in_ok-a.ensures.takes))

pub put_tree-requires-clause-tree : goal.put_tree-requires-clause-tree
put_tree-requires-clause-tree c =
    let (items, p) = c.requires in
    let u = c.take_row.new.program in
    let m = c.args.body.in_method in
    let (r, e) = took-tree c.args.program.now u m c.take_row.new.stack.items items c.in_ok-a.a (c.in_ok-a.ensures.takes items p) in
    (tree_over c.args.unary r, ap (expr_of u) c.row_over.ensures ∙ over-is c.args.unary u m c.in_ok-a.a r e, over-no-path c.args.unary r)

pub returns-clause-makes : goal.returns-clause-makes
returns-clause-makes c items p =
    let u = c.take_row.new.program in
    let m = c.args.body.in_method in
    put-over c.args.program.now u m c.take_row.new.stack.items c.put_tree.new.program c.put_tree.new.stack.items c.in_ok-a.a c.row_over.result
    (tree_over c.args.unary) c.args.end c.put_tree.result items (c.in_ok-a.ensures.takes items p)
    (λ r e. ap (expr_of u) c.row_over.ensures ∙ over-is c.args.unary u m c.in_ok-a.a r e) (over-no-path c.args.unary) c.put_tree.ensures.makes

pub returns-clause-grows : goal.returns-clause-grows
returns-clause-grows c = extends-trans c.in_ok-a.ensures.grows c.put_tree.ensures.grows
