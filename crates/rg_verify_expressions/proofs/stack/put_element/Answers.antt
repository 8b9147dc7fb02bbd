use Rattle.std.proofs.lemmas.Result.{err_from_is_err_and}
use Rattle.rg_verify_expressions.proofs.Places.{element-there, element-tree, element-pile, element-put, element-refused}
use Rattle.rg_verify_expressions.proofs.stack.put_element.Goals as goal

pub put_tree-requires-clause-pile : goal.put_tree-requires-clause-pile
put_tree-requires-clause-pile c =
    let t = c.args.program.now in
    let m = c.args.body.in_method in
    let (items, p) = c.requires in
    element-pile t m c.take_place.new.stack.items items c.in_ok-path.path c.in_ok-path.index (c.in_ok-path.ensures t m items p)

pub put_tree-requires-clause-row : goal.put_tree-requires-clause-row
put_tree-requires-clause-row c =
    let t = c.args.program.now in
    let m = c.args.body.in_method in
    let (items, p) = c.requires in
    element-there t m c.take_place.new.stack.items items c.in_ok-path.path c.in_ok-path.index (c.in_ok-path.ensures t m items p)

pub put_tree-requires-clause-tree : goal.put_tree-requires-clause-tree
put_tree-requires-clause-tree c =
    let t = c.args.program.now in
    let m = c.args.body.in_method in
    let (items, p) = c.requires in
    element-tree t m c.take_place.new.stack.items items c.in_ok-path.path c.in_ok-path.index (c.in_ok-path.ensures t m items p)

pub returns-in_err-path-clause-makes : goal.returns-in_err-path-clause-makes
returns-in_err-path-clause-makes c items p =
    let t = c.args.program.now in
    let m = c.args.body.in_method in
    let q = err_from_is_err_and c.from_residual.result c.from_residual.ensures.1 in
    rw (q.1, q.2) (element-refused t m c.take_place.new.stack.items items c.in_err-path.field-0.0 c.args.end (c.in_err-path.ensures t m items p))

pub returns-clause-makes : goal.returns-clause-makes
returns-clause-makes c items p =
    let t = c.args.program.now in
    let m = c.args.body.in_method in
    element-put t m c.take_place.new.stack.items items c.in_ok-path.path c.in_ok-path.index c.put_tree.new.program c.put_tree.new.stack.items
    c.args.end c.put_tree.result (c.in_ok-path.ensures t m items p) c.put_tree.ensures.makes
