use Rattle.std.proofs.Common.{subst}
use Rattle.rg_tree.specs.declared.rows.ExprRow.{ExprRow}
use Rattle.rg_tree.specs.Rows.RowTrees.{expr_of}
use Rattle.rg_tree.proofs.Adding.{extends-trans}
use Rattle.rg_verify_expressions.specs.Inner.Adds.{AddsTree}
use Rattle.rg_verify_expressions.proofs.Path.{query-there, query-pile, query-tree, query-put}
use Rattle.std.proofs.lemmas.Result.{err_from_is_err_and}
use Rattle.rg_verify_expressions.specs.Inner.Unaries.{tree_on}
use Rattle.rg_verify_expressions.proofs.Refused.{path-refused}
use Rattle.rg_verify_expressions.proofs.stack.put_query.Goals as goal

pub returns-in_err-slot-clause-makes : goal.returns-in_err-slot-clause-makes
returns-in_err-slot-clause-makes c items p =
    let t = c.args.program.now in
    let m = c.args.body.in_method in
    let q = err_from_is_err_and c.from_residual.result c.from_residual.ensures.1 in
    rw (q.1, q.2) (path-refused t m c.take_path.new.stack.items items c.in_err-slot.field-0.0 (tree_on c.args.query) c.args.end
    (c.in_err-slot.ensures t m items p))

pub put_expr-requires : goal.put_expr-requires
put_expr-requires c =
    let (items, p) = c.requires in
    let t = c.args.program.now in
    let u = c.path_row.new.program in
    let m = c.args.body.in_method in
    rw c.row_on.ensures (query-there c.args.query t u u m c.take_path.new.stack.items items c.in_ok-slot.slot c.in_ok-slot.fields
    (c.in_ok-slot.ensures t m items p) c.in-Ok.path c.as_slice.ensures.value c.in-Ok.ensures.adds)

pub settle-requires-clause-pile : goal.settle-requires-clause-pile
settle-requires-clause-pile c =
    let (items, p) = c.requires in
    let t = c.args.program.now in
    let u = c.path_row.new.program in
    let v = c.put_expr.new.program in
    let m = c.args.body.in_method in
    let put = subst (λ (r : ExprRow). AddsTree u v c.in-Ok-put_expr.row (expr_of u r)) c.row_on.ensures c.in-Ok-put_expr.ensures.adds in
    query-pile c.args.query t u v m c.take_path.new.stack.items items c.in_ok-slot.slot c.in_ok-slot.fields (c.in_ok-slot.ensures t m items p)
    c.in-Ok.path c.as_slice.ensures.value c.in-Ok.ensures.adds put

pub settle-requires-clause-tree : goal.settle-requires-clause-tree
settle-requires-clause-tree c =
    let (items, p) = c.requires in
    let t = c.args.program.now in
    let u = c.path_row.new.program in
    let v = c.put_expr.new.program in
    let m = c.args.body.in_method in
    let put = subst (λ (r : ExprRow). AddsTree u v c.in-Ok-put_expr.row (expr_of u r)) c.row_on.ensures c.in-Ok-put_expr.ensures.adds in
    query-tree c.args.query t u v m c.take_path.new.stack.items items c.in_ok-slot.slot c.in_ok-slot.fields (c.in_ok-slot.ensures t m items p)
    c.in-Ok.path c.as_slice.ensures.value c.in-Ok.ensures.adds put

pub returns-clause-makes : goal.returns-clause-makes
returns-clause-makes c items p =
    let t = c.args.program.now in
    let u = c.path_row.new.program in
    let v = c.put_expr.new.program in
    let m = c.args.body.in_method in
    let put = subst (λ (r : ExprRow). AddsTree u v c.in-Ok-put_expr.row (expr_of u r)) c.row_on.ensures c.in-Ok-put_expr.ensures.adds in
    query-put c.args.query t u v m c.take_path.new.stack.items items c.in_ok-slot.slot c.in_ok-slot.fields (c.in_ok-slot.ensures t m items p)
    c.in-Ok.path c.as_slice.ensures.value c.in-Ok.ensures.adds put c.settle.new.program c.settle.new.stack.items c.args.end c.settle.result
    c.settle.ensures.makes

pub returns-in_default-put_expr-clause-grows : goal.returns-in_default-put_expr-clause-grows
returns-in_default-put_expr-clause-grows c = extends-trans c.in-Ok.ensures.grows c.in_default-put_expr.ensures.grows

pub returns-clause-grows : goal.returns-clause-grows
returns-clause-grows c =
    extends-trans c.in-Ok.ensures.grows (extends-trans c.in-Ok-put_expr.ensures.grows c.settle.ensures.grows)
